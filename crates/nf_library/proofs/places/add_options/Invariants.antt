use Rattle.std.proofs.Common.{take}
use Rattle.nf_ast.specs.View.{view_label}
use Rattle.nf_library.specs.Patterns.{in_row, patterns_in}
use Rattle.nf_library.specs.Shelves.{Adds}
use Rattle.nf_library.proofs.places.add_options.Given as goal

abbrev pub invariant-loop-option : goal.invariant-loop-option
invariant-loop-option l = Adds (in_row view_label patterns_in (take l.option-index l.options)) l.initial.shelf l.shelf
