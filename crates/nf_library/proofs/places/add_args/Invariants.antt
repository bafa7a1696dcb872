use Rattle.std.proofs.Common.{take}
use Rattle.nf_ast.specs.View.{view_arg}
use Rattle.nf_library.specs.Patterns.{in_row, patterns_in}
use Rattle.nf_library.specs.Shelves.{Adds}
use Rattle.nf_library.proofs.places.add_args.Given as goal

abbrev pub invariant-loop-arg : goal.invariant-loop-arg
invariant-loop-arg l = Adds (in_row view_arg patterns_in (take l.arg-index l.args)) l.initial.shelf l.shelf
