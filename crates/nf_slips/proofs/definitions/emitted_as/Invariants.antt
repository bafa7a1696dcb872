use Rattle.std.proofs.Common.{◌≡◌, map, drop}
use Rattle.nf_ast.specs.View.{trees, view_label}
use Rattle.nf_slips.specs.Definitions.{emitted_after, emitted_as}
use Rattle.nf_slips.proofs.definitions.emitted_as.Given as goal

abbrev pub invariant-loop-option : goal.invariant-loop-option
invariant-loop-option l = emitted_after l.name (trees (map view_label (drop l.option-index l.options))) ≡ emitted_as (trees (map view_label l.options))
