use Rattle.std.proofs.Common.{◌≡◌, map, drop}
use Rattle.nf_ast.specs.Tops.{view_top}
use Rattle.nf_ast.specs.View.{trees}
use Rattle.nf_slips.specs.Definitions.{definition_in}
use Rattle.nf_slips.proofs.definitions.find_definition.Given as goal

abbrev pub invariant-loop-top : goal.invariant-loop-top
invariant-loop-top l = definition_in l.name (trees (map view_top (drop l.top-index l.tops))) ≡ definition_in l.name (trees (map view_top l.tops))
