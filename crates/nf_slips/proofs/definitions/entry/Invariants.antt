use Rattle.std.proofs.Common.{◌≡◌, map, drop}
use Rattle.nf_ast.specs.Tops.{view_top}
use Rattle.nf_ast.specs.View.{trees}
use Rattle.nf_slips.specs.Definitions.{entry_in}
use Rattle.nf_slips.proofs.definitions.entry.Given as goal

abbrev pub invariant-loop-top : goal.invariant-loop-top
invariant-loop-top l = entry_in (trees (map view_top (drop l.top-index l.tops))) ≡ entry_in (trees (map view_top l.tops))
