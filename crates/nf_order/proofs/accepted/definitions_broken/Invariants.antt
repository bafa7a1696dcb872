use Rattle.std.proofs.Common.{◌≡◌, ◌++◌, map, drop}
use Rattle.nf_ast.specs.Tops.{view_top}
use Rattle.nf_ast.specs.View.{trees}
use Rattle.nf_order.specs.Accepted.{definitions_broken}
use Rattle.nf_order.proofs.accepted.definitions_broken.Given as goal

abbrev pub invariant-loop-top : goal.invariant-loop-top
invariant-loop-top l = l.broken.items ++ definitions_broken (trees (map view_top (drop l.top-index l.tops))) ≡ definitions_broken (trees (map view_top l.tops))
