use Rattle.std.proofs.Common.{◌≡◌, ◌++◌, map, drop}
use Rattle.nf_ast.specs.Tops.{view_top}
use Rattle.nf_ast.specs.View.{trees}
use Rattle.nf_order.specs.Accepted.{undefined_of}
use Rattle.nf_order.proofs.natives.add_listed.Given as goal

abbrev pub invariant-loop-name : goal.invariant-loop-name
invariant-loop-name l = l.names.items ++ undefined_of (trees (map view_top l.tops)) (map (λ n. n.now) (drop l.name-index l.listed)) ≡ l.initial.names.items ++ undefined_of (trees (map view_top l.tops)) (map (λ n. n.now) l.listed)
