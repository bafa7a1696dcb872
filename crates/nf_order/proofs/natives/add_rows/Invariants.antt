use Rattle.std.proofs.Common.{◌≡◌, ◌++◌, map, drop}
use Rattle.nf_ast.specs.Tops.{view_top}
use Rattle.nf_ast.specs.View.{trees}
use Rattle.nf_order.specs.Accepted.{undefined_of}
use Rattle.nf_order.proofs.natives.add_rows.Given as goal

abbrev pub invariant-loop-row : goal.invariant-loop-row
invariant-loop-row g l = l.names.items ++ undefined_of (trees (map view_top l.tops)) (map g.R.Named.label (drop l.row-index l.rows)) ≡ l.initial.names.items ++ undefined_of (trees (map view_top l.tops)) (map g.R.Named.label l.rows)
