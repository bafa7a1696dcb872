use Rattle.std.proofs.Common.{◌≡◌, map, drop}
use Rattle.nf_builtins.specs.Natives.{is_among}
use Rattle.nf_order.proofs.natives.has_row.Given as goal

abbrev pub invariant-loop-row : goal.invariant-loop-row
invariant-loop-row g l = is_among l.name (map g.R.Named.label (drop l.row-index l.rows)) ≡ is_among l.name (map g.R.Named.label l.rows)
