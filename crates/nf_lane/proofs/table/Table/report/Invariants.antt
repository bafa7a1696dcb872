use Rattle.std.proofs.Common.{◌≡◌, drop}
use Rattle.nf_lane.specs.World.{report_of}
use Rattle.nf_lane.proofs.table.Table.report.Given as goal

abbrev pub invariant-loop-item : goal.invariant-loop-item
invariant-loop-item l = report_of (drop l.item-index l.item-items) l.text ≡ report_of l.item-items l.text
