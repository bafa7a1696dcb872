use Rattle.std.proofs.Common.{arith}
use Rattle.nf_opjoin.proofs.Cells.{row_more, row_end}
use Rattle.nf_opjoin.proofs.columns.put_row.Goals as goal

pub loop-item-preserved : goal.loop-item-preserved
loop-item-preserved c =
    let more = row_more c.loop-item.columns.items c.put_cell.new.columns.items _ c.loop-item.place c.in-Some.item c.next.new.self.rest.items c.loop-item.item-iterator.rest.items (omega arith) c.in-Some.ensures.steps.0 c.in_ok-put_cell.ensures c.loop-item.invariant.0 in
    (more.0, omega (arith, more.1))

pub returns : goal.returns
returns c = row_end c.loop-item.columns.items _ c.loop-item.place c.loop-item.item-iterator.rest.items (omega (arith, c.in-None.ensures.steps.0)) c.loop-item.invariant.0
