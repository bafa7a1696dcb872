use Rattle.std.proofs.Common.{arith}
use Rattle.nf_opjoin.proofs.Cells.{cell_pushed, cell_replaced}
use Rattle.nf_opjoin.proofs.columns.put_cell.Goals as goal

pub returns-then-len-place : goal.returns-then-len-place
returns-then-len-place c =
    cell_pushed c.args.columns.now.items c.push-then-len-place.new.self.items c.args.place c.of.result c.new-cells.result.items c.push.new.self.items c.args.item (omega arith) (omega arith) c.new-cells.ensures.items c.in_ok-push.ensures.items c.of.ensures
    c.in_ok-push-2.ensures.items

pub returns : goal.returns
returns c =
    cell_replaced c.args.columns.now.items c.args.place c.replace.new.dest c.index_mut.result.now c.replace.result c.of-3.result c.into_items-cells.result.items c.push-2.new.self.items c.args.item (omega arith) c.index_mut.ensures.value c.replace.ensures.value
    c.into_items-cells.ensures c.in_ok-push-3.ensures.items c.of-3.ensures
