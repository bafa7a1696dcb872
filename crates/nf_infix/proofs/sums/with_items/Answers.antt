use Rattle.nf_infix.proofs.Members.{with_list}
use Rattle.nf_infix.proofs.sums.with_items.Goals as goal

pub returns-in-List : goal.returns-in-List
returns-in-List c = rw c.in-List.is (with_list c.args.list c.in-List.more c.joined.result c.joined.ensures)
