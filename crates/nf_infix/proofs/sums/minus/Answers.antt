use Rattle.nf_value.specs.View.{plain_of}
use Rattle.nf_infix.specs.Sum.{list_minus}
use Rattle.nf_infix.proofs.Members.{list_gives}
use Rattle.nf_infix.proofs.sums.minus.Goals as goal

pub returns-in-List : goal.returns-in-List
returns-in-List c = rw c.in-List.is (list_gives c.in-List.list (λ vs. list_minus vs (plain_of c.args.right.now)) c.minus_list.result c.minus_list.ensures)
