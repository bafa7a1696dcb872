use Rattle.nf_value.specs.View.{plain_of}
use Rattle.nf_infix.specs.Sum.{list_plus}
use Rattle.nf_infix.proofs.Members.{list_gives}
use Rattle.nf_infix.proofs.sums.plus.Goals as goal

pub returns-in-List : goal.returns-in-List
returns-in-List c = rw c.in-List.is (list_gives c.in-List.list (λ vs. list_plus vs (plain_of c.args.right)) c.plus_list.result c.plus_list.ensures)
