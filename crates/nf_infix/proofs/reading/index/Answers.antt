use Rattle.nf_value.specs.View.{plain_of}
use Rattle.nf_infix.specs.Read.{list_index}
use Rattle.nf_infix.proofs.Members.{list_gives}
use Rattle.nf_infix.proofs.reading.index.Goals as goal

pub returns-in-List : goal.returns-in-List
returns-in-List c = rw c.in-List.is (list_gives c.in-List.list (λ vs. list_index vs (plain_of c.args.at.now)) c.index_list.result c.index_list.ensures)
