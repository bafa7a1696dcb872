use Rattle.std.proofs.Common.{◌∙◌, sym}
use Rattle.nf_infix.proofs.Members.{items_of-plains_of}
use Rattle.nf_eval.proofs.reading.listed.Goals as goal

pub returns-in-List : goal.returns-in-List
returns-in-List c = rw c.in-List.is (c.items.ensures ∙ sym (items_of-plains_of c.in-List.list))
