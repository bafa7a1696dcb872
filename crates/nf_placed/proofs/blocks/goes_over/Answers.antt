use Rattle.nf_value.specs.Plain.{plains_of}
use Rattle.nf_placed.proofs.blocks.goes_over.Goals as goal

pub returns-in-List : goal.returns-in-List
returns-in-List c = rw c.in-List.is (c.over_list.ensures (plains_of c.in-List.field-0))
