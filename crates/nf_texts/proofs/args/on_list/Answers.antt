use Rattle.std.proofs.Common.{ap, Ok}
use Rattle.nf_texts.proofs.Inside.{items_of-plains_of}
use Rattle.nf_texts.proofs.args.on_list.Goals as goal

pub returns-in-List : goal.returns-in-List
returns-in-List c = rw c.in-List.is (ap Ok (items_of-plains_of c.in-List.list))
