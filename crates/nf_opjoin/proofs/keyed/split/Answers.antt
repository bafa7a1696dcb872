use Rattle.nf_opjoin.proofs.Splitting.{split_listed}
use Rattle.nf_opjoin.proofs.keyed.split.Goals as goal

pub returns-in-List : goal.returns-in-List
returns-in-List c = split_listed c.args.place c.args.item c.in-List.list c.in-List.is c.split_list.result c.split_list.ensures
