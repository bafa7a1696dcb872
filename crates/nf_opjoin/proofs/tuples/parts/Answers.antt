use Rattle.nf_opjoin.proofs.Listing.{parts_listed}
use Rattle.nf_opjoin.proofs.tuples.parts.Goals as goal

pub returns-in-List : goal.returns-in-List
returns-in-List c = parts_listed c.args.item c.in-List.list c.in-List.is
