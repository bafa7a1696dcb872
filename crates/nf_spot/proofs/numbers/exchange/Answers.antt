use Rattle.nf_spot.proofs.Order.{exchanged, moved_place}
use Rattle.nf_spot.proofs.numbers.exchange.Goals as goal

pub returns-clause-ordered : goal.returns-clause-ordered
returns-clause-ordered c = exchanged _ _ c.args.number c.args.place c.requires.ordered c.requires.number c.requires.place

pub returns-clause-moved : goal.returns-clause-moved
returns-clause-moved c x l = moved_place _ _ c.args.number c.args.place c.requires.ordered c.requires.number c.requires.place x l
