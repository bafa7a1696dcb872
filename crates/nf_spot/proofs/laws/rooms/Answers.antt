use Rattle.nf_spot.proofs.Keeping.{may_push, may_count}
use Rattle.nf_spot.proofs.laws.rooms.Goals as goal

pub returns-clause-push : goal.returns-clause-push
returns-clause-push c node sp s h o cl l = may_push node.kind sp s.kept c.room.ensures h.keeps o cl l

pub returns-clause-take : goal.returns-clause-take
returns-clause-take c node sp s h l = may_count node.kind sp s.kept h.keeps l
