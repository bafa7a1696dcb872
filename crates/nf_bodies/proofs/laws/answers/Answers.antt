use Rattle.nf_bodies.proofs.Answering.{item_answers, literal_answers, pattern_answers}
use Rattle.nf_bodies.proofs.laws.answers.Goals as goal

pub returns-clause-item : goal.returns-clause-item
returns-clause-item c n r t h = item_answers n r t h

pub returns-clause-literal : goal.returns-clause-literal
returns-clause-literal c n r t v h p l = literal_answers n r t v h p l

pub returns-clause-pattern : goal.returns-clause-pattern
returns-clause-pattern c n r t re h p = pattern_answers n r t re h p
