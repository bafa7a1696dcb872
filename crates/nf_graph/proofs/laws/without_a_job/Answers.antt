use Rattle.nf_graph.proofs.Refused.{fails_alone, fails_later}
use Rattle.nf_graph.proofs.laws.without_a_job.Goals as goal

pub returns-clause-first : goal.returns-clause-first
returns-clause-first c = fails_alone

pub returns-clause-later : goal.returns-clause-later
returns-clause-later c = fails_later
