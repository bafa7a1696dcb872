use Rattle.nf_graph.proofs.Refused.{decided_by_report, undecided}
use Rattle.nf_graph.proofs.laws.with_a_job.Goals as goal

pub returns-clause-decided : goal.returns-clause-decided
returns-clause-decided c = decided_by_report

pub returns-clause-waiting : goal.returns-clause-waiting
returns-clause-waiting c = undecided
