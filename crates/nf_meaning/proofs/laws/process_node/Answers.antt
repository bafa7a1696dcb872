use Rattle.nf_meaning.proofs.Sites.{tasks_at}
use Rattle.nf_meaning.proofs.laws.process_node.Goals as goal

pub returns : goal.returns
returns c x queue called h = tasks_at x queue called h
