use Rattle.nf_meaning.proofs.Sites.{call_at}
use Rattle.nf_meaning.proofs.laws.operator_node.Goals as goal

pub returns : goal.returns
returns c x called h = call_at x called h
