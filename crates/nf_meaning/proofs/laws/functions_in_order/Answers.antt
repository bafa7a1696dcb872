use Rattle.nf_meaning.proofs.Rounds.{only_earlier, whole_order}
use Rattle.nf_meaning.proofs.laws.functions_in_order.Goals as goal

pub returns-clause-order : goal.returns-clause-order
returns-clause-order c ds = only_earlier ds

pub returns-clause-whole : goal.returns-clause-whole
returns-clause-whole c ds = whole_order ds
