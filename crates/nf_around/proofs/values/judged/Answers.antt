use Rattle.nf_around.proofs.Walks.{some_wrong, none_wrong}
use Rattle.nf_around.proofs.values.judged.Goals as goal

pub returns-in-Some : goal.returns-in-Some
returns-in-Some c = some_wrong c.args.fault c.in-Some.fault c.in-Some.is

pub returns-in-None : goal.returns-in-None
returns-in-None c = none_wrong c.args.fault c.in-None.is
