use Rattle.cases_schedules.proofs.Answering.{same_told}
use Rattle.cases_schedules.proofs.lookup.are_same.Goals as goal

pub returns : goal.returns
returns c = same_told c.items.result.now c.items-2.result.now c.args.inputs.now c.args.others.now c.eq.result c.eq.ensures c.items.ensures c.items-2.ensures
