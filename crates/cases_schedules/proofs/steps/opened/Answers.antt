use Rattle.std.proofs.Common.{rules}
use Rattle.cases_schedules.proofs.Holding.{sound_begun}
use Rattle.cases_schedules.proofs.steps.opened.Goals as goal

pub returns : goal.returns
returns c = sound_begun _ c.in_ok-flow.ensures.run (search rules)
