use Rattle.std.proofs.Common.{refl}
use Rattle.cases_schedules.proofs.Holding.{sound_stays}
use Rattle.cases_schedules.proofs.steps.halt.Goals as goal

pub returns : goal.returns
returns c = sound_stays c.args.machine.now _ c.requires c.halt.ensures.run c.halt.ensures.flying refl
