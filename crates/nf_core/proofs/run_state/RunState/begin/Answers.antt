use Rattle.nf_machine.specs.declared.event.Cause.TheVariants.{NotAsked}
use Rattle.nf_core.proofs.Starting.{next_so}
use Rattle.nf_core.proofs.run_state.RunState.begin.Goals as goal

pub returns : goal.returns
returns g c = next_so g.J.Fixed.facts c.args.job.now c.args.self.now c.start.new.self c.args.ticket NotAsked c.start.result c.run_or_over.result c.run_or_over.ensures c.start.ensures
