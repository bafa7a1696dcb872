use Rattle.nf_locked.proofs.Entering.{halted}
use Rattle.nf_locked.proofs.Frees.{free_halted}
use Rattle.nf_locked.proofs.locked.Locked.halt.Goals as goal

pub invariant_of-self : goal.invariant_of-self
invariant_of-self g c = free_halted g.J.Fixed.facts c.self.inside.run c.halt.new.run _ c.self.inside.begun.total c.self.inside.failed.total c.self.invariant c.halt.ensures

pub returns : goal.returns
returns g c = halted c.self.inside.run c.args.self.now c.halt.new.run c.self.view_is c.halt.ensures
