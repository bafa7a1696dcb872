use Rattle.std.proofs.Common.{subst}
use Rattle.nf_flow.specs.Seen.{Seen}
use Rattle.nf_machine.specs.declared.event.Event.TheVariants as e
use Rattle.nf_locked.specs.declared.work.Work.TheVariants as w
use Rattle.nf_locked.specs.Entered.{MakesMove}
use Rattle.nf_locked.proofs.Entering.{moved}
use Rattle.nf_locked.proofs.Frees.{free_closed}
use Rattle.nf_locked.proofs.locked.Locked.close.Goals as goal

pub invariant_of-self : goal.invariant_of-self
invariant_of-self g c = free_closed g.J.Fixed.facts c.self.inside.run c.close.new.self _ c.self.inside.begun.total c.self.inside.failed.total c.self.invariant c.args.node c.close.result c.close.ensures.ok c.close.ensures.err

pub returns-clause-makes : goal.returns-clause-makes
returns-clause-makes g c = subst (λ (y : Seen). MakesMove y (e.Close c.args.node) w.Moved c.close.new.self) c.self.view_is (moved c.self.inside.run c.close.new.self (e.Close c.args.node) c.close.result c.close.ensures.ok c.close.ensures.err)
