use Rattle.nf_machine.specs.declared.event.Event.TheVariants as e
use Rattle.nf_locked.proofs.Entering.{entered, not_entered}
use Rattle.nf_locked.proofs.Places.{found_flying, gave_at, unfound}
use Rattle.nf_locked.proofs.locked.Locked.give.Goals as goal

pub give-requires-clause-ticket : goal.give-requires-clause-ticket
give-requires-clause-ticket g c = found_flying g.J.Fixed.facts g.J.Fixed.facts.rules (λ v. v.items) c.self.inside.out.items c.args.index c.index_mut-tickets.result.now c.take_back.new.tickets c.self.inside.begun.total c.self.inside.failed.total c.self.inside.run c.self.inside.run c.self.invariant c.requires.lane c.index_mut-tickets.ensures.value c.in-Some.ticket c.in-Some.ensures.left

pub invariant_of-self : goal.invariant_of-self
invariant_of-self g c = unfound g.J.Fixed.facts g.J.Fixed.facts.rules (λ v. v.items) c.self.inside.out.items c.args.index c.index_mut-tickets.result.now c.take_back.new.tickets c.self.inside.begun.total c.self.inside.failed.total c.self.inside.run c.halt.new.run c.self.invariant c.requires.lane c.index_mut-tickets.ensures.value c.in_default.ensures.left c.halt.ensures

pub invariant_of-self-2 : goal.invariant_of-self-2
invariant_of-self-2 g c = gave_at g.J.Fixed.facts g.J.Fixed.facts.rules (λ v. v.items) c.self.inside.out.items c.args.index c.index_mut-tickets.result.now c.take_back.new.tickets c.self.inside.begun.total c.self.inside.failed.total c.self.inside.run c.give.new.run c.self.invariant c.requires.lane c.index_mut-tickets.ensures.value c.in-Some.ticket c.args.answer c.in-Some.ensures.left c.holds.ensures.lawful c.give.ensures

pub returns-in_default : goal.returns-in_default
returns-in_default g c = not_entered c.self.inside.run c.args.self.now c.halt.new.run c.self.view_is c.args.copy.now _ c.halt.ensures

pub returns : goal.returns
returns g c = entered c.self.inside.run c.args.self.now c.give.new.run c.self.view_is c.in-Some.ticket c.args.copy.now c.in-Some.ensures.same (λ n. e.Give n c.args.answer) c.give.ensures
