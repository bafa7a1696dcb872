use Rattle.nf_locked.proofs.Entering.{given_up, halted}
use Rattle.std.specs.Prelude.{Some}
use Rattle.nf_machine.specs.declared.stop.Stop.TheVariants as s
use Rattle.nf_machine.specs.declared.stop.Outside.TheVariants as o
use Rattle.nf_locked.proofs.Places.{found_flying, lost_at, unfound}
use Rattle.nf_serial.proofs.Serving.{lose_legal, lose_not_keeper, lose_named}
use Rattle.nf_locked.proofs.locked.Locked.lose.Goals as goal

pub give_up-requires-clause-ticket : goal.give_up-requires-clause-ticket
give_up-requires-clause-ticket g c = found_flying g.J.Fixed.facts g.J.Fixed.facts.rules (λ v. v.items) c.self.inside.out.items c.args.index c.index_mut-tickets.result.now c.take_back.new.tickets c.self.inside.begun.total c.self.inside.failed.total c.self.inside.run c.self.inside.run c.self.invariant c.requires.lane c.index_mut-tickets.ensures.value c.in-Some.ticket c.in-Some.ensures.left

pub give_up-requires-clause-cause : goal.give_up-requires-clause-cause
give_up-requires-clause-cause g c = lose_legal g.J.Fixed.facts c.self.inside.run c.in-Some.ticket (s.Outside o.Lane) (found_flying g.J.Fixed.facts g.J.Fixed.facts.rules (λ v. v.items) c.self.inside.out.items c.args.index c.index_mut-tickets.result.now c.take_back.new.tickets c.self.inside.begun.total c.self.inside.failed.total c.self.inside.run c.self.inside.run c.self.invariant c.requires.lane c.index_mut-tickets.ensures.value c.in-Some.ticket c.in-Some.ensures.left) tt

pub give_up-requires-clause-keeper : goal.give_up-requires-clause-keeper
give_up-requires-clause-keeper g c = lose_not_keeper g.J.Fixed.facts.rules c.self.inside.run c.in-Some.ticket (s.Outside o.Lane) tt

pub give_up-requires-clause-named : goal.give_up-requires-clause-named
give_up-requires-clause-named g c = lose_named g.J.Fixed.facts.rules c.self.inside.run c.in-Some.ticket (s.Outside o.Lane) tt

pub invariant_of-self : goal.invariant_of-self
invariant_of-self g c = unfound g.J.Fixed.facts g.J.Fixed.facts.rules (λ v. v.items) c.self.inside.out.items c.args.index c.index_mut-tickets.result.now c.take_back.new.tickets c.self.inside.begun.total c.self.inside.failed.total c.self.inside.run c.halt.new.run c.self.invariant c.requires.lane c.index_mut-tickets.ensures.value c.in_default.ensures.left c.halt.ensures

pub invariant_of-self-2 : goal.invariant_of-self-2
invariant_of-self-2 g c = lost_at g.J.Fixed.facts g.J.Fixed.facts.rules (λ v. v.items) c.self.inside.out.items c.args.index c.index_mut-tickets.result.now c.take_back.new.tickets c.self.inside.begun.total c.self.inside.failed.total c.self.inside.run c.give_up.new.self c.self.invariant c.requires.lane c.index_mut-tickets.ensures.value c.in-Some.ticket (Some (s.Outside o.Lane)) c.add.new.self.total c.in-Some.ensures.left c.holds.ensures.lawful c.give_up.ensures c.add.ensures.total

pub returns-in_default-clause-is : goal.returns-in_default-clause-is
returns-in_default-clause-is g c = halted c.self.inside.run c.args.self.now c.halt.new.run c.self.view_is c.halt.ensures

pub returns-clause-is : goal.returns-clause-is
returns-clause-is g c = given_up c.self.inside.run c.args.self.now c.give_up.new.self c.self.view_is c.in-Some.ticket c.args.copy.now c.in-Some.ensures.same (Some (s.Outside o.Lane)) c.give_up.ensures
