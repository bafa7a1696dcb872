use Rattle.std.proofs.Common.{inl, inr}
use Rattle.nf_locked.proofs.Entering.{given_up, halted}
use Rattle.std.proofs.Common.{subst, sym}
use Rattle.std.specs.Prelude.{Some}
use Rattle.nf_locked.specs.Locked.{IsLoss, IsTaskOf}
use Rattle.nf_locked.proofs.Places.{found_flying, lost_at, unfound}
use Rattle.nf_locked.proofs.Tickets.{loss_is_no_failure, may_lose}
use Rattle.nf_serial.proofs.Serving.{lose_legal, lose_not_keeper, lose_named}
use Rattle.nf_locked.proofs.locked.Locked.give_up.Goals as goal

pub give_up-requires-clause-ticket : goal.give_up-requires-clause-ticket
give_up-requires-clause-ticket g c = found_flying g.J.Fixed.facts g.J.Fixed.facts.rules (λ v. v.items) c.self.inside.out.items c.args.index c.index_mut-tickets.result.now c.take_back.new.tickets c.self.inside.begun.total c.self.inside.failed.total c.self.inside.run c.self.inside.run c.self.invariant c.requires.lane c.index_mut-tickets.ensures.value c.in-Some.ticket c.in-Some.ensures.left

pub give_up-requires-clause-cause : goal.give_up-requires-clause-cause
give_up-requires-clause-cause g c = lose_legal g.J.Fixed.facts c.self.inside.run c.in-Some.ticket c.args.stop (found_flying g.J.Fixed.facts g.J.Fixed.facts.rules (λ v. v.items) c.self.inside.out.items c.args.index c.index_mut-tickets.result.now c.take_back.new.tickets c.self.inside.begun.total c.self.inside.failed.total c.self.inside.run c.self.inside.run c.self.invariant c.requires.lane c.index_mut-tickets.ensures.value c.in-Some.ticket c.in-Some.ensures.left) (may_lose g.J.Fixed.facts c.self.inside.run c.in-Some.ticket c.args.stop c.holds.ensures.graph (subst (IsTaskOf g.J.Fixed.facts) (sym c.in-Some.ensures.same) c.requires.task) (subst (λ t. IsLoss g.J.Fixed.facts t c.args.stop) (sym c.in-Some.ensures.same) c.requires.stop))

pub give_up-requires-clause-keeper : goal.give_up-requires-clause-keeper
give_up-requires-clause-keeper g c = lose_not_keeper g.J.Fixed.facts.rules c.self.inside.run c.in-Some.ticket c.args.stop (may_lose g.J.Fixed.facts c.self.inside.run c.in-Some.ticket c.args.stop c.holds.ensures.graph (subst (IsTaskOf g.J.Fixed.facts) (sym c.in-Some.ensures.same) c.requires.task) (subst (λ t. IsLoss g.J.Fixed.facts t c.args.stop) (sym c.in-Some.ensures.same) c.requires.stop))

pub give_up-requires-clause-named : goal.give_up-requires-clause-named
give_up-requires-clause-named g c = lose_named g.J.Fixed.facts.rules c.self.inside.run c.in-Some.ticket c.args.stop (may_lose g.J.Fixed.facts c.self.inside.run c.in-Some.ticket c.args.stop c.holds.ensures.graph (subst (IsTaskOf g.J.Fixed.facts) (sym c.in-Some.ensures.same) c.requires.task) (subst (λ t. IsLoss g.J.Fixed.facts t c.args.stop) (sym c.in-Some.ensures.same) c.requires.stop))

pub invariant_of-self : goal.invariant_of-self
invariant_of-self g c = unfound g.J.Fixed.facts g.J.Fixed.facts.rules (λ v. v.items) c.self.inside.out.items c.args.index c.index_mut-tickets.result.now c.take_back.new.tickets c.self.inside.begun.total c.self.inside.failed.total c.self.inside.run c.halt.new.run c.self.invariant c.requires.lane c.index_mut-tickets.ensures.value c.in_default.ensures.left c.halt.ensures

pub invariant_of-self-2 : goal.invariant_of-self-2
invariant_of-self-2 g c = lost_at g.J.Fixed.facts g.J.Fixed.facts.rules (λ v. v.items) c.self.inside.out.items c.args.index c.index_mut-tickets.result.now c.take_back.new.tickets c.self.inside.begun.total c.self.inside.failed.total c.self.inside.run c.give_up.new.self c.self.invariant c.requires.lane c.index_mut-tickets.ensures.value c.in-Some.ticket (Some c.args.stop) c.self.inside.failed.total c.in-Some.ensures.left c.holds.ensures.lawful c.give_up.ensures (loss_is_no_failure g.J.Fixed.facts c.args.copy.now c.args.stop c.self.inside.failed.total c.requires.stop)

pub returns-in_default : goal.returns-in_default
returns-in_default g c = inr (halted c.self.inside.run c.args.self.now c.halt.new.run c.self.view_is c.halt.ensures)

pub returns : goal.returns
returns g c = inl (given_up c.self.inside.run c.args.self.now c.give_up.new.self c.self.view_is c.in-Some.ticket c.args.copy.now c.in-Some.ensures.same (Some c.args.stop) c.give_up.ensures)
