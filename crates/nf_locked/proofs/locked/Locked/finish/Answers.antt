use Rattle.nf_machine.specs.declared.event.Event.TheVariants as e
use Rattle.nf_locked.proofs.Entering.{ended, ended_again, not_ended}
use Rattle.nf_core.specs.Ran.{outs_of, report_of}
use Rattle.std.proofs.Common.{ap, ◌∙◌}
use Rattle.nf_flight.specs.Ticket.{next_attempt}
use Rattle.nf_locked.proofs.Places.{found_flying, finished_at, finished_again_at, unfound}
use Rattle.nf_locked.proofs.Tickets.{task_again, task_in}
use Rattle.nf_locked.proofs.locked.Locked.finish.Goals as goal

pub finish-requires-clause-ticket : goal.finish-requires-clause-ticket
finish-requires-clause-ticket g c = found_flying g.J.Fixed.facts g.J.Fixed.facts.rules (λ v. v.items) c.self.inside.out.items c.args.index c.index_mut-tickets.result.now c.take_back.new.tickets c.self.inside.begun.total c.self.inside.failed.total c.self.inside.run c.self.inside.run c.self.invariant c.requires.lane c.index_mut-tickets.ensures.value c.in-Some.ticket c.in-Some.ensures.left

pub finish-requires-clause-task : goal.finish-requires-clause-task
finish-requires-clause-task g c = task_in g.J.Fixed.facts c.self.inside.run c.args.copy.now c.in-Some.ticket c.holds.ensures.graph c.in-Some.ensures.same c.requires.task

pub invariant_of-self : goal.invariant_of-self
invariant_of-self g c = unfound g.J.Fixed.facts g.J.Fixed.facts.rules (λ v. v.items) c.self.inside.out.items c.args.index c.index_mut-tickets.result.now c.take_back.new.tickets c.self.inside.begun.total c.self.inside.failed.total c.self.inside.run c.halt.new.run c.self.invariant c.requires.lane c.index_mut-tickets.ensures.value c.in_default.ensures.left c.halt.ensures

pub invariant_of-self-in_default-finish : goal.invariant_of-self-in_default-finish
invariant_of-self-in_default-finish g c = finished_at g.J.Fixed.facts g.J.Fixed.facts.rules (λ v. v.items) c.self.inside.out.items c.args.index c.index_mut-tickets.result.now c.take_back.new.tickets c.self.inside.begun.total c.self.inside.failed.total c.self.inside.run c.finish.new.self c.self.invariant c.requires.lane c.index_mut-tickets.ensures.value c.in-Some.ticket (report_of c.args.ran) (outs_of c.args.ran) c.finish.result c.in_default-finish.is c.in-Some.ensures.left c.holds.ensures.lawful c.finish.ensures

pub few_attempts-requires : goal.few_attempts-requires
few_attempts-requires g c = c.in-Some-finish.ensures.flying

pub invariant_of-self-2 : goal.invariant_of-self-2
invariant_of-self-2 g c = finished_again_at g.J.Fixed.facts g.J.Fixed.facts.rules (λ v. v.items) c.self.inside.out.items c.args.index c.index_mut-tickets.result.now c.take_back.new.tickets c.self.inside.begun.total c.self.inside.failed.total c.self.inside.run c.finish.new.self c.self.invariant c.requires.lane c.index_mut-tickets.ensures.value c.in-Some.ticket c.in-Some-finish.ticket (report_of c.args.ran) (outs_of c.args.ran) c.finish.result c.push_reserved.new.self c.in-Some-finish.is c.in-Some.ensures.left c.holds.ensures.lawful c.finish.ensures c.push_reserved.ensures.items

pub returns-clause-again : goal.returns-clause-again
returns-clause-again g c = λ yes. task_again g.J.Fixed.facts c.args.copy.now c.in-Some-finish.ticket c.requires.task (c.in-Some-finish.ensures.again.1 ∙ ap next_attempt c.in-Some.ensures.same) c.few_attempts.ensures.first c.few_attempts.ensures.last

pub returns-in_default-clause-ends : goal.returns-in_default-clause-ends
returns-in_default-clause-ends g c = not_ended c.self.inside.run c.args.self.now c.halt.new.run c.self.view_is c.args.copy.now _ _ c.halt.ensures

pub returns-in_default-finish-clause-ends : goal.returns-in_default-finish-clause-ends
returns-in_default-finish-clause-ends g c = ended c.self.inside.run c.args.self.now c.finish.new.self c.self.view_is c.in-Some.ticket c.args.copy.now c.in-Some.ensures.same (λ n. e.Finish n (report_of c.args.ran) (outs_of c.args.ran)) (outs_of c.args.ran) c.finish.result c.in_default-finish.is c.finish.ensures

pub returns-clause-ends : goal.returns-clause-ends
returns-clause-ends g c = ended_again c.self.inside.run c.args.self.now c.finish.new.self c.self.view_is c.in-Some.ticket c.args.copy.now c.in-Some.ensures.same (λ n. e.Finish n (report_of c.args.ran) (outs_of c.args.ran)) (outs_of c.args.ran) c.finish.result c.in-Some-finish.ticket c.in-Some-finish.is c.finish.ensures
