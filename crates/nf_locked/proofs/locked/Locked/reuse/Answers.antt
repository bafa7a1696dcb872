use Rattle.nf_machine.specs.declared.event.Event.TheVariants as e
use Rattle.nf_locked.proofs.Entering.{ended, ended_again, not_ended}
use Rattle.std.proofs.Common.{ap, ◌∙◌}
use Rattle.nf_flight.specs.Ticket.{next_attempt}
use Rattle.nf_locked.proofs.Places.{found_flying, reused_at, reused_again_at, unfound}
use Rattle.nf_locked.proofs.Tickets.{task_again, task_in}
use Rattle.nf_locked.proofs.locked.Locked.reuse.Goals as goal

pub reuse-requires-clause-ticket : goal.reuse-requires-clause-ticket
reuse-requires-clause-ticket g c = found_flying g.J.Fixed.facts g.J.Fixed.facts.rules (λ v. v.items) c.self.inside.out.items c.args.index c.index_mut-tickets.result.now c.take_back.new.tickets c.self.inside.begun.total c.self.inside.failed.total c.self.inside.run c.self.inside.run c.self.invariant c.requires.lane c.index_mut-tickets.ensures.value c.in-Some.ticket c.in-Some.ensures.left

pub reuse-requires-clause-task : goal.reuse-requires-clause-task
reuse-requires-clause-task g c = task_in g.J.Fixed.facts c.self.inside.run c.args.copy.now c.in-Some.ticket c.holds.ensures.graph c.in-Some.ensures.same c.requires.task

pub invariant_of-self : goal.invariant_of-self
invariant_of-self g c = unfound g.J.Fixed.facts g.J.Fixed.facts.rules (λ v. v.items) c.self.inside.out.items c.args.index c.index_mut-tickets.result.now c.take_back.new.tickets c.self.inside.begun.total c.self.inside.failed.total c.self.inside.run c.halt.new.run c.self.invariant c.requires.lane c.index_mut-tickets.ensures.value c.in_default.ensures.left c.halt.ensures

pub invariant_of-self-in_default-reuse : goal.invariant_of-self-in_default-reuse
invariant_of-self-in_default-reuse g c = reused_at g.J.Fixed.facts g.J.Fixed.facts.rules (λ v. v.items) c.self.inside.out.items c.args.index c.index_mut-tickets.result.now c.take_back.new.tickets c.self.inside.begun.total c.self.inside.failed.total c.self.inside.run c.reuse.new.self c.self.invariant c.requires.lane c.index_mut-tickets.ensures.value c.in-Some.ticket c.args.report c.args.outs c.reuse.result c.in_default-reuse.is c.in-Some.ensures.left c.holds.ensures.lawful c.reuse.ensures

pub few_attempts-requires : goal.few_attempts-requires
few_attempts-requires g c = c.in-Some-reuse.ensures.flying

pub invariant_of-self-2 : goal.invariant_of-self-2
invariant_of-self-2 g c = reused_again_at g.J.Fixed.facts g.J.Fixed.facts.rules (λ v. v.items) c.self.inside.out.items c.args.index c.index_mut-tickets.result.now c.take_back.new.tickets c.self.inside.begun.total c.self.inside.failed.total c.self.inside.run c.reuse.new.self c.self.invariant c.requires.lane c.index_mut-tickets.ensures.value c.in-Some.ticket c.in-Some-reuse.ticket c.args.report c.args.outs c.reuse.result c.push_reserved.new.self c.in-Some-reuse.is c.in-Some.ensures.left c.holds.ensures.lawful c.reuse.ensures c.push_reserved.ensures.items

pub returns-clause-again : goal.returns-clause-again
returns-clause-again g c = λ yes. task_again g.J.Fixed.facts c.args.copy.now c.in-Some-reuse.ticket c.requires.task (c.in-Some-reuse.ensures.again.1 ∙ ap next_attempt c.in-Some.ensures.same) c.few_attempts.ensures.first c.few_attempts.ensures.last

pub returns-in_default-clause-ends : goal.returns-in_default-clause-ends
returns-in_default-clause-ends g c = not_ended c.self.inside.run c.args.self.now c.halt.new.run c.self.view_is c.args.copy.now _ _ c.halt.ensures

pub returns-in_default-reuse-clause-ends : goal.returns-in_default-reuse-clause-ends
returns-in_default-reuse-clause-ends g c = ended c.self.inside.run c.args.self.now c.reuse.new.self c.self.view_is c.in-Some.ticket c.args.copy.now c.in-Some.ensures.same (λ n. e.Reuse n c.args.report c.args.outs) c.args.outs c.reuse.result c.in_default-reuse.is c.reuse.ensures

pub returns-clause-ends : goal.returns-clause-ends
returns-clause-ends g c = ended_again c.self.inside.run c.args.self.now c.reuse.new.self c.self.view_is c.in-Some.ticket c.args.copy.now c.in-Some.ensures.same (λ n. e.Reuse n c.args.report c.args.outs) c.args.outs c.reuse.result c.in-Some-reuse.ticket c.in-Some-reuse.is c.reuse.ensures
