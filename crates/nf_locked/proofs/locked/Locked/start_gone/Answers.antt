use Rattle.std.proofs.Common.{◌∙◌}
use Rattle.nf_locked.proofs.Entering.{not_found, not_started, started}
use Rattle.nf_machine.specs.declared.event.Cause.TheVariants.{Gone}
use Rattle.nf_locked.proofs.Places.{found_flying, started_at, unfound, unstarted_at}
use Rattle.nf_locked.proofs.Tickets.{task_in}
use Rattle.nf_locked.proofs.locked.Locked.start_gone.Goals as goal

pub start-requires-clause-ticket : goal.start-requires-clause-ticket
start-requires-clause-ticket g c = found_flying g.J.Fixed.facts g.J.Fixed.facts.rules (λ v. v.items) c.self.inside.out.items c.args.index c.index_mut-tickets.result.now c.take_back.new.tickets c.self.inside.begun.total c.self.inside.failed.total c.self.inside.run c.self.inside.run c.self.invariant c.requires.lane c.index_mut-tickets.ensures.value c.in-Some.ticket c.in-Some.ensures.left

pub start-requires-clause-task : goal.start-requires-clause-task
start-requires-clause-task g c = task_in g.J.Fixed.facts c.self.inside.run c.args.copy.now c.in-Some.ticket c.holds.ensures.graph c.in-Some.ensures.same c.requires.task

pub invariant_of-self : goal.invariant_of-self
invariant_of-self g c = unfound g.J.Fixed.facts g.J.Fixed.facts.rules (λ v. v.items) c.self.inside.out.items c.args.index c.index_mut-tickets.result.now c.take_back.new.tickets c.self.inside.begun.total c.self.inside.failed.total c.self.inside.run c.halt.new.run c.self.invariant c.requires.lane c.index_mut-tickets.ensures.value c.in_default.ensures.left c.halt.ensures

pub invariant_of-self-in_default-start : goal.invariant_of-self-in_default-start
invariant_of-self-in_default-start g c = unstarted_at g.J.Fixed.facts g.J.Fixed.facts.rules (λ v. v.items) c.self.inside.out.items c.args.index c.index_mut-tickets.result.now c.take_back.new.tickets c.self.inside.begun.total c.self.inside.failed.total c.self.inside.run c.start.new.self c.self.invariant c.requires.lane c.index_mut-tickets.ensures.value c.in-Some.ticket (Gone c.args.name) c.start.result c.in_default-start.is c.in-Some.ensures.left c.holds.ensures.lawful c.start.ensures

pub invariant_of-self-2 : goal.invariant_of-self-2
invariant_of-self-2 g c = started_at g.J.Fixed.facts g.J.Fixed.facts.rules (λ v. v.items) c.self.inside.out.items c.args.index c.index_mut-tickets.result.now c.take_back.new.tickets c.self.inside.begun.total c.self.inside.failed.total c.self.inside.run c.start.new.self c.self.invariant c.requires.lane c.index_mut-tickets.ensures.value c.in-Some.ticket c.in-Some-start.ticket (Gone c.args.name) c.start.result c.push_reserved.new.self c.add.new.self.total c.in-Some-start.is c.in-Some.ensures.left c.holds.ensures.lawful c.start.ensures c.push_reserved.ensures.items c.add.ensures.total

pub returns-in_default-clause-starts : goal.returns-in_default-clause-starts
returns-in_default-clause-starts g c = not_found c.self.inside.run c.args.self.now c.halt.new.run (c.self.view_is ∙ c.few_starts.ensures.same) c.args.copy.now c.halt.ensures

pub returns-in_default-start-clause-starts : goal.returns-in_default-start-clause-starts
returns-in_default-start-clause-starts g c = not_started c.self.inside.run c.args.self.now c.start.new.self (c.self.view_is ∙ c.few_starts.ensures.same) c.in-Some.ticket c.args.copy.now c.in-Some.ensures.same (Gone c.args.name) c.start.result c.in_default-start.is c.start.ensures

pub returns-clause-starts : goal.returns-clause-starts
returns-clause-starts g c = c.few_starts-2.ensures.same ∙ (
    started c.self.inside.run c.args.self.now c.start.new.self (c.self.view_is ∙ c.few_starts.ensures.same) c.in-Some.ticket c.args.copy.now c.in-Some.ensures.same (Gone c.args.name) c.start.result c.in-Some-start.ticket c.in-Some-start.is c.start.ensures)
