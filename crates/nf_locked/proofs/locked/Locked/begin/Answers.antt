use Rattle.std.proofs.Common.{subst, sym, ◌∙◌}
use Rattle.nf_flow.specs.Seen.{Seen}
use Rattle.nf_locked.specs.declared.work.Begun.TheVariants as b
use Rattle.nf_locked.specs.Entered.{Begins}
use Rattle.nf_locked.proofs.Entering.{begun_look, begun_over, begun_run, not_found}
use Rattle.nf_locked.proofs.Places.{found_flying, next_left, next_look_at, next_over_at, next_run_at, unfound}
use Rattle.nf_locked.proofs.Tickets.{task_in}
use Rattle.nf_locked.proofs.locked.Locked.begin.Goals as goal

pub begin-requires-clause-ticket : goal.begin-requires-clause-ticket
begin-requires-clause-ticket g c = found_flying g.J.Fixed.facts g.J.Fixed.facts.rules (λ v. v.items) c.self.inside.out.items c.args.index c.index_mut-tickets.result.now c.take_back.new.tickets c.self.inside.begun.total c.self.inside.failed.total c.self.inside.run c.self.inside.run c.self.invariant c.requires.lane c.index_mut-tickets.ensures.value c.in-Some.ticket c.in-Some.ensures.left

pub begin-requires-clause-task : goal.begin-requires-clause-task
begin-requires-clause-task g c = task_in g.J.Fixed.facts c.self.inside.run c.args.copy.now c.in-Some.ticket c.holds.ensures.graph c.in-Some.ensures.same c.requires.task

pub invariant_of-self : goal.invariant_of-self
invariant_of-self g c = unfound g.J.Fixed.facts g.J.Fixed.facts.rules (λ v. v.items) c.self.inside.out.items c.args.index c.index_mut-tickets.result.now c.take_back.new.tickets c.self.inside.begun.total c.self.inside.failed.total c.self.inside.run c.halt.new.run c.self.invariant c.requires.lane c.index_mut-tickets.ensures.value c.in_default.ensures.left c.halt.ensures

pub invariant_of-self-in-Look : goal.invariant_of-self-in-Look
invariant_of-self-in-Look g c = next_look_at g.J.Fixed.facts g.J.Fixed.facts.rules (λ v. v.items) c.self.inside.out.items c.args.index c.index_mut-tickets.result.now c.take_back.new.tickets c.self.inside.begun.total c.self.inside.failed.total c.self.inside.run c.begin.new.self c.self.invariant c.requires.lane c.index_mut-tickets.ensures.value c.args.job.now c.in-Some.ticket c.in-Look.ticket c.in-Look.report c.begin.result c.push_reserved-in-Look.new.self c.in-Look.is c.in-Some.ensures.left c.begin.ensures c.push_reserved-in-Look.ensures.items

pub returns-in-Look-clause-next : goal.returns-in-Look-clause-next
returns-in-Look-clause-next g c = next_left g.J.Fixed.facts c.args.job.now c.self.inside.run c.begin.new.self c.in-Some.ticket c.in-Look.ticket c.in-Look.report c.begin.result c.in-Look.is c.begin.ensures

pub invariant_of-self-in-Over : goal.invariant_of-self-in-Over
invariant_of-self-in-Over g c = next_over_at g.J.Fixed.facts g.J.Fixed.facts.rules (λ v. v.items) c.self.inside.out.items c.args.index c.index_mut-tickets.result.now c.take_back.new.tickets c.self.inside.begun.total c.self.inside.failed.total c.self.inside.run c.begin.new.self c.self.invariant c.requires.lane c.index_mut-tickets.ensures.value c.args.job.now c.in-Some.ticket c.begin.result c.in-Over.is c.in-Some.ensures.left c.holds.ensures.lawful c.begin.ensures

pub invariant_of-self-2 : goal.invariant_of-self-2
invariant_of-self-2 g c = next_run_at g.J.Fixed.facts g.J.Fixed.facts.rules (λ v. v.items) c.self.inside.out.items c.args.index c.index_mut-tickets.result.now c.take_back.new.tickets c.self.inside.begun.total c.self.inside.failed.total c.self.inside.run c.begin.new.self c.self.invariant c.requires.lane c.index_mut-tickets.ensures.value c.args.job.now c.in-Some.ticket c.in-Run.ticket c.begin.result c.push_reserved.new.self c.add.new.self.total c.in-Run.is c.in-Some.ensures.left c.holds.ensures.lawful c.begin.ensures c.push_reserved.ensures.items c.add.ensures.total

pub returns-in_default-clause-begins : goal.returns-in_default-clause-begins
returns-in_default-clause-begins g c = not_found c.self.inside.run c.args.self.now c.halt.new.run (c.self.view_is ∙ c.few_starts.ensures.same) c.args.copy.now c.halt.ensures

pub returns-in-Look-clause-begins : goal.returns-in-Look-clause-begins
returns-in-Look-clause-begins g c = begun_look c.self.inside.run c.args.self.now c.begin.new.self (c.self.view_is ∙ c.few_starts.ensures.same) c.in-Some.ticket c.args.copy.now c.in-Some.ensures.same g.J.Fixed.facts c.args.job.now c.in-Look.ticket c.in-Look.report c.begin.result c.in-Look.is c.begin.ensures

pub returns-in-Over-clause-begins : goal.returns-in-Over-clause-begins
returns-in-Over-clause-begins g c = begun_over c.self.inside.run c.args.self.now c.begin.new.self (c.self.view_is ∙ c.few_starts.ensures.same) c.in-Some.ticket c.args.copy.now c.in-Some.ensures.same g.J.Fixed.facts c.args.job.now c.begin.result c.in-Over.is c.begin.ensures

pub returns-clause-begins : goal.returns-clause-begins
returns-clause-begins g c = subst (λ (y : Seen). Begins c.args.self.now c.args.copy.now b.Run y) (sym c.few_starts-2.ensures.same) (
    begun_run c.self.inside.run c.args.self.now c.begin.new.self (c.self.view_is ∙ c.few_starts.ensures.same) c.in-Some.ticket c.args.copy.now c.in-Some.ensures.same g.J.Fixed.facts c.args.job.now c.in-Run.ticket c.begin.result c.in-Run.is c.begin.ensures)
