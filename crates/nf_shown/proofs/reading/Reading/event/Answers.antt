use Rattle.std.proofs.Common.{rules, sym, subst}
use Rattle.std.specs.Prelude.{OnOk}
use Rattle.nf_machine.specs.declared.event.Event.{Event}
use Rattle.nf_shown.specs.Shown.{ReadsOn}
use Rattle.nf_shown.proofs.Kept.{IsElse, on_ok, reads_else, reads_take}
use Rattle.nf_shown.proofs.reading.Reading.event.Goals as goal

pub returns-in-Take-clause-read : goal.returns-in-Take-clause-read
returns-in-Take-clause-read c =
    on_ok c.taken.result
    (λ more. subst (λ (x : Event). ReadsOn c.args.are_views.now x c.args.self.now c.taken.new.self) (sym c.in-Take.is)
    (reads_take c.args.are_views.now c.in-Take.node c.in-Take.port c.in-Take.place c.in-Take.ticket c.in-Take.n c.args.self.now c.taken.new.self more c.taken.ensures.lists))
    c.taken.ensures.takers

pub returns-in-Give-clause-read : goal.returns-in-Give-clause-read
returns-in-Give-clause-read c =
    subst (λ (x : Event). OnOk c.given.result (ReadsOn c.args.are_views.now x c.args.self.now c.given.new.self)) (sym c.in-Give.is) c.given.ensures.read

pub returns-in-Pass-2-clause-read : goal.returns-in-Pass-2-clause-read
returns-in-Pass-2-clause-read c = let other : IsElse c.args.event.now = search rules in reads_else c.args.are_views.now c.args.event.now c.args.self.now other

pub returns-in-Pass-3-clause-read : goal.returns-in-Pass-3-clause-read
returns-in-Pass-3-clause-read c = let other : IsElse c.args.event.now = search rules in reads_else c.args.are_views.now c.args.event.now c.args.self.now other

pub returns-in-Pass-4-clause-read : goal.returns-in-Pass-4-clause-read
returns-in-Pass-4-clause-read c = let other : IsElse c.args.event.now = search rules in reads_else c.args.are_views.now c.args.event.now c.args.self.now other

pub returns-in-Pass-6-clause-read : goal.returns-in-Pass-6-clause-read
returns-in-Pass-6-clause-read c = let other : IsElse c.args.event.now = search rules in reads_else c.args.are_views.now c.args.event.now c.args.self.now other
