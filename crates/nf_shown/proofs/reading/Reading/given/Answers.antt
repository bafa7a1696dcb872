use Rattle.std.proofs.Common.{sym, subst}
use Rattle.std.specs.Prelude.{OnOk, Result}
use Rattle.nf_value.specs.declared.value.Value.{Value}
use Rattle.nf_value.specs.declared.fault.EvalFault.{EvalFault}
use Rattle.nf_machine.specs.declared.event.Event.TheVariants as e
use Rattle.nf_shown.specs.Shown.{ReadsOn}
use Rattle.nf_shown.proofs.Kept.{reads_fault}
use Rattle.nf_shown.proofs.reading.Reading.given.Goals as goal

pub returns-in-Ok-clause-read : goal.returns-in-Ok-clause-read
returns-in-Ok-clause-read c =
    subst (λ (a : Result Value EvalFault). OnOk c.answered.result (ReadsOn c.args.are_views.now (e.Give c.args.ticket a) c.args.self.now c.answered.new.self)) (sym c.in-Ok.is) c.answered.ensures.read

pub returns-in-Err-clause-read : goal.returns-in-Err-clause-read
returns-in-Err-clause-read c =
    subst (λ (a : Result Value EvalFault). ReadsOn c.args.are_views.now (e.Give c.args.ticket a) c.args.self.now c.args.self.now) (sym c.in-Err.is)
    (reads_fault c.args.are_views.now c.args.ticket c.in-Err.field-0 c.args.self.now)
