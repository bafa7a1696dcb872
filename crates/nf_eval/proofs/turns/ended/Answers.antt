use Rattle.std.proofs.Common.{◌∙◌, Err, sym, subst}
use Rattle.std.specs.Prelude.{Some, None}
use Rattle.nf_value.specs.View.{plain_of}
use Rattle.nf_eval.specs.declared.turns.Turn.{Turn}
use Rattle.nf_value.specs.declared.fault.EvalRefusal.{EvalRefusal}
use Rattle.nf_ast.specs.View.{ended}
use Rattle.nf_placed.specs.Placed.{Evaluates}
use Rattle.nf_eval.specs.Evaluation.{meaning_of}
use Rattle.nf_eval.specs.Turns.{IsAt}
use Rattle.nf_eval.proofs.Turning.{open_ends, shut_ends}
use Rattle.nf_eval.proofs.turns.ended.Goals as goal

pub returns-in-Live : goal.returns-in-Live
returns-in-Live c env fs e h =
    let at = subst (λ (t : Turn). IsAt env fs e t) c.in-Live.is h in
    open_ends env c.in-Live.field-0 fs e at.0 ∙ at.1

pub returns-in-Chosen : goal.returns-in-Chosen
returns-in-Chosen c env fs e h = shut_ends env c.in-Chosen.field-2 (Some (plain_of c.in-Chosen.value)) c.in-Chosen.field-0 fs e (subst (λ (t : Turn). IsAt env fs e t) c.in-Chosen.is h)

pub returns-in-Skipped : goal.returns-in-Skipped
returns-in-Skipped c env fs e h =
    let gives = shut_ends env c.in-Skipped.field-1 None c.in-Skipped.field-0 fs e (subst (λ (t : Turn). IsAt env fs e t) c.in-Skipped.is h) in
    subst (λ (r : EvalRefusal). Evaluates ((meaning_of (ended fs e)).value env) (Err r)) (sym c.fault_at.ensures) gives
