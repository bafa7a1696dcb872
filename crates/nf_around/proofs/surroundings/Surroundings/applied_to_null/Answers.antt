use Rattle.std.proofs.Common.{◌≡◌, ◌∙◌, [], ◌∷◌, ap, subst, rules}
use Rattle.nf_value.specs.Plain.{null}
use Rattle.nf_eval.specs.Closing.{closing_of}
use Rattle.nf_eval.specs.Evaluation.{apply_of}
use Rattle.nf_lowered.specs.Given.{Gives}
use Rattle.nf_meaning.specs.Lowered.{known}
use Rattle.nf_tasks.specs.Memory.{program}
use Rattle.nf_around.specs.Gives.{IsValue}
use Rattle.nf_around.proofs.Evaluated.{same_result}
use Rattle.nf_around.proofs.surroundings.Surroundings.applied_to_null.Goals as goal

pub returns : goal.returns
returns g c a k h gives =
    let natives = c.args.self.now.natives.now in
    let titles = g.N.Natives.titles natives in
    let answer = g.N.Natives.answer natives in
    let stored = closing_of c.args.closure.now titles answer in
    let args : c.of-nothing.result ≡ null ∷ [] = search rules in
    subst (λ v. Gives IsValue (known v) c.before_run.result)
    (ap (λ vs. apply_of stored vs) args ∙ same_result a.given.program (program titles answer) c.args.closure.now k (null ∷ []) h.everywhere.program gives)
    (c.before_run.ensures (apply_of stored c.of-nothing.result) c.apply-evaluated.ensures)
