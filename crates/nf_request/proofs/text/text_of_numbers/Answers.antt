use Rattle.std.proofs.Common.{◌≡◌, List, ℕ, Result, IfErr, Some, refl, sym, subst}
use Rattle.nf_gen.specs.Script.{script}
use Rattle.nf_ends.specs.declared.end.End.{End}
use Rattle.nf_ends.specs.declared.end.End.TheVariants as end
use Rattle.nf_request.specs.Steps.{GivesText}
use Rattle.nf_request.proofs.Refused.{err_is}
use Rattle.nf_request.proofs.text.text_of_numbers.Goals as goal

pub returns-in_err-text-clause-gives : goal.returns-in_err-text-clause-gives
returns-in_err-text-clause-gives c =
    subst (GivesText (Some (script c.args.n c.args.start))) (sym (err_is c.from_residual.result end.Mem c.from_residual.ensures.1)) tt

pub returns-in_err-text-clause-memory : goal.returns-in_err-text-clause-memory
returns-in_err-text-clause-memory c =
    subst (λ (r : Result (List ℕ) End). IfErr r (λ e. e ≡ end.Mem)) (sym (err_is c.from_residual.result end.Mem c.from_residual.ensures.1)) refl

pub returns-clause-gives : goal.returns-clause-gives
returns-clause-gives c = λ i. Some (sym c.in_ok-text.ensures i)
