-- What a task is given in a world, in words.
use Rattle.std.proofs.Common.{◌≡◌, ◌≢◌, ℕ, zero, suc, ◌+◌, List, [], refl, ap, sym, ◌∙◌, subst, arith}
use Rattle.std.specs.Prelude.{Result, Ok, Err, is_ok}
use Rattle.nf_value.specs.Plain.{Plain}
use Rattle.nf_job.specs.declared.emitted.Outputs.TheVariants.{Emits, Ignored, Failed, Again}
use Rattle.nf_job.specs.declared.fault.TaskFault.{TaskFault}
use Rattle.nf_job.specs.declared.parts.JobParts.{JobParts}
use Rattle.nf_job.specs.declared.report.Report.{Report}
use Rattle.nf_job.specs.JobText.{job_text}
use Rattle.nf_graph.specs.Rules.{IsRules, Outs, Rules, last_attempt}
use Rattle.nf_lane.specs.World.{World, report_of}
use Rattle.nf_steady.specs.Given.{AreGiven, IsReportOf, and_later, given_in, if_again, reports_from}

none_later : (x : Outs) (later : List Report) → x ≢ Ok Again → if_again x later ≡ []
none_later (Ok Again) later other = absurd (other refl)
none_later (Ok (Emits vs)) later other = refl
none_later (Ok Ignored) later other = refl
none_later (Ok (Failed f)) later other = refl
none_later (Err f) later other = refl

module _ (w : World) (job : ℕ → Result JobParts TaskFault) (outputs : ℕ → Report → Outs) where
  -- the attempt's job decides
  with_job : (attempt : ℕ) (later : List Report)
      → ((r : Report) → outputs attempt r ≡ Ok Again → AreGiven w job outputs (suc attempt) later)
      → (j : Result JobParts TaskFault) → job attempt ≡ j
      → AreGiven w job outputs attempt (and_later w (outputs attempt) j later)
  with_job attempt later goes (Err f) is = ap is_ok is
  with_job attempt later goes (Ok p) is =
      let r : Report = report_of w (job_text p) in (
        subst (λ j. IsReportOf w j r) (sym is) refl,
        λ again. subst (λ x. AreGiven w job outputs (suc attempt) (if_again x later)) (sym again) (goes r again),
        λ other. none_later (outputs attempt r) later other,
      )

  module _ (last : (r : Report) → outputs last_attempt r ≢ Ok Again) where
    from : (more attempt : ℕ) → suc more + attempt ≡ suc last_attempt
        → AreGiven w job outputs attempt (reports_from w job outputs (suc more) attempt)
    unfolding reports_from
    from zero attempt is =
        with_job attempt [] (λ r again. absurd (
        let whole : attempt ≡ last_attempt = omega (arith, is) in
        last r (ap (λ a. outputs a r) (sym whole) ∙ again))) (job attempt) refl
    from (suc more) attempt is =
        with_job attempt (reports_from w job outputs (suc more) (suc attempt))
        (λ r again. from more (suc attempt) (omega (arith, is))) (job attempt) refl

pub given_reports : (w : World) (R : Rules) → IsRules R → (i : ℕ) (inputs : List Plain) (n : ℕ)
    → AreGiven w (R.job i inputs n) (R.outputs i inputs) 1 (given_in w R i inputs n)
given_reports w R rules i inputs n = from w (R.job i inputs n) (R.outputs i inputs) (rules.last i inputs) 100 1 refl
