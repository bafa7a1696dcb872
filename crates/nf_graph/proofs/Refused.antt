-- What decides an instance: the fault of an attempt without a job, or a report.
use Rattle.std.proofs.Common.{◌≡◌, ◌≢◌, ℕ, suc, ◌+◌, List, [], ◌∷◌, ◌++◌, length, true, refl, ap, sym, ◌∙◌, arith}
use Rattle.std.specs.Prelude.{map, Option, Some, None, Result, Ok, Err, is_ok}
use Rattle.std.proofs.lemmas.Bool.{true≢false}
use Rattle.nf_job.specs.declared.parts.JobParts.{JobParts}
use Rattle.nf_job.specs.declared.report.Report.{Report}
use Rattle.nf_job.specs.declared.fault.TaskFault.{TaskFault}
use Rattle.nf_job.specs.declared.emitted.Outputs.TheVariants.{Emits, Ignored, Failed, Again}
use Rattle.nf_graph.specs.Rules.{Rules, Outs, decided_by, refused_by, decided, AreTriedAgain, emitted_by, fault_by}
use Rattle.nf_graph.specs.Meaning.{Outcomes, Instance, decided_under}
use Rattle.nf_graph.specs.Faults.{task_fails}
use Rattle.nf_graph.specs.Singles.{FailsAlone}
use Rattle.nf_graph.specs.Attempts.{LeadTo, ComesTo, IsUndecided}

-- its fault decides, whatever the reports
pub refused_decides : (job : ℕ → Result JobParts TaskFault) (outputs : ℕ → Report → Outs) (a : ℕ) (rs : List Report) (f : TaskFault) → job a ≡ Err f → decided job outputs a rs ≡ Some (Err f)
refused_decides job outputs a [] f e = rw e refl
refused_decides job outputs a (r ∷ rs) f e = rw e refl

by_job : (j : Result JobParts TaskFault) (rest : Option Outs) → is_ok j ≡ true → decided_by j (Ok Again) rest ≡ rest
by_job (Ok job) rest h = refl
by_job (Err f) rest h = absurd (true≢false (sym h))

-- after attempts that are tried again the rest decides
pub again_then : (job : ℕ → Result JobParts TaskFault) (outputs : ℕ → Report → Outs) (a : ℕ) (told rest : List Report) → AreTriedAgain job outputs a told → decided job outputs a (told ++ rest) ≡ decided job outputs (a + length told) rest
again_then job outputs a [] rest h = let z : a + 0 ≡ a = omega arith in ap (λ n. decided job outputs n rest) (sym z)
again_then job outputs a (r ∷ told) rest h =
    let z : suc a + length told ≡ a + suc (length told) = omega arith in
    ap (λ o. decided_by (job a) o (decided job outputs (suc a) (told ++ rest))) h.1
    ∙ by_job (job a) (decided job outputs (suc a) (told ++ rest)) h.0
    ∙ again_then job outputs (suc a) told rest h.2 ∙ ap (λ n. decided job outputs n rest) z

reported : (j : Result JobParts TaskFault) (outs : Outs) (rest : Option Outs) → is_ok j ≡ true → outs ≢ Ok Again → decided_by j outs rest ≡ Some outs
reported (Err f) outs rest h n = absurd (true≢false (sym h))
reported (Ok job) (Ok (Emits vs)) rest h n = refl
reported (Ok job) (Ok Ignored) rest h n = refl
reported (Ok job) (Ok (Failed f)) rest h n = refl
reported (Ok job) (Ok Again) rest h n = absurd (n refl)
reported (Ok job) (Err f) rest h n = refl

unrefused : (j : Result JobParts TaskFault) → is_ok j ≡ true → refused_by j ≡ None
unrefused (Ok job) h = refl
unrefused (Err f) h = absurd (true≢false (sym h))

module _ (R : Rules) (o : Outcomes) (i : ℕ) (z : Instance) where
  led : (a : ℕ) (later : List Report) → LeadTo R o i z a later → decided_under R o i z ≡ decided (R.job i z.0 z.1) (R.outputs i z.0) a later
  led a later l =
      let q : 1 + length l.before ≡ a = omega (arith, l.number) in
      ap (decided (R.job i z.0 z.1) (R.outputs i z.0) 1) l.reports
      ∙ again_then (R.job i z.0 z.1) (R.outputs i z.0) 1 l.before later l.again
      ∙ ap (λ n. decided (R.job i z.0 z.1) (R.outputs i z.0) n later) q

  fails_by : (f : TaskFault) → decided_under R o i z ≡ Some (Err f) → FailsAlone R o i z f
  fails_by f d = record { nothing = λ out. ap (λ y. emitted_by y out) d; once = ap (λ y. map (task_fails i z.0 z.1) (fault_by y)) d }

  pub fails_alone : (f : TaskFault) → R.job i z.0 z.1 1 ≡ Err f → FailsAlone R o i z f
  fails_alone f e = fails_by f (refused_decides (R.job i z.0 z.1) (R.outputs i z.0) 1 (o i z.0 z.1) f e)

  pub fails_later : (a : ℕ) (later : List Report) (f : TaskFault) → LeadTo R o i z a later → R.job i z.0 z.1 a ≡ Err f → FailsAlone R o i z f
  fails_later a later f l e = fails_by f (led a later l ∙ refused_decides (R.job i z.0 z.1) (R.outputs i z.0) a later f e)

  pub decided_by_report : (a : ℕ) (r : Report) (later : List Report) → LeadTo R o i z a (r ∷ later) → is_ok (R.job i z.0 z.1 a) ≡ true → R.outputs i z.0 a r ≢ Ok Again → ComesTo R o i z (R.outputs i z.0 a r)
  decided_by_report a r later l h n =
      let d : decided_under R o i z ≡ Some (R.outputs i z.0 a r) =
      led a (r ∷ later) l ∙ reported (R.job i z.0 z.1 a) (R.outputs i z.0 a r) (decided (R.job i z.0 z.1) (R.outputs i z.0) (suc a) later) h n in
      record { emitted = λ out. ap (λ y. emitted_by y out) d; fault = ap (λ y. map (task_fails i z.0 z.1) (fault_by y)) d }

  pub undecided : (a : ℕ) → LeadTo R o i z a [] → is_ok (R.job i z.0 z.1 a) ≡ true → IsUndecided R o i z
  undecided a l h =
      let d : decided_under R o i z ≡ None = led a [] l ∙ unrefused (R.job i z.0 z.1 a) h in
      record { nothing = λ out. ap (λ y. emitted_by y out) d; no_fault = ap (λ y. map (task_fails i z.0 z.1) (fault_by y)) d }
