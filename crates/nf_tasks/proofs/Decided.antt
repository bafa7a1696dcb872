-- What decides a report, whatever it says.
use Rattle.std.proofs.Common.{◌≡◌, ◌≢◌, ◌≤◌, ℕ, List, Bool, true, false, cond, nat_le, min, Option, None, Some, Ok, Err, refl, arith}
use Rattle.std.proofs.lemmas.Bool.Decides.{nat_tests}
use Rattle.nf_value.specs.Plain.{Plain}
use Rattle.nf_job.specs.declared.fault.TaskFault.{TaskFault}
use Rattle.nf_job.specs.declared.parts.JobParts.{JobParts}
use Rattle.nf_job.specs.declared.report.Report.{Report}
use Rattle.nf_job.specs.declared.emitted.Outputs.{Outputs}
use Rattle.nf_job.specs.declared.emitted.Outputs.TheVariants.{Again, Emits, Failed, Ignored}
use Rattle.nf_tasks.specs.declared.prepared.Prepared.{Prepared}
use Rattle.nf_tasks.specs.declared.outputs.Done.{Done}
use Rattle.nf_tasks.specs.declared.process.ErrorStrategy.{ErrorStrategy}
use Rattle.nf_tasks.specs.declared.process.ErrorStrategy.TheVariants.{Terminate, Ignore, Retry}
use Rattle.nf_tasks.specs.Judged.{Judged, ◌>>=◌}
use Rattle.nf_tasks.specs.Meaning.{ProcessMeaning}
use Rattle.nf_tasks.specs.Prepared.{parts_of, parts_with, prepared_of}
use Rattle.nf_tasks.specs.Failure.{outputs_at}
use Rattle.nf_tasks.specs.Outcome.{done_by, failure_in, outputs_by, outputs_of, targets_by, targets_of}

late : (attempt most : ℕ) → 101 ≤ attempt → nat_le attempt (min most 100) ≡ false
late attempt most h = grind (arith, nat_tests)

at_end : (s : ErrorStrategy) (attempt : ℕ) (f : TaskFault) → 101 ≤ attempt → outputs_at s attempt f ≢ Again
at_end Terminate attempt f h = λ e. cc
at_end Ignore attempt f h = λ e. cc
at_end (Retry most) attempt f h = rw (late attempt most h) (λ e. cc)

value_is : {x y : Outputs} → ◌≡◌ {A = Judged Outputs} (Ok x) (Ok y) → x ≡ y
value_is h = cc

by_failure : (p : ProcessMeaning) (attempt : ℕ) (done : Judged Done) (o : Option TaskFault) → 101 ≤ attempt → outputs_by p attempt done o ≢ Ok Again
by_failure p attempt done (Some f) h = λ e. at_end p.strategy attempt f h (value_is e)
by_failure p attempt (Ok d) None h = λ e. cc
by_failure p attempt (Err f) None h = λ e. cc

by_prepared : (p : ProcessMeaning) (attempt : ℕ) (r : Report) (due : Judged Prepared) → 101 ≤ attempt → (due >>= λ x. outputs_by p attempt (done_by p x r) (failure_in p x r)) ≢ Ok Again
by_prepared p attempt r (Ok x) h = by_failure p attempt (done_by p x r) (failure_in p x r) h
by_prepared p attempt r (Err f) h = λ e. cc

pub not_again : (p : ProcessMeaning) (inputs : List Plain) (attempt : ℕ) (r : Report) → 101 ≤ attempt → outputs_of p inputs attempt r ≢ Ok Again
not_again p inputs attempt r h = by_prepared p attempt r (prepared_of p inputs attempt) h

-- a fault of the job is one of what the attempt is made of, since the rest can't fail
by_job : (p : ProcessMeaning) (inputs : List Plain) (n attempt : ℕ) (r : Report) (f : TaskFault) (due : Judged Prepared) → (due >>= λ x. Ok (parts_with p inputs n attempt x)) ≡ Err f
    → ((due >>= λ x. outputs_by p attempt (done_by p x r) (failure_in p x r)) ≡ Err f) × ((due >>= λ x. targets_by (done_by p x r) (failure_in p x r)) ≡ Err f)
by_job p inputs n attempt r f (Ok x) h = cc
by_job p inputs n attempt r f (Err e) h = let same = fault_is h in ((λ i. Err (same i)), (λ i. Err (same i)))
  where
    fault_is : {x y : TaskFault} → ◌≡◌ {A = Judged JobParts} (Err x) (Err y) → x ≡ y
    fault_is k = cc

pub without_a_job : (p : ProcessMeaning) (inputs : List Plain) (n attempt : ℕ) (r : Report) (f : TaskFault) → parts_of p inputs n attempt ≡ Err f → (outputs_of p inputs attempt r ≡ Err f) × (targets_of p inputs attempt r ≡ Err f)
without_a_job p inputs n attempt r f h = by_job p inputs n attempt r f (prepared_of p inputs attempt) h
