-- The text of a job tells its attempt.
use Rattle.std.proofs.Common.{◌≡◌, ℕ, List, Ok, Err, sym, ◌∙◌}
use Rattle.nf_value.specs.Plain.{Plain, list, plains_of}
use Rattle.nf_job.specs.declared.parts.JobParts.{JobParts}
use Rattle.nf_job.specs.JobText.{job_text, inputs_text}
use Rattle.nf_job.specs.Sizes.{IsFit, IsSized, SameInstance}
use Rattle.nf_tasks.specs.declared.prepared.Prepared.{Prepared}
use Rattle.nf_tasks.specs.Judged.{Judged, ◌>>=◌}
use Rattle.nf_tasks.specs.Meaning.{ProcessMeaning, wants_stdout}
use Rattle.nf_tasks.specs.Prepared.{parts_of, parts_with, prepared_of}
use Rattle.nf_tasks.specs.Attempts.{Attempt, attempt_of}

-- what the parts say of the attempt
record Says (p : ProcessMeaning) (vs : List Plain) (n attempt : ℕ) (j : JobParts) : Type 0 where
  process : j.process ≡ p.name
  inputs : j.inputs ≡ inputs_text vs
  number : j.n ≡ n
  turn : j.attempt ≡ attempt

says_with : (p : ProcessMeaning) (vs : List Plain) (n attempt : ℕ) (j : JobParts) (due : Judged Prepared) → (due >>= λ x. Ok (parts_with p vs n attempt x)) ≡ Ok j → Says p vs n attempt j
says_with p vs n attempt j (Err e) h = cc
says_with p vs n attempt j (Ok x) h = record { process = cc; inputs = cc; number = cc; turn = cc }

abbrev pub InstancesApart : Type 0
InstancesApart =
    (p q : JobParts) (vs ws : List Plain) → IsSized p → IsSized q → IsFit (list (plains_of vs)) → IsFit (list (plains_of ws)) → p.inputs ≡ inputs_text vs → q.inputs ≡ inputs_text ws → job_text p ≡ job_text q
    → SameInstance p q vs ws

pub attempts_apart : InstancesApart → (j k : JobParts) (vs ws : List Plain) → IsSized j → IsSized k → IsFit (list (plains_of vs)) → IsFit (list (plains_of ws)) → (p q : ProcessMeaning) (m n a b : ℕ) → parts_of p vs m a ≡ Ok j → parts_of q ws n b ≡ Ok k → job_text j ≡ job_text k
    → attempt_of p vs m a ≡ attempt_of q ws n b
attempts_apart law j k vs ws f g v w p q m n a b is_j is_k h =
    let x = says_with p vs m a j (prepared_of p vs a) is_j in
    let y = says_with q ws n b k (prepared_of q ws b) is_k in
    let same = law j k vs ws f g v w x.inputs y.inputs h in
    let call = sym x.process ∙ same.process ∙ y.process in
    let number = sym x.number ∙ same.n ∙ y.number in
    let turn = sym x.turn ∙ same.attempt ∙ y.turn in
    λ i. record { call = call i; inputs = same.inputs i; n = number i; attempt = turn i }
