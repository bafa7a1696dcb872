-- The text of a job determines its attempt.
use Rattle.std.proofs.Common.{◌≡◌, ℕ, List, sym, ◌∙◌}
use Rattle.nf_value.specs.Plain.{Plain, list, plains_of}
use Rattle.nf_job.specs.declared.parts.JobParts.{JobParts}
use Rattle.nf_job.specs.JobText.{job_text, inputs_text}
use Rattle.nf_job.specs.Sizes.{IsFit, IsSized, SameInstance}
use Rattle.nf_graph.specs.Rules.{Rules}
use Rattle.nf_stored.specs.Attempts.{Attempt, NamesJobs, IsJobOf}

abbrev pub InstancesApart : Type 0
InstancesApart =
    (p q : JobParts) (vs ws : List Plain) → IsSized p → IsSized q → IsFit (list (plains_of vs)) → IsFit (list (plains_of ws)) → p.inputs ≡ inputs_text vs → q.inputs ≡ inputs_text ws → job_text p ≡ job_text q
    → SameInstance p q vs ws

pub attempts_apart : InstancesApart → (R : Rules) (path : ℕ → List ℕ) (x y : Attempt) (p q : JobParts) → NamesJobs R path → IsJobOf R x p → IsJobOf R y q → job_text p ≡ job_text q → x ≡ y
attempts_apart law R path x y p q named a b h =
    let f = named.each x p a.job in
    let g = named.each y q b.job in
    let same = law p q x.inputs y.inputs a.sized b.sized a.fit b.fit f.inputs g.inputs h in
    let node = named.paths x y p q a.job b.job (sym f.process ∙ same.process ∙ g.process) in
    let n = sym f.n ∙ same.n ∙ g.n in
    let attempt = sym f.attempt ∙ same.attempt ∙ g.attempt in
    λ i. record { node = node i; inputs = same.inputs i; n = n i; attempt = attempt i }
