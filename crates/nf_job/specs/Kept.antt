-- The invariant of a job: what it keeps beside its parts follows from them.
use Rattle.std.specs.Prelude.{◌≡◌}
use Rattle.sha2.specs.Sha256.{sha256}
use Rattle.nf_job.specs.declared.job.Job.TheInside.{Inside}
use Rattle.nf_job.specs.declared.parts.JobParts.{JobParts}
use Rattle.nf_job.specs.JobText.{job_text, old_text_of}
use Rattle.nf_job.specs.Sizes.{IsSized}

abbrev pub parts_of : Inside → JobParts
parts_of j = j.parts

pub record IsKept (j : Inside) : Type 0 where
  pub text : j.text ≡ job_text j.parts
  pub key : j.key.0 ≡ sha256 j.text
  pub old : j.old ≡ old_text_of j.parts
  pub sized : IsSized j.parts
