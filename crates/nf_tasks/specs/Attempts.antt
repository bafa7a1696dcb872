-- What makes an attempt at a task the one that it is.
use Rattle.std.specs.Prelude.{ℕ, List}
use Rattle.nf_value.specs.Plain.{Plain}
use Rattle.nf_tasks.specs.Meaning.{ProcessMeaning}

-- the call's path, the list of inputs, which of the instances of equal inputs it is, and the attempt
pub record Attempt : Type 0 where
  pub call : List ℕ
  pub inputs : List Plain
  pub n : ℕ
  pub attempt : ℕ

abbrev pub attempt_of : ProcessMeaning → List Plain → ℕ → ℕ → Attempt
attempt_of p inputs n attempt = record { call = p.name; inputs = inputs; n = n; attempt = attempt }
