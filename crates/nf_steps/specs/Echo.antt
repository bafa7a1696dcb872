-- Rules that ask nothing of anybody: closures give items back, and tasks emit what they print.
use Rattle.std.specs.Prelude.{◌≡◌, ℕ, zero, suc, List, [], ◌∷◌, codes, false, None, Some, Ok}
use Rattle.nf_value.specs.Plain.{Plain, text}
use Rattle.nf_job.specs.declared.parts.JobParts.{JobParts}
use Rattle.nf_job.specs.declared.report.Captured.{Captured}
use Rattle.nf_job.specs.declared.report.Captured.TheVariants as captured
use Rattle.nf_job.specs.declared.emitted.Outputs.{Outputs}
use Rattle.nf_job.specs.declared.emitted.Outputs.TheVariants.{Emits, Ignored, Again}
use Rattle.nf_job.specs.JobText.{inputs_text}
use Rattle.nf_graph.specs.Rules.{Rules, Outs, IsRules}

-- the script `true`, without anything else
abbrev pub echo_parts : List Plain → ℕ → ℕ → JobParts
echo_parts inputs n attempt = record {
  process = codes "P";
  script = codes "true";
  inputs = inputs_text inputs;
  stdin = None;
  staged = [];
  patterns = [];
  wants_stdout = false;
  n = n;
  attempt = attempt;
}

-- a first attempt that fails is tried again, and a later one is ignored
abbrev pub after_failure : ℕ → Outputs
after_failure zero = Again
after_failure (suc zero) = Again
after_failure (suc (suc attempt)) = Ignored

-- a task emits the text that it printed, and fails if it printed none
abbrev pub echo_outputs : ℕ → Captured → Outputs
echo_outputs attempt captured.None = after_failure attempt
echo_outputs attempt captured.Bad = after_failure attempt
echo_outputs attempt (captured.Text t) = Emits (Some (text t) ∷ [])

abbrev pub echo_rules : Rules
echo_rules = record { answer = λ i x. Ok x; job = λ i inputs n attempt. Ok (echo_parts inputs n attempt); outputs = λ i inputs attempt r. Ok (echo_outputs attempt r.captured) }

last : (c : Captured) → ◌≡◌ {A = Outs} (Ok (echo_outputs 101 c)) (Ok Again) → ⊥
last captured.None = λ h. cc
last captured.Bad = λ h. cc
last (captured.Text t) = λ h. cc

pub echo_are_rules : IsRules echo_rules
echo_are_rules = record { refused = λ i inputs n attempt r f h. absurd cc; last = λ i inputs r. last r.captured }
