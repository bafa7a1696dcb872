-- Rules that ask nothing of anybody: closures give items back, and the tasks of node 1 emit their exit status.
use Rattle.std.specs.Prelude.{◌≡◌, ◌≢◌, ℕ, zero, suc, List, [], ◌∷◌, codes, false, None, Some, Result, Ok, Err}
use Rattle.nf_value.specs.Plain.{Plain, int}
use Rattle.nf_job.specs.declared.parts.JobParts.{JobParts}
use Rattle.nf_job.specs.declared.report.Report.{Report}
use Rattle.nf_job.specs.declared.fault.TaskFault.{TaskFault}
use Rattle.nf_job.specs.declared.fault.TaskFault.TheVariants.{BadStdout}
use Rattle.nf_job.specs.declared.emitted.Outputs.TheVariants.{Emits, Again}
use Rattle.nf_job.specs.JobText.{inputs_text}
use Rattle.nf_graph.specs.Rules.{Rules, Outs, IsRules}

-- the script `true`, without anything else
abbrev pub parts_of : List Plain → ℕ → ℕ → JobParts
parts_of inputs n attempt = record {
  process = codes "P";
  script = codes "true";
  inputs = inputs_text inputs;
  stdin = None;
  staged = [];
  patterns = [];
  wants_stdout = false;
  n = n;
  attempt = attempt;
}

abbrev pub job_at : ℕ → List Plain → ℕ → ℕ → Result JobParts TaskFault
job_at zero inputs n attempt = Err BadStdout
job_at (suc zero) inputs n attempt = Ok (parts_of inputs n attempt)
job_at (suc (suc node)) inputs n attempt = Err BadStdout

abbrev pub outputs_at : ℕ → Report → Outs
outputs_at zero report = Err BadStdout
outputs_at (suc zero) report = Ok (Emits (Some (int report.exit) ∷ []))
outputs_at (suc (suc node)) report = Err BadStdout

abbrev pub through_rules : Rules
through_rules = record { answer = λ node x. Ok x; job = job_at; outputs = λ node inputs attempt report. outputs_at node report }

refused : (node : ℕ) (inputs : List Plain) (n attempt : ℕ) (report : Report) (fault : TaskFault)
    → job_at node inputs n attempt ≡ Err fault → outputs_at node report ≡ Err fault
refused zero inputs n attempt report fault = λ h. cc
refused (suc zero) inputs n attempt report fault = λ h. absurd (cc)
refused (suc (suc node)) inputs n attempt report fault = λ h. cc

last : (node : ℕ) (report : Report) → outputs_at node report ≢ Ok Again
last zero report = λ h. cc
last (suc zero) report = λ h. cc
last (suc (suc node)) report = λ h. cc

pub through_are_rules : IsRules through_rules
through_are_rules = record { refused = refused; last = λ node inputs report. last node report }
