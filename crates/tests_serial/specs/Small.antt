-- A small graph and its rules: a source of the item 5, `view`, which gives each item back, and a process whose first attempt is always tried again.
use Rattle.std.specs.Prelude.{◌≡◌, ◌≢◌, ℕ, zero, suc, List, [], ◌∷◌, codes, pos, false, None, Some, Result, Ok, Err}
use Rattle.nf_value.specs.Plain.{Plain, int}
use Rattle.nf_value.specs.declared.fault.EvalFault.{EvalFault}
use Rattle.nf_value.specs.declared.fault.EvalKind.TheVariants.{NoMethod}
use Rattle.nf_job.specs.declared.parts.JobParts.{JobParts}
use Rattle.nf_job.specs.declared.report.Report.{Report}
use Rattle.nf_job.specs.declared.fault.TaskFault.{TaskFault}
use Rattle.nf_job.specs.declared.fault.TaskFault.TheVariants.{BadStdout}
use Rattle.nf_job.specs.declared.emitted.Outputs.{Outputs}
use Rattle.nf_job.specs.declared.emitted.Outputs.TheVariants.{Emits, Again}
use Rattle.nf_job.specs.JobText.{inputs_text}
use Rattle.nf_bag.specs.declared.rows.Row.TheVariants.{View}
use Rattle.nf_bag.specs.declared.options.Total.TheVariants.{Sum}
use Rattle.nf_graph.specs.declared.node.Node.{Node}
use Rattle.nf_graph.specs.declared.node.NodeKind.TheVariants as k
use Rattle.nf_graph.specs.Rules.{Rules, Outs, IsRules}

abbrev pub no_closure : EvalFault
no_closure = record { kind = NoMethod; place = record { line = 1; col = 1 } }

abbrev pub small_answer : ℕ → Plain → Result Plain EvalFault
small_answer zero x = Err no_closure
small_answer (suc zero) x = Ok x
small_answer (suc (suc node)) x = Err no_closure

-- the script `true`, without anything else
abbrev pub small_parts : List Plain → ℕ → ℕ → JobParts
small_parts inputs n attempt = record {
  process = codes "P";
  script = codes "true";
  inputs = inputs_text inputs;
  stdin = None;
  staged = [];
  patterns = [];
  wants_stdout = false;
  n = n;
  attempt = attempt;
}

abbrev pub small_job : ℕ → List Plain → ℕ → ℕ → Result JobParts TaskFault
small_job zero inputs n attempt = Err BadStdout
small_job (suc zero) inputs n attempt = Err BadStdout
small_job (suc (suc zero)) inputs n attempt = Ok (small_parts inputs n attempt)
small_job (suc (suc (suc node))) inputs n attempt = Err BadStdout

-- later attempts emit their status
abbrev pub status_of : ℕ → Report → Outputs
status_of zero report = Again
status_of (suc zero) report = Again
status_of (suc (suc attempt)) report = Emits (Some (int report.exit) ∷ [])

abbrev pub small_outputs : ℕ → List Plain → ℕ → Report → Outs
small_outputs zero inputs attempt report = Err BadStdout
small_outputs (suc zero) inputs attempt report = Err BadStdout
small_outputs (suc (suc zero)) inputs attempt report = Ok (status_of attempt report)
small_outputs (suc (suc (suc node))) inputs attempt report = Err BadStdout

abbrev pub small_rules : Rules
small_rules = record { answer = small_answer; job = small_job; outputs = small_outputs }

small_refused : (node : ℕ) (inputs : List Plain) (n attempt : ℕ) (report : Report) (fault : TaskFault)
    → small_job node inputs n attempt ≡ Err fault → small_outputs node inputs attempt report ≡ Err fault
small_refused zero inputs n attempt report fault = λ h. cc
small_refused (suc zero) inputs n attempt report fault = λ h. cc
small_refused (suc (suc zero)) inputs n attempt report fault = λ h. absurd (cc)
small_refused (suc (suc (suc node))) inputs n attempt report fault = λ h. cc

small_last : (node : ℕ) (inputs : List Plain) (report : Report) → small_outputs node inputs 101 report ≢ Ok Again
small_last zero inputs report = λ h. cc
small_last (suc zero) inputs report = λ h. cc
small_last (suc (suc zero)) inputs report = λ h. cc
small_last (suc (suc (suc node))) inputs report = λ h. cc

pub small_are_rules : IsRules small_rules
small_are_rules = record { refused = small_refused; last = small_last }

-- ---- the graph

abbrev pub small_source : Node
small_source = record { kind = k.Source (int (pos 5) ∷ []); ports = []; outs = 1 }

abbrev pub small_view : Node
small_view = record {
  kind = k.Op View (record { by = None; remainder = false; sort = false; flat = false; start = None; total = Sum; outs = 0 });
  ports = record { from = 0; out = 0; value = false } ∷ [];
  outs = 1;
}

abbrev pub small_process : Node
small_process = record { kind = k.Process (Some 0); ports = record { from = 1; out = 0; value = false } ∷ []; outs = 1 }

abbrev pub small_nodes : List Node
small_nodes = small_source ∷ small_view ∷ small_process ∷ []
