-- A small graph and its rules: node 0 gives the item 7 to the operator `view`, whose closure answers null; node 2 is a process without
-- inputs, whose first attempt is tried again.
use Rattle.std.specs.Prelude.{◌≡◌, ◌≢◌, ℕ, zero, suc, List, [], ◌∷◌, codes, pos, false, None, Some, Result, Ok, Err}
use Rattle.nf_value.specs.Plain.{Plain, null, int}
use Rattle.nf_bag.specs.declared.rows.Row.TheVariants.{View}
use Rattle.nf_bag.specs.declared.options.Total.TheVariants.{Sum}
use Rattle.nf_job.specs.declared.parts.JobParts.{JobParts}
use Rattle.nf_job.specs.declared.report.Report.{Report}
use Rattle.nf_job.specs.declared.fault.TaskFault.{TaskFault}
use Rattle.nf_job.specs.declared.fault.TaskFault.TheVariants.{BadStdout}
use Rattle.nf_job.specs.declared.emitted.Outputs.{Outputs}
use Rattle.nf_job.specs.declared.emitted.Outputs.TheVariants.{Emits, Again}
use Rattle.nf_job.specs.JobText.{inputs_text}
use Rattle.nf_graph.specs.declared.node.Node.{Node}
use Rattle.nf_graph.specs.declared.node.NodeKind.TheVariants as k
use Rattle.nf_graph.specs.Rules.{Rules, Outs, IsRules}

abbrev pub source_node : Node
source_node = record { kind = k.Source (int (pos 7) ∷ []); ports = []; outs = 1 }

abbrev pub view_node : Node
view_node = record {
  kind = k.Op View (record { by = None; remainder = false; sort = false; flat = false; start = None; total = Sum; outs = 0 });
  ports = record { from = 0; out = 0; value = false } ∷ [];
  outs = 1;
}

abbrev pub task_node : Node
task_node = record { kind = k.Process None; ports = []; outs = 1 }

abbrev pub tried_nodes : List Node
tried_nodes = source_node ∷ view_node ∷ task_node ∷ []

-- the script `true`, without anything else
abbrev pub tried_parts : List Plain → ℕ → ℕ → JobParts
tried_parts inputs n attempt = record {
  process = codes "P";
  script = codes "true";
  inputs = inputs_text inputs;
  stdin = None;
  staged = [];
  patterns = [];
  wants_stdout = false;
  n = n;
  attempt = attempt;
}

abbrev pub tried_job : ℕ → List Plain → ℕ → ℕ → Result JobParts TaskFault
tried_job zero inputs n attempt = Err BadStdout
tried_job (suc zero) inputs n attempt = Err BadStdout
tried_job (suc (suc zero)) inputs n attempt = Ok (tried_parts inputs n attempt)
tried_job (suc (suc (suc node))) inputs n attempt = Err BadStdout

-- later attempts emit null
abbrev pub attempt_outs : ℕ → Outputs
attempt_outs zero = Again
attempt_outs (suc zero) = Again
attempt_outs (suc (suc attempt)) = Emits (Some null ∷ [])

abbrev pub tried_outputs : ℕ → List Plain → ℕ → Report → Outs
tried_outputs zero inputs attempt report = Err BadStdout
tried_outputs (suc zero) inputs attempt report = Err BadStdout
tried_outputs (suc (suc zero)) inputs attempt report = Ok (attempt_outs attempt)
tried_outputs (suc (suc (suc node))) inputs attempt report = Err BadStdout

abbrev pub tried_rules : Rules
tried_rules = record { answer = λ node x. Ok null; job = tried_job; outputs = tried_outputs }

tried_refused : (node : ℕ) (inputs : List Plain) (n attempt : ℕ) (report : Report) (fault : TaskFault)
    → tried_job node inputs n attempt ≡ Err fault → tried_outputs node inputs attempt report ≡ Err fault
tried_refused zero inputs n attempt report fault = λ h. cc
tried_refused (suc zero) inputs n attempt report fault = λ h. cc
tried_refused (suc (suc zero)) inputs n attempt report fault = λ h. absurd (cc)
tried_refused (suc (suc (suc node))) inputs n attempt report fault = λ h. cc

tried_last : (node : ℕ) (inputs : List Plain) (report : Report) → tried_outputs node inputs 101 report ≢ Ok Again
tried_last zero inputs report = λ h. cc
tried_last (suc zero) inputs report = λ h. cc
tried_last (suc (suc zero)) inputs report = λ h. cc
tried_last (suc (suc (suc node))) inputs report = λ h. cc

pub tried_are_rules : IsRules tried_rules
tried_are_rules = record { refused = tried_refused; last = tried_last }
