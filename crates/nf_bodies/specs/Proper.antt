-- Nodes answer as rules of a graph have to.
use Rattle.std.proofs.Common.{◌≡◌, ◌≢◌, ◌≤◌, ℕ, List, Ok, Err, lit≤}
use Rattle.nf_value.specs.Plain.{Plain}
use Rattle.nf_job.specs.declared.parts.JobParts.{JobParts}
use Rattle.nf_job.specs.declared.report.Report.{Report}
use Rattle.nf_job.specs.declared.fault.TaskFault.{TaskFault}
use Rattle.nf_job.specs.declared.emitted.Outputs.TheVariants.{Again}
use Rattle.nf_meaning.specs.Rules.{IsRules, Outs, last_attempt}
use Rattle.nf_tasks.specs.Judged.{Judged}
use Rattle.nf_tasks.specs.Memory.{Program, process_of}
use Rattle.nf_tasks.proofs.Decided.{not_again, without_a_job}
use Rattle.nf_bodies.specs.declared.body.NodeBody.{NodeBody}
use Rattle.nf_bodies.specs.declared.body.NodeBody.TheVariants as body
use Rattle.nf_bodies.specs.declared.body.NodeInfo.{NodeInfo}
use Rattle.nf_bodies.specs.Bodies.{job_of, outputs_of, no_process, body_in, rules_of}

-- a fault of one kind of result is that of another
same_fault : (e f : TaskFault) → ◌≡◌ {A = Judged JobParts} (Err e) (Err f) → ◌≡◌ {A = Outs} (Err e) (Err f)
same_fault e f h = let same : e ≡ f = cc in λ i. Err (same i)

refused : (n : Program) (b : NodeBody) (inputs : List Plain) (number attempt : ℕ) (r : Report) (f : TaskFault)
    → job_of n b inputs number attempt ≡ Err f → outputs_of n b inputs attempt r ≡ Err f
refused n (body.Process s) inputs number attempt r f h = (without_a_job (process_of n s) inputs number attempt r f h).0
refused n body.Source inputs number attempt r f h = same_fault no_process f h
refused n body.Item inputs number attempt r f h = same_fault no_process f h
refused n (body.Literal v) inputs number attempt r f h = same_fault no_process f h
refused n (body.Pattern re) inputs number attempt r f h = same_fault no_process f h
refused n (body.Applied c) inputs number attempt r f h = same_fault no_process f h
refused n (body.Branch cs) inputs number attempt r f h = same_fault no_process f h
refused n (body.MultiMap cs) inputs number attempt r f h = same_fault no_process f h

last : (n : Program) (b : NodeBody) (inputs : List Plain) (r : Report) → outputs_of n b inputs last_attempt r ≢ Ok Again
last n (body.Process s) inputs r = not_again (process_of n s) inputs 101 r (lit≤ tt)
last n body.Source inputs r = λ e. cc
last n body.Item inputs r = λ e. cc
last n (body.Literal v) inputs r = λ e. cc
last n (body.Pattern re) inputs r = λ e. cc
last n (body.Applied c) inputs r = λ e. cc
last n (body.Branch cs) inputs r = λ e. cc
last n (body.MultiMap cs) inputs r = λ e. cc

pub are_rules : (n : Program) (infos : List NodeInfo) → IsRules (rules_of n infos)
are_rules n infos = record {
  refused = λ i inputs number attempt r f h. refused n (body_in infos i) inputs number attempt r f h;
  last = λ i inputs r. last n (body_in infos i) inputs r;
}
