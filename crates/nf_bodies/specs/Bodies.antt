-- What the bodies of nodes answer.
use Rattle.std.specs.Prelude.{ℕ, List, [], ◌∷◌, Bool, map, get_or, Ok, Err}
use Rattle.nf_value.specs.Plain.{Plain}
use Rattle.nf_value.specs.View.{plain_of}
use Rattle.nf_value.specs.declared.fault.EvalKind.TheVariants.{WrongKind}
use Rattle.nf_pattern.specs.Whole.{found_in}
use Rattle.nf_pattern.specs.Wrapped.{wrapped}
use Rattle.nf_eval.specs.Compare.{is_found}
use Rattle.nf_eval.specs.Placed.{Placed}
use Rattle.nf_eval.specs.Evaluation.{nowhere}
use Rattle.nf_meaning.specs.Answer.{literal_answer, pattern_answer}
use Rattle.nf_job.specs.declared.parts.JobParts.{JobParts}
use Rattle.nf_job.specs.declared.report.Report.{Report}
use Rattle.nf_job.specs.declared.fault.TaskFault.{TaskFault}
use Rattle.nf_job.specs.declared.fault.TaskFault.TheVariants.{Eval}
use Rattle.nf_meaning.specs.Rules.{Rules, Outs}
use Rattle.nf_tasks.specs.Judged.{Judged}
use Rattle.nf_tasks.specs.Memory.{Program, formula_of, process_of}
use Rattle.nf_tasks.specs.Prepared.{parts_of}
use Rattle.nf_tasks.specs.Outcome as outcome
use Rattle.nf_tasks.specs.Outcome.{targets_of}
use Rattle.nf_tasks.specs.declared.target_list.Target.{Target}
use Rattle.nf_bodies.specs.declared.body.NodeBody.{NodeBody}
use Rattle.nf_bodies.specs.declared.body.NodeBody.TheVariants as body
use Rattle.nf_bodies.specs.declared.body.NodeInfo.{NodeInfo}
use Rattle.nf_bodies.specs.Labels.{first_true, value_list}

-- ---- items

-- whether a text matches the pattern as a whole
abbrev pub matches_whole : List ℕ → List ℕ → Bool
matches_whole re t = is_found (found_in (wrapped re) t)

-- the answer to an item
abbrev pub answer_of : Program → NodeBody → Plain → Placed Plain
answer_of n body.Source x = Ok x
answer_of n body.Item x = Ok x
answer_of n (body.Literal v) x = Ok (literal_answer (plain_of v) x)
answer_of n (body.Pattern re) x = Ok (pattern_answer (matches_whole re) x)
answer_of n (body.Applied c) x = formula_of n c (x ∷ [])
answer_of n (body.Branch cs) x = first_true (map (formula_of n) cs.items) 0 (x ∷ [])
answer_of n (body.MultiMap cs) x = value_list (map (formula_of n) cs.items) (x ∷ [])
answer_of n (body.Process s) x = Ok x

-- ---- tasks

-- the fault of a task that a node without a process is asked for
abbrev pub no_process : TaskFault
no_process = Eval (record { kind = WrongKind; place = nowhere })

abbrev pub job_of : Program → NodeBody → List Plain → ℕ → ℕ → Judged JobParts
job_of n (body.Process s) inputs number attempt = parts_of (process_of n s) inputs number attempt
job_of n body.Source inputs number attempt = Err no_process
job_of n body.Item inputs number attempt = Err no_process
job_of n (body.Literal v) inputs number attempt = Err no_process
job_of n (body.Pattern re) inputs number attempt = Err no_process
job_of n (body.Applied c) inputs number attempt = Err no_process
job_of n (body.Branch cs) inputs number attempt = Err no_process
job_of n (body.MultiMap cs) inputs number attempt = Err no_process

-- what the report of an attempt amounts to
abbrev pub outputs_of : Program → NodeBody → List Plain → ℕ → Report → Outs
outputs_of n (body.Process s) inputs attempt r = outcome.outputs_of (process_of n s) inputs attempt r
outputs_of n body.Source inputs attempt r = Err no_process
outputs_of n body.Item inputs attempt r = Err no_process
outputs_of n (body.Literal v) inputs attempt r = Err no_process
outputs_of n (body.Pattern re) inputs attempt r = Err no_process
outputs_of n (body.Applied c) inputs attempt r = Err no_process
outputs_of n (body.Branch cs) inputs attempt r = Err no_process
outputs_of n (body.MultiMap cs) inputs attempt r = Err no_process

-- the files that it publishes
abbrev pub published_of : Program → NodeBody → List Plain → ℕ → Report → Judged (List Target)
published_of n (body.Process s) inputs attempt r = targets_of (process_of n s) inputs attempt r
published_of n body.Source inputs attempt r = Err no_process
published_of n body.Item inputs attempt r = Err no_process
published_of n (body.Literal v) inputs attempt r = Err no_process
published_of n (body.Pattern re) inputs attempt r = Err no_process
published_of n (body.Applied c) inputs attempt r = Err no_process
published_of n (body.Branch cs) inputs attempt r = Err no_process
published_of n (body.MultiMap cs) inputs attempt r = Err no_process

-- ---- all nodes

-- past the last node stands a source
abbrev pub body_in : List NodeInfo → ℕ → NodeBody
body_in infos i = get_or (map (λ x. x.body) infos) i body.Source

-- what the nodes of a plan answer, each at its place
abbrev pub rules_of : Program → List NodeInfo → Rules
rules_of n infos = record {
  answer = λ i x. answer_of n (body_in infos i) x;
  job = λ i inputs number attempt. job_of n (body_in infos i) inputs number attempt;
  outputs = λ i inputs attempt r. outputs_of n (body_in infos i) inputs attempt r;
}
