-- The rules of a row, as its lines tell them: of several lines about one thing the first counts.
use Rattle.std.specs.Prelude.{◌≡◌, ◌≢◌, ◌==◌, ◌&&◌, ℕ, zero, suc, ℤ, pos, negsuc, List, [], ◌∷◌, Bool, nat_le, bytes_eq, if◌then◌else◌, Result, Ok, Err}
use Rattle.std.specs.declared.option.Option.{Option}
use Rattle.std.specs.declared.option.Option.TheVariants.{None, Some}
use Rattle.std.specs.Ordering.{eq_by_cmp}
use Rattle.nf_value.specs.Plain.{Plain, text}
use Rattle.nf_value.specs.View.{plain_of}
use Rattle.nf_value.specs.Order.{value_cmp}
use Rattle.nf_value.specs.declared.fault.EvalFault.{EvalFault}
use Rattle.nf_job.specs.declared.report.Captured.{Captured}
use Rattle.nf_job.specs.declared.report.Captured.TheVariants as captured
use Rattle.nf_job.specs.declared.fault.TaskFault.{TaskFault}
use Rattle.nf_job.specs.declared.fault.TaskFault.TheVariants.{BadStdout, Eval, Exit}
use Rattle.nf_job.specs.declared.emitted.Outputs.{Outputs}
use Rattle.nf_job.specs.declared.emitted.Outputs.TheVariants.{Emits, Ignored, Failed, Again}
use Rattle.nf_graph.specs.Rules.{Rules, IsRules}
use Rattle.nf_graph.specs.Meaning.{same_inputs}
use Rattle.nf_machine.specs.Event.{answer_of}
use Rattle.nf_steps.specs.Echo.{echo_parts}
use Rattle.cases_schedules.specs.declared.rules.Answer.{Answer}
use Rattle.cases_schedules.specs.declared.rules.Handling.{Handling}
use Rattle.cases_schedules.specs.declared.rules.Refused.{Refused}
use Rattle.cases_schedules.specs.declared.rules.Told.{Told}
use Rattle.cases_schedules.specs.declared.rules.Strategy.{Strategy}
use Rattle.cases_schedules.specs.declared.rules.Strategy.TheVariants.{Terminate, Ignore, Retry}
use Rattle.cases_schedules.specs.declared.rules.TableRules.{TableRules}

-- ---- closures

abbrev pub is_answer : ℕ → Plain → Answer → Bool
is_answer node x r = (r.node == node) && eq_by_cmp value_cmp (plain_of r.item) x

-- an item that isn't there is its own answer
abbrev pub answer_in : ℕ → Plain → List Answer → Result Plain EvalFault
answer_in node x [] = Ok x
answer_in node x (r ∷ rs) = if is_answer node x r then answer_of r.answer else answer_in node x rs

-- ---- attempts without a job

abbrev pub is_refusal : ℕ → List Plain → ℕ → Refused → Bool
is_refusal node inputs attempt r = (r.node == node) && ((r.attempt == attempt) && same_inputs r.inputs inputs)

abbrev pub refusal_in : ℕ → List Plain → ℕ → List Refused → Option EvalFault
refusal_in node inputs attempt [] = None
refusal_in node inputs attempt (r ∷ rs) = if is_refusal node inputs attempt r then Some r.fault else refusal_in node inputs attempt rs

-- ---- reports

abbrev pub strategy_in : ℕ → List Handling → Strategy
strategy_in node [] = Terminate
strategy_in node (h ∷ hs) = if h.node == node then h.strategy else strategy_in node hs

-- a task is tried again so many times, at most a hundred
abbrev pub failed_by : Strategy → ℕ → TaskFault → Outputs
failed_by Terminate attempt fault = Failed fault
failed_by Ignore attempt fault = Ignored
failed_by (Retry times) attempt fault = if nat_le attempt 100 && nat_le attempt times then Again else Failed fault

abbrev pub is_told : ℕ → List ℕ → Told → Bool
is_told node t r = (r.node == node) && bytes_eq r.text t

-- a text that isn't there is emitted itself
abbrev pub values_in : ℕ → List ℕ → List Told → List (Option Plain)
values_in node t [] = Some (text t) ∷ []
values_in node t (r ∷ rs) = if is_told node t r then r.values else values_in node t rs

abbrev pub printed_by : TableRules → ℕ → ℕ → Captured → Outputs
printed_by t node attempt captured.None = failed_by (strategy_in node t.strategies.items) attempt BadStdout
printed_by t node attempt captured.Bad = failed_by (strategy_in node t.strategies.items) attempt BadStdout
printed_by t node attempt (captured.Text s) = Emits (values_in node s t.outputs.items)

abbrev pub ended_by : TableRules → ℕ → ℕ → ℤ → Captured → Outputs
ended_by t node attempt (pos zero) c = printed_by t node attempt c
ended_by t node attempt (pos (suc k)) c = failed_by (strategy_in node t.strategies.items) attempt (Exit (pos (suc k)))
ended_by t node attempt (negsuc k) c = failed_by (strategy_in node t.strategies.items) attempt (Exit (negsuc k))

-- ---- the rules

-- an attempt that is refused has its fault in place of a job, and whatever its report
abbrev pub or_refused : {A : Type 0} → Option EvalFault → A → Result A TaskFault
or_refused None x = Ok x
or_refused (Some f) x = Err (Eval f)

abbrev pub table_rules : TableRules → Rules
table_rules t = record {
  answer = λ node x. answer_in node x t.answers.items;
  job = λ node inputs n attempt. or_refused (refusal_in node inputs attempt t.refused.items) (echo_parts inputs n attempt);
  outputs = λ node inputs attempt r. or_refused (refusal_in node inputs attempt t.refused.items) (ended_by t node attempt r.exit r.captured);
}

-- ---- what they owe each other

refused_both : {A B : Type 0} (o : Option EvalFault) (x : A) (y : B) (f : TaskFault) → or_refused o x ≡ Err f → or_refused o y ≡ Err f
refused_both None x y f h = absurd cc
refused_both (Some e) x y f h = cc

not_again : (s : Strategy) (fault : TaskFault) → failed_by s 101 fault ≢ Again
not_again Terminate fault = λ h. cc
not_again Ignore fault = λ h. cc
not_again (Retry times) fault = λ h. cc

not_printed : (t : TableRules) (node : ℕ) (c : Captured) → printed_by t node 101 c ≢ Again
not_printed t node captured.None = not_again (strategy_in node t.strategies.items) BadStdout
not_printed t node captured.Bad = not_again (strategy_in node t.strategies.items) BadStdout
not_printed t node (captured.Text s) = λ h. cc

not_ended : (t : TableRules) (node : ℕ) (exit : ℤ) (c : Captured) → ended_by t node 101 exit c ≢ Again
not_ended t node (pos zero) c = not_printed t node c
not_ended t node (pos (suc k)) c = not_again (strategy_in node t.strategies.items) (Exit (pos (suc k)))
not_ended t node (negsuc k) c = not_again (strategy_in node t.strategies.items) (Exit (negsuc k))

last : (o : Option EvalFault) (x : Outputs) → x ≢ Again → or_refused o x ≢ Ok Again
last None x n = λ h. n cc
last (Some e) x n = λ h. cc

pub table_are_rules : (t : TableRules) → IsRules (table_rules t)
table_are_rules t = record {
  refused = λ node inputs n attempt r f h. refused_both (refusal_in node inputs attempt t.refused.items) (echo_parts inputs n attempt) (ended_by t node attempt r.exit r.captured) f h;
  last = λ node inputs r. last (refusal_in node inputs 101 t.refused.items) (ended_by t node 101 r.exit r.captured) (not_ended t node r.exit r.captured);
}
