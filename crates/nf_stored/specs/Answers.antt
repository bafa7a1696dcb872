-- The clauses of calls that answer a value or a fault: the call gave what was due, unless memory ran out.
use Rattle.std.specs.Prelude.{◌≡◌, Result, Ok, Err}
use Rattle.nf_value.specs.Plain.{Plain}
use Rattle.nf_value.specs.View.{plain_of}
use Rattle.nf_value.specs.declared.value.Value.{Value}
use Rattle.nf_value.specs.declared.fault.EvalFault.{EvalFault}
use Rattle.nf_value.specs.declared.fault.EvalRefusal.{EvalRefusal}
use Rattle.nf_value.specs.declared.fault.EvalRefusal.TheVariants as eval
use Rattle.nf_job.specs.declared.fault.TaskFault.{TaskFault}
use Rattle.nf_job.specs.declared.fault.TaskRefusal.{TaskRefusal}
use Rattle.nf_job.specs.declared.fault.TaskRefusal.TheVariants as task

-- the answer to an item: this value or this fault, or want of memory
abbrev pub AnswersItem : Result Plain EvalFault → Result Value EvalRefusal → Type 0
AnswersItem due (Ok v) = due ≡ Ok (plain_of v)
AnswersItem due (Err (eval.Fault f)) = due ≡ Err f
AnswersItem due (Err eval.Mem) = Unit {0}

-- the answer about a task: this one or this fault, or want of memory
abbrev pub AnswersTask : {A : Type 0} → Result A TaskFault → Result A TaskRefusal → Type 0
AnswersTask due (Ok x) = due ≡ Ok x
AnswersTask due (Err (task.Fault f)) = due ≡ Err f
AnswersTask due (Err task.Mem) = Unit {0}
