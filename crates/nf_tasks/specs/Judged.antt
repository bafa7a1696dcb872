-- A value, or the fault of a task.
use Rattle.std.specs.Prelude.{◌≡◌, List, ◌++◌, Result, Ok, Err}
use Rattle.nf_value.specs.declared.place.Place.{Place}
use Rattle.nf_value.specs.declared.fault.EvalFault.{EvalFault}
use Rattle.nf_value.specs.declared.fault.EvalRefusal.{EvalRefusal}
use Rattle.nf_value.specs.declared.fault.EvalRefusal.TheVariants as eval
use Rattle.nf_value.specs.declared.fault.EvalKind.TheVariants.{WrongKind}
use Rattle.nf_job.specs.declared.fault.TaskFault.{TaskFault}
use Rattle.nf_job.specs.declared.fault.TaskFault.TheVariants.{Eval}
use Rattle.nf_job.specs.declared.fault.TaskRefusal.{TaskRefusal}
use Rattle.nf_job.specs.declared.fault.TaskRefusal.TheVariants as refusal

abbrev pub Judged : Type 0 → Type 0
Judged A = Result A TaskFault

-- goes on with the value, or keeps the fault
infixl 10 ◌>>=◌
abbrev pub ◌>>=◌ : {A B : Type 0} → Judged A → (A → Judged B) → Judged B
(Ok x) >>= f = f x
(Err e) >>= f = Err e

-- the value of an expression; its fault is the task's
abbrev pub evaluated : {A : Type 0} → Result A EvalFault → Judged A
evaluated (Ok x) = Ok x
evaluated (Err e) = Err (Eval e)

-- the refusal of an expression is that of its task
abbrev pub task_refusal : EvalRefusal → TaskRefusal
task_refusal (eval.Fault e) = refusal.Fault (Eval e)
task_refusal eval.Mem = refusal.Mem

-- what stands at this place is of the wrong kind
abbrev pub wrong_kind : Place → TaskFault
wrong_kind p = Eval (record { kind = WrongKind; place = p })

-- the call gave what this value shows, or this fault, unless memory ran out
abbrev pub AnswersBy : {A B : Type 0} → (B → A) → Judged A → Result B TaskRefusal → Type 0
AnswersBy shown due (Ok x) = due ≡ Ok (shown x)
AnswersBy shown due (Err (refusal.Fault f)) = due ≡ Err f
AnswersBy shown due (Err refusal.Mem) = Unit {0}

-- the same of a value that is compared as it is
abbrev pub Answers : {A : Type 0} → Judged A → Result A TaskRefusal → Type 0
Answers due (Ok x) = due ≡ Ok x
Answers due (Err (refusal.Fault f)) = due ≡ Err f
Answers due (Err refusal.Mem) = Unit {0}

-- the call added what is due to a list, or gave this fault, unless memory ran out
abbrev pub added : {A : Type 0} → List A → Judged (List A) → Judged (List A)
added before due = due >>= λ xs. Ok (before ++ xs)

abbrev pub Adds : {A : Type 0} → List A → Judged (List A) → List A → Result (Unit {0}) TaskRefusal → Type 0
Adds before due after (Ok x) = added before due ≡ Ok after
Adds before due after (Err (refusal.Fault f)) = due ≡ Err f
Adds before due after (Err refusal.Mem) = Unit {0}
