-- Where the body of a node means what a call in a script means.
use Rattle.std.specs.Prelude.{◌≡◌, ℕ, List, [], ◌∷◌, None}
use Rattle.nf_value.specs.Plain.{Plain}
use Rattle.nf_bag.specs.declared.rows.Row.{Row}
use Rattle.nf_bag.specs.declared.rows.Row.TheVariants as row
use Rattle.nf_job.specs.declared.report.Report.{Report}
use Rattle.nf_eval.specs.declared.closures.Closure.{Closure}
use Rattle.nf_eval.specs.Evaluation.{Closing, apply_of}
use Rattle.nf_tasks.specs.Memory.{Program, formula_of}
use Rattle.nf_meaning.specs.Taken.{Taken}
use Rattle.nf_meaning.specs.Operators.{answer}
use Rattle.nf_meaning.specs.Tasks.{CalledProcess, job, outs, published}
use Rattle.nf_bodies.specs.declared.body.NodeBody.{NodeBody}
use Rattle.nf_bodies.specs.Bodies.{answer_of, job_of, outputs_of, published_of}
use Rattle.nf_bodies.specs.Labels.{Label, with_label}

-- the body answers items as an operator does that took this from its arguments
pub record AnswersAs (n : Program) (b : NodeBody) (r : Row) (t : Taken) : Type 0 where
  pub each : (x : Plain) → answer_of n b x ≡ answer r t x

-- the body has the tasks of a process as a call has it
pub record HasTasksOf (n : Program) (b : NodeBody) (c : CalledProcess) : Type 0 where
  pub jobs : (inputs : List Plain) (number attempt : ℕ)
      → job_of n b inputs number attempt ≡ job c inputs number attempt
  pub amounts : (inputs : List Plain) (attempt : ℕ) (r : Report)
      → outputs_of n b inputs attempt r ≡ outs c inputs attempt r
  pub publishes : (inputs : List Plain) (attempt : ℕ) (r : Report)
      → published_of n b inputs attempt r ≡ published c inputs attempt r

-- ---- closures

-- the closure in memory gives what this one gives, for any arguments
abbrev pub GivesAs : Program → Closure → Closing → Type 0
GivesAs n stored c = (vs : List Plain) → formula_of n stored vs ≡ apply_of c vs

-- for each label a closure in memory that gives what this one gives with that label alone
abbrev pub GiveLabels : Program → List Closure → Closing → List Label → Type 0
GiveLabels n [] c [] = Unit {0}
GiveLabels n (s ∷ stored) c (l ∷ ls) = GivesAs n s (with_label c l) × GiveLabels n stored c ls
GiveLabels n [] c (l ∷ ls) = ⊥
GiveLabels n (s ∷ stored) c [] = ⊥

-- the operator applies its closure as a whole, and not label by label
abbrev pub IsApplied : Row → Type 0
IsApplied row.Branch = ⊥
IsApplied row.MultiMap = ⊥
IsApplied _ = Unit {0}

-- the operator took neither a closure, nor a pattern or a value to compare with
pub record HasNothing (t : Taken) : Type 0 where
  pub closing : t.closing ≡ None
  pub pattern : t.pattern ≡ None
  pub literal : t.literal ≡ None
