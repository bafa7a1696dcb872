-- What the rules of a graph answer, what their answers owe each other, and which report of a task decides.
use Rattle.std.specs.Prelude.{◌≡◌, ◌≢◌, ℕ, suc, List, [], ◌∷◌, true, get_or, Option, Some, None, Result, Ok, Err, is_ok}
use Rattle.nf_value.specs.Plain.{Plain}
use Rattle.nf_value.specs.declared.fault.EvalFault.{EvalFault}
use Rattle.nf_job.specs.declared.parts.JobParts.{JobParts}
use Rattle.nf_job.specs.declared.report.Report.{Report}
use Rattle.nf_job.specs.declared.fault.TaskFault.{TaskFault}
use Rattle.nf_job.specs.declared.emitted.Outputs.{Outputs}
use Rattle.nf_job.specs.declared.emitted.Outputs.TheVariants.{Emits, Ignored, Failed, Again}

-- what a report amounts to: outputs, or a fault, as of an attempt without a job or of an output without a value
abbrev pub Outs : Type 0
Outs = Result Outputs TaskFault

-- functions of a node's place in the graph
pub record Rules : Type 0 where
  -- the answer of an operator's closure to an item
  pub answer : ℕ → Plain → Result Plain EvalFault
  -- the job of a process's inputs, their number and the attempt; or why there is none
  pub job : ℕ → List Plain → ℕ → ℕ → Result JobParts TaskFault
  -- what the report of a process's inputs and attempt amounts to
  pub outputs : ℕ → List Plain → ℕ → Report → Outs

-- the last attempt that a task may have
abbrev pub last_attempt : ℕ
last_attempt = 101

-- Where an attempt has no job, each report amounts to the same fault (a report may amount to a fault of its own too); and the last attempt
-- isn't tried again
pub record IsRules (R : Rules) : Type 0 where
  pub refused : (node : ℕ) (inputs : List Plain) (n attempt : ℕ) (report : Report) (fault : TaskFault)
      → R.job node inputs n attempt ≡ Err fault → R.outputs node inputs attempt report ≡ Err fault
  pub last : (node : ℕ) (inputs : List Plain) (report : Report) → R.outputs node inputs last_attempt report ≢ Ok Again

-- ---- what decides an instance

-- an attempt without a job decides by its fault, and a report unless its task is tried again; then `rest` decides
abbrev pub decided_by : Result JobParts TaskFault → Outs → Option Outs → Option Outs
decided_by (Err f) outs rest = Some (Err f)
decided_by (Ok job) (Ok Again) rest = rest
decided_by (Ok job) (Ok (Emits vs)) rest = Some (Ok (Emits vs))
decided_by (Ok job) (Ok Ignored) rest = Some (Ok Ignored)
decided_by (Ok job) (Ok (Failed f)) rest = Some (Ok (Failed f))
decided_by (Ok job) (Err f) rest = Some (Err f)

-- an attempt without a report decides only if it has no job
abbrev pub refused_by : Result JobParts TaskFault → Option Outs
refused_by (Err f) = Some (Err f)
refused_by (Ok job) = None

-- what decides, of these reports of the attempts from this one on: jobs and outputs are those of one instance
abbrev pub decided : (ℕ → Result JobParts TaskFault) → (ℕ → Report → Outs) → ℕ → List Report → Option Outs
decided job outputs attempt [] = refused_by (job attempt)
decided job outputs attempt (r ∷ rs) = decided_by (job attempt) (outputs attempt r) (decided job outputs (suc attempt) rs)

-- each of these attempts, from this one on, has a job, and its report is tried again
abbrev pub AreTriedAgain : (ℕ → Result JobParts TaskFault) → (ℕ → Report → Outs) → ℕ → List Report → Type 0
AreTriedAgain job outputs attempt [] = Unit {0}
AreTriedAgain job outputs attempt (r ∷ rs) = (is_ok (job attempt) ≡ true) × (outputs attempt r ≡ Ok Again) × AreTriedAgain job outputs (suc attempt) rs

abbrev pub list_of : {A : Type 0} → Option A → List A
list_of None = []
list_of (Some x) = x ∷ []

-- the value that goes to an output
abbrev pub emit_at : Outs → ℕ → List Plain
emit_at (Ok (Emits vs)) out = list_of (get_or vs out None)
emit_at (Ok Ignored) out = []
emit_at (Ok (Failed f)) out = []
emit_at (Ok Again) out = []
emit_at (Err f) out = []

-- the fault that ends a run
abbrev pub fault_of : Outs → List TaskFault
fault_of (Ok (Emits vs)) = []
fault_of (Ok Ignored) = []
fault_of (Ok (Failed f)) = f ∷ []
fault_of (Ok Again) = []
fault_of (Err f) = f ∷ []

-- the same of what decides, if anything does
abbrev pub emitted_by : Option Outs → ℕ → List Plain
emitted_by None out = []
emitted_by (Some outs) out = emit_at outs out

abbrev pub fault_by : Option Outs → List TaskFault
fault_by None = []
fault_by (Some outs) = fault_of outs
