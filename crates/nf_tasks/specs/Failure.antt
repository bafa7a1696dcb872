-- Why a report fails, and what becomes of the task then.
use Rattle.std.specs.Prelude.{ℕ, zero, suc, ℤ, pos, negsuc, List, [], ◌∷◌, Bool, true, false, not, nat_le, min, if◌then◌else◌, Option, None, Some}
use Rattle.nf_value.specs.declared.file.FileRef.{FileRef}
use Rattle.nf_job.specs.declared.fault.TaskFault.{TaskFault}
use Rattle.nf_job.specs.declared.fault.TaskFault.TheVariants.{Exit, MissingOutput, BadStdout}
use Rattle.nf_job.specs.declared.report.Captured.{Captured}
use Rattle.nf_job.specs.declared.report.Captured.TheVariants as captured
use Rattle.nf_job.specs.declared.report.Report.{Report}
use Rattle.nf_job.specs.declared.emitted.Outputs.{Outputs}
use Rattle.nf_job.specs.declared.emitted.Outputs.TheVariants.{Ignored, Failed, Again}
use Rattle.nf_tasks.specs.declared.process.ErrorStrategy.{ErrorStrategy}
use Rattle.nf_tasks.specs.declared.process.ErrorStrategy.TheVariants.{Terminate, Ignore, Retry}

-- the first of several causes
abbrev pub or_else : Option TaskFault → Option TaskFault → Option TaskFault
or_else None later = later
or_else (Some f) later = Some f

-- an exit status other than 0
abbrev pub exit_failure : ℤ → Option TaskFault
exit_failure (pos zero) = None
exit_failure (pos (suc k)) = Some (Exit (pos (suc k)))
exit_failure (negsuc k) = Some (Exit (negsuc k))

-- a standard output that is an output, and no text
abbrev pub stdout_failure : Bool → Captured → Option TaskFault
stdout_failure false c = None
stdout_failure true (captured.Text t) = None
stdout_failure true captured.None = Some BadStdout
stdout_failure true captured.Bad = Some BadStdout

abbrev pub is_text : Captured → Bool
is_text (captured.Text t) = true
is_text captured.None = false
is_text captured.Bad = false

-- the files of a pattern, none where the report has no list for it
abbrev pub first_files : List (List FileRef) → List FileRef
first_files [] = []
first_files (fs ∷ more) = fs

abbrev pub other_files : List (List FileRef) → List (List FileRef)
other_files [] = []
other_files (fs ∷ more) = more

abbrev pub is_there : List FileRef → Bool
is_there [] = false
is_there (f ∷ fs) = true

-- whether there is a first pattern, and it isn't optional
abbrev pub is_due : List Bool → Bool
is_due [] = false
is_due (o ∷ os) = not o

abbrev pub missing_one : Bool → List ℕ → List FileRef → Option TaskFault
missing_one optional t [] = if optional then None else Some (MissingOutput t)
missing_one optional t (f ∷ fs) = None

-- The first pattern that isn't optional and has no files. The options say of each pattern whether it is optional. Lists
-- of files past the patterns have no effect
abbrev pub files_failure : List Bool → List (List ℕ) → List (List FileRef) → Option TaskFault
files_failure [] ts found = None
files_failure (o ∷ os) [] found = None
files_failure (o ∷ os) (t ∷ ts) found =
    or_else (missing_one o t (first_files found)) (files_failure os ts (other_files found))

-- what a report is judged by: the options of the patterns, their texts, and whether the standard output is an output
pub record Due : Type 0 where
  pub options : List Bool
  pub texts : List (List ℕ)
  pub stdout : Bool

-- why a report fails: first its exit status, then its standard output, then its files
abbrev pub failure_of : Due → Report → Option TaskFault
failure_of due r =
    or_else (exit_failure r.exit) (
    or_else (stdout_failure due.stdout r.captured)
    (files_failure due.options due.texts r.found))

-- what becomes of the task whose attempt failed
abbrev pub outputs_at : ErrorStrategy → ℕ → TaskFault → Outputs
outputs_at Terminate attempt f = Failed f
outputs_at Ignore attempt f = Ignored
outputs_at (Retry most) attempt f = if nat_le attempt (min most 100) then Again else Failed f
