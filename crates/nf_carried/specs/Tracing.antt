-- What writing the trace of a run comes to.
use Rattle.std.specs.Prelude.{◌≡◌, ◌⊎◌, ℕ, List, Result, Ok, Err, IfSome}
use Rattle.std.specs.declared.option.Option.{Option}
use Rattle.std.specs.declared.option.Option.TheVariants.{None, Some}
use Rattle.nf_host.specs.Faults.{Rose}
use Rattle.nf_host.specs.Files.{KeepsOthers}
use Rattle.nf_host.specs.Told.{Both}
use Rattle.nf_ends.specs.declared.end.End.{End}
use Rattle.nf_ends.specs.declared.end.End.TheVariants as end
use Rattle.nf_ran.specs.DeclaredFinished.{Finished}
use Rattle.nf_ran.specs.Ran.{Upshot}
use Rattle.nf_carried.specs.Objects.{HostNow}

-- the file at this path has these bytes, if the host tells its files
abbrev pub Holds : List ℕ → List ℕ → HostNow → Type 0
Holds path text now = IfSome now.files (λ f. f path ≡ Some text)

-- all other files are as they were
abbrev pub KeepsBut : List ℕ → HostNow → HostNow → Type 0
KeepsBut path before after = Both before.files after.files (KeepsOthers path)

-- Where the trace couldn't be written, a run that was stopped keeps its end, and any other ends for that
abbrev pub without_trace : Result Finished End → Result Finished End
without_trace (Ok f) = Err end.HostFault
without_trace (Err (end.PublishClash c)) = Err end.HostFault
without_trace (Err e) = Err e

-- the trace was written, the host failed, or memory ran out
abbrev pub WritesTrace : List ℕ → List ℕ → Result Finished End → HostNow → HostNow → Result Finished End → Type 0
WritesTrace path text outcome before after left =
    (Holds path text after × (left ≡ outcome))
    ⊎ ((Rose before.faults after.faults × (left ≡ without_trace outcome)) ⊎ (left ≡ Err end.Mem))

-- a trace that was made is written to its file, and no other file changes; else nothing is done
abbrev pub NotesText : List ℕ → Option (List ℕ) → Result Finished End → HostNow → HostNow → Result Finished End → Type 0
NotesText path None outcome before after left = (left ≡ outcome) × (after ≡ before)
NotesText path (Some text) outcome before after left =
    WritesTrace path text outcome before after left × KeepsBut path before after

-- the same, if it was asked for at this path
abbrev pub NotesTrace : Option (List ℕ) → Upshot → HostNow → HostNow → Result Finished End → Type 0
NotesTrace None u before after left = (left ≡ u.outcome) × (after ≡ before)
NotesTrace (Some path) u before after left = NotesText path u.trace u.outcome before after left
