-- What copying the files comes to that a run published.
use Rattle.std.specs.Prelude.{◌≡◌, ℕ, List, Result, Ok, Err, IfSome}
use Rattle.nf_host.specs.Faults.{Rose}
use Rattle.nf_host.specs.Told.{Both}
use Rattle.nf_tasks.specs.declared.target_list.Target.{Target}
use Rattle.nf_publish.specs.Copies.{AreCopied, IsTrueOf, KeepsRest}
use Rattle.nf_publish.specs.declared.fault.CopyRefusal.TheVariants as copy
use Rattle.nf_ends.specs.declared.end.End.{End}
use Rattle.nf_ends.specs.declared.end.End.TheVariants as end
use Rattle.nf_ends.specs.declared.writes.Output.{Output}
use Rattle.nf_ends.specs.declared.writes.Output.TheVariants as output
use Rattle.nf_gen.specs.Line.{gen_line}
use Rattle.nf_ran.specs.DeclaredFinished.{Finished}
use Rattle.nf_carried.specs.declared.work.Way.{Way}
use Rattle.nf_carried.specs.declared.work.Shows.{Shows}
use Rattle.nf_carried.specs.declared.work.Shows.TheVariants.{Report, Generated}
use Rattle.nf_carried.specs.Objects.{HostNow}

-- all files that are no targets are as they were, if the host tells its files
abbrev pub KeepsFiles : List Target → HostNow → HostNow → Type 0
KeepsFiles ts before after = Both before.files after.files (KeepsRest ts)

-- why they aren't all copied: the host failed, a stored file isn't what is due, or there was no memory
abbrev pub FailsToCopy : List ℕ → List Target → HostNow → HostNow → End → Type 0
FailsToCopy folder ts before after end.HostFault = Rose before.faults after.faults
FailsToCopy folder ts before after (end.Damaged due found) = IsTrueOf folder ts after.files (copy.Damaged due found)
FailsToCopy folder ts before after end.Mem = Unit {0}
FailsToCopy folder ts before after _ = ⊥

-- what is shown of a report
abbrev pub shown : Shows → List ℕ → List ℕ
shown Report report = report
shown (Generated n start) report = gen_line n start report

-- an output with its report as it is shown
abbrev pub shown_output : Shows → Output → Output
shown_output shows (output.Report report summary) = output.Report (shown shows report) summary
shown_output shows (output.Text text) = output.Text text

-- they are copied, and this is to be written; or they aren't
abbrev pub CopiesTo : Way → Finished → HostNow → HostNow → Result Output End → Type 0
CopiesTo way f before after (Ok o) = (o ≡ shown_output way.shows f.output) × IfSome after.files (AreCopied f.targets)
CopiesTo way f before after (Err e) = FailsToCopy way.folder f.targets before after e

-- of a run that came to this; none is copied of one that didn't end well
abbrev pub Copies : Way → Result Finished End → HostNow → HostNow → Result Output End → Type 0
Copies way (Ok f) before after r = CopiesTo way f before after r × KeepsFiles f.targets before after
Copies way (Err e) before after r = (r ≡ Err e) × (after ≡ before)
