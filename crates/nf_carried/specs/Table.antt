-- What a call owes that ran a plan: a row for each end, what was written, copied and traced, and when it goes well.
use Rattle.std.specs.Prelude.{◌≡◌, ◌⊎◌, ℕ, List, ◌++◌, IfSome, true}
use Rattle.std.specs.declared.option.Option.{Option}
use Rattle.std.specs.declared.option.Option.TheVariants.{None, Some}
use Rattle.nf_host.specs.Faults.{Rose}
use Rattle.nf_host.specs.Sink.{GrowsByFront}
use Rattle.nf_shell.specs.Folder.{HasDigest}
use Rattle.nf_tasks.specs.declared.target_list.Target.{Target}
use Rattle.nf_machine.specs.declared.event.Event.{Event}
use Rattle.nf_meaning.specs.Report.{report_of}
use Rattle.nf_publish.specs.Copies.{IsTrueOf, is_target}
use Rattle.nf_publish.specs.Targets.{HaveOneContent, IsPublished}
use Rattle.nf_publish.specs.declared.fault.CopyRefusal.TheVariants as copy
use Rattle.nf_ends.specs.declared.end.End.{End}
use Rattle.nf_ends.specs.declared.end.End.TheVariants as end
use Rattle.nf_ends.specs.Summary.{summary, starts_in, reuses_in}
use Rattle.nf_ends.specs.Writes.{WroteLine}
use Rattle.nf_ran.specs.Run.{Run}
use Rattle.nf_ran.specs.Ended.{EndedWell, EndsByStop, IsFaultless, meant_by}
use Rattle.nf_ran.specs.Finished.{Clashes}
use Rattle.nf_ran.specs.Ran.{LanesRose}
use Rattle.nf_carried.specs.Objects.{CallEnd, HostNow, Objects, OnWritten}
use Rattle.nf_carried.specs.declared.work.Way.{Way}
use Rattle.nf_carried.specs.Tracing.{Holds, KeepsBut}
use Rattle.nf_carried.specs.Copying.{KeepsFiles, shown}

-- ---- who failed

-- one of the lanes
abbrev pub LaneRose : Objects → Objects → Type 0
LaneRose before after = LanesRose before.hands.lanes after.hands.lanes

abbrev pub KeeperRose : Objects → Objects → Type 0
KeeperRose before after = Rose before.hands.keeper.faults after.hands.keeper.faults

abbrev pub HostRose : Objects → Objects → Type 0
HostRose before after = Rose before.hands.host.faults after.hands.host.faults

abbrev pub SinkRose : Objects → Objects → Type 0
SinkRose before after = Rose before.sink.faults after.sink.faults

-- no object failed in the call
pub record NoneRose (before after : Objects) : Type 0 where
  pub lane : LaneRose before after → ⊥
  pub keeper : KeeperRose before after → ⊥
  pub host : HostRose before after → ⊥
  pub sink : SinkRose before after → ⊥

-- ---- the rows

-- Of a run with this history. An end that names a stop has the stop's values, and the script's meaning has that fault;
-- an end that names a target or a digest is true of the files that the meaning publishes; an end that blames an object
-- has a failure of it in the call. `Mem` is free
abbrev pub Row : Run → List Event → List ℕ → Objects → Objects → End → Type 0
Row run h folder before after end.Ok = EndedWell run h
Row run h folder before after end.SinkFault = EndedWell run h × SinkRose before after
Row run h folder before after end.HostFault = EndedWell run h × HostRose before after
Row run h folder before after (end.Damaged due found) =
    EndedWell run h × IsTrueOf folder (meant_by run h).targets after.hands.host.files (copy.Damaged due found)
Row run h folder before after (end.PublishClash c) = Clashes run h c
Row run h folder before after end.LaneFault = EndsByStop run h end.LaneFault × LaneRose before after
Row run h folder before after end.KeeperFault = EndsByStop run h end.KeeperFault × KeeperRose before after
Row run h folder before after end.Mem = Unit {0}
Row run h folder before after e = EndsByStop run h e

-- ---- what was written

-- what is due of a run: what it means, how it is run, and its trace by its history
pub record Due : Type 0 where
  pub run : Run
  pub way : Way
  pub trace : List Event → List ℕ

-- the report of what the script means under the outcomes of its history, as it is shown, and the line after it
abbrev pub output_of : Due → List Event → List ℕ
output_of d h = shown d.way.shows (report_of (meant_by d.run h)) ++ summary (starts_in h) (reuses_in h)

-- this output, or its front if the sink failed; or the error line of the end. `Mem` writes nothing
abbrev pub Wrote : List ℕ → Type 0 → End → List ℕ → List ℕ → Type 0
Wrote output rose end.Ok before after = after ≡ before ++ output
Wrote output rose end.SinkFault before after = GrowsByFront before output after
Wrote output rose e before after = WroteLine e rose before after

-- ---- what was copied

-- No target has two contents. If the host tells its files, each target holds exactly the bytes that are published there,
-- and all other files are as they were
pub record AreInPlace (ts : List Target) (before after : HostNow) : Type 0 where
  pub one : HaveOneContent ts
  pub copied : IfSome after.files (λ g. (path digest : List ℕ) → IsPublished ts path digest → HasDigest (g path) digest)
  pub others : KeepsFiles ts before after

-- Before an output is written its files are in place. A call that ended while they were copied changed targets alone,
-- and before that nothing was copied
abbrev pub Published : List Target → HostNow → HostNow → End → Type 0
Published ts before after end.Ok = AreInPlace ts before after
Published ts before after end.SinkFault = AreInPlace ts before after
Published ts before after end.HostFault = KeepsFiles ts before after
Published ts before after (end.Damaged due found) = KeepsFiles ts before after
Published ts before after end.Mem = KeepsFiles ts before after
Published ts before after e = after ≡ before

-- ---- the trace

-- The trace file that was asked for holds the trace, unless the host failed in the call, memory ran out, or a published
-- file has its name
abbrev pub TraceStands : Option (List ℕ) → List ℕ → List Target → Objects → Objects → End → Type 0
TraceStands None text ts before after e = Unit {0}
TraceStands (Some path) text ts before after e =
    Holds path text after.hands.host ⊎ (HostRose before after ⊎ ((e ≡ end.Mem) ⊎ (is_target ts path ≡ true)))

-- until the files were copied no other file changed
abbrev pub TracesAlone : Option (List ℕ) → HostNow → HostNow → Type 0
TracesAlone None before noted = noted ≡ before
TracesAlone (Some path) before noted = KeepsBut path before noted

-- ---- the whole

-- The end of a run that neither an object nor a fault of the script spoils. Of two contents for one target, and of a
-- stored file that isn't what was published, the row says that they are there
abbrev pub GoesWell : End → Type 0
GoesWell end.Ok = Unit {0}
GoesWell (end.PublishClash c) = Unit {0}
GoesWell (end.Damaged due found) = Unit {0}
GoesWell end.Mem = Unit {0}
GoesWell _ = ⊥

pub record OwesRun (d : Due) (before : Objects) {D S : Type 0} (y : CallEnd D S) : Type 0 where
  pub row : Row d.run y.history d.way.folder before y.after y.end
  pub wrote : OnWritten before.sink y.after.sink
      (Wrote (output_of d y.history) (SinkRose before y.after) y.end)
  pub trace : TraceStands d.way.trace (d.trace y.history) (meant_by d.run y.history).targets before y.after y.end
  -- the host once the trace was written; from then on files were copied
  pub noted : HostNow
  pub traced : TracesAlone d.way.trace before.hands.host noted
  pub published : Published (meant_by d.run y.history).targets noted y.after.hands.host y.end
  -- if no object failed, and the script's meaning has no fault and costs no more than the limit, the call goes well
  pub complete : NoneRose before y.after → IsFaultless (meant_by d.run y.history) → GoesWell y.end
