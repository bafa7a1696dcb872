-- What a call that ran a plan owes, from what its run came to, what was traced and copied, and how it closed.
use Rattle.std.proofs.Common.{◌≡◌, ℕ, List, ◌++◌, refl, ap, sym, subst, ◌∙◌, inl, inr}
use Rattle.std.specs.Prelude.{◌⊎◌, ◌≤◌, Result, Ok, Err, IfErr, IfSome, is_some}
use Rattle.std.specs.declared.option.Option.{Option}
use Rattle.std.specs.declared.option.Option.TheVariants.{None, Some}
use Rattle.nf_bag.specs.Tests.{IsSameByTests}
use Rattle.nf_host.specs.Files.{Files}
use Rattle.nf_host.specs.Told.{Both}
use Rattle.nf_shell.specs.Folder.{HasDigest}
use Rattle.nf_machine.specs.declared.event.Event.{Event}
use Rattle.nf_ends.specs.declared.end.End.{End}
use Rattle.nf_ends.specs.declared.end.End.TheVariants as end
use Rattle.nf_ends.specs.declared.writes.Output.{Output}
use Rattle.nf_ends.specs.declared.writes.Output.TheVariants as output
use Rattle.nf_meaning.specs.Report.{report_of}
use Rattle.nf_publish.specs.Copies.{AreCopied, IsTrueOf, KeepsRest}
use Rattle.nf_publish.specs.Targets.{HaveOneContent, IsPublished}
use Rattle.nf_publish.specs.declared.fault.CopyRefusal.{CopyRefusal}
use Rattle.nf_publish.specs.declared.fault.CopyRefusal.TheVariants as copy
use Rattle.nf_ends.specs.Writes.{IsKept, IsRefusal, IsWritten, OnSinkFault, WroteLine, WroteOutput, output_text}
use Rattle.nf_ran.specs.Run.{Run}
use Rattle.nf_ran.specs.Ended.{EndedWell, EndsByStop, IsFaultless, IsFromOutside, meant_by}
use Rattle.nf_ran.specs.Finished.{ComesTo, EndsByClash, GoesFaultless, OwesOutput}
use Rattle.nf_ran.specs.DeclaredFinished.{Finished}
use Rattle.nf_ran.specs.Ran.{Blames, IsTraced, Upshot}
use Rattle.nf_carried.specs.Objects.{CallEnd, HostNow, Objects, OnWritten}
use Rattle.nf_carried.specs.Copying.{Copies, CopiesTo, FailsToCopy, KeepsFiles, shown, shown_output}
use Rattle.nf_carried.specs.Tracing.{NotesText, NotesTrace, without_trace}
use Rattle.nf_carried.specs.Carried.{CarriedOut, Closes, Did, OwesWork, due_of, with_outcome}
use Rattle.nf_carried.specs.declared.work.Work.{Work}
use Rattle.nf_carried.specs.declared.work.Work.TheVariants as work
use Rattle.nf_graph.specs.Rules.{Rules}
use Rattle.nf_tasks.specs.Memory.{Program}
use Rattle.nf_tasks.specs.declared.target_list.Target.{Target}
use Rattle.nf_core.specs.Told.{Ending}
use Rattle.nf_carried.specs.Table.{AreInPlace, Due, GoesWell, HostRose, KeeperRose, LaneRose, NoneRose, OwesRun, Published, Row, SinkRose, Wrote, output_of}
use Rattle.nf_carried.proofs.Tracing.{IsClash, rose_later, rose_sooner, trace_stands, traces_alone}
use Rattle.nf_carried.proofs.Refusing.{IsStopEnd, comes_to_refusal, copy_refuses, names_stop_end}

-- the laws of runs that this rests on
pub record Laws : Type 0 where
  pub ends : (run : Run) (h : List Event) (r : Result Finished End) → ComesTo run h r → IsFaultless (meant_by run h) → GoesFaultless run h r
  pub copied : (ts us : List Target) (g : Files) → IsSameByTests ts us → AreCopied ts g → AreCopied us g
  pub others : (ts us : List Target) (f g : Files) → IsSameByTests ts us → KeepsRest ts f g → KeepsRest us f g
  pub refused : (ts us : List Target) (folder : List ℕ) (now : Option Files) (e : CopyRefusal) → IsSameByTests ts us → IsTrueOf folder ts now e → IsTrueOf folder us now e

-- ---- ends

-- a refusal that is written stays, or becomes `Mem`
by_kept : (P : End → Type 0) (x e : End) → IsKept e x → P e → P end.Mem → P x
by_kept P end.Mem e k p m = m
by_kept P x e k p m = subst P (sym k) p

-- ---- what was written

module _ (P Q : List ℕ → List ℕ → Type 0) (f : (before after : List ℕ) → P before after → Q before after) where
  along : (x y : Option (List ℕ)) → IfSome x (λ before. IfSome y (λ after. P before after)) → IfSome x (λ before. IfSome y (λ after. Q before after))
  along None y h = tt
  along (Some a) None h = tt
  along (Some a) (Some b) h = f a b h

wrote_output : (rose : Type 0) (out : List ℕ) (x : End) → IsWritten x → (before after : List ℕ) → WroteOutput x out before after → Wrote out rose x before after
wrote_output rose out end.Ok w before after h = h
wrote_output rose out end.SinkFault w before after h = h
wrote_output rose out x w before after h = absurd w

wrote_line : (rose : Type 0) (out : List ℕ) (x : End) → IsRefusal x → (before after : List ℕ) → WroteLine x rose before after → Wrote out rose x before after
wrote_line rose out end.Ok r before after h = absurd r
wrote_line rose out end.SinkFault r before after h = absurd r
wrote_line rose out x r before after h = h

-- ---- what was copied

nothing_changed : (ts : List Target) (x : Option Files) → Both x x (KeepsRest ts)
nothing_changed ts None = tt
nothing_changed ts (Some f) = λ path no. refl

untouched : (ts : List Target) (a b : HostNow) → b ≡ a → KeepsFiles ts a b
untouched ts a b same = subst (λ (z : HostNow). KeepsFiles ts a z) (sym same) (nothing_changed ts a.files)

idle_published : (ts : List Target) (a b : HostNow) → b ≡ a → (x : End) → IsRefusal x → Published ts a b x
idle_published ts a b same end.Ok r = absurd r
idle_published ts a b same end.SinkFault r = absurd r
idle_published ts a b same end.HostFault r = untouched ts a b same
idle_published ts a b same (end.Damaged due found) r = untouched ts a b same
idle_published ts a b same end.Mem r = untouched ts a b same
idle_published ts a b same x r = same

failed_published : (folder : List ℕ) (ts us : List Target) (a b : HostNow) → KeepsFiles us a b → (e : End) → FailsToCopy folder ts a b e → Published us a b e
failed_published folder ts us a b keeps end.HostFault h = keeps
failed_published folder ts us a b keeps (end.Damaged due found) h = keeps
failed_published folder ts us a b keeps end.Mem h = keeps
failed_published folder ts us a b keeps e h = absurd h

written_published : (ts : List Target) (a b : HostNow) → AreInPlace ts a b → (x : End) → IsWritten x → Published ts a b x
written_published ts a b there end.Ok w = there
written_published ts a b there end.SinkFault w = there
written_published ts a b there x w = absurd w

-- the files that a run published are those that its meaning publishes
module _ (laws : Laws) (ts us : List Target) (same : IsSameByTests ts us) where
  each_copied : HaveOneContent us → (o : Option Files) → IfSome o (AreCopied ts) → IfSome o (λ g. (path digest : List ℕ) → IsPublished us path digest → HasDigest (g path) digest)
  each_copied one None h = tt
  each_copied one (Some g) h = laws.copied ts us g same h one

  rest_kept : (x y : Option Files) → Both x y (KeepsRest ts) → Both x y (KeepsRest us)
  rest_kept None None h = tt
  rest_kept (Some f) (Some g) h = laws.others ts us f g same h
  rest_kept None (Some g) h = absurd h
  rest_kept (Some f) None h = absurd h

-- ---- what is owed of a run that ended well

record Owed (run : Run) (h : List Event) (ts : List Target) : Type 0 where
  well : EndedWell run h
  one : HaveOneContent (meant_by run h).targets
  same : IsSameByTests ts (meant_by run h).targets

owed : (run : Run) (h : List Event) (ts : List Target) (o : Output) → OwesOutput run h ts o → Owed run h ts
owed run h ts (output.Text text) comes = absurd comes
owed run h ts (output.Report report line) comes = record { well = comes.0.well; one = comes.0.one; same = comes.0.targets_are }

text_due : (d : Due) (h : List Event) (ts : List Target) (o : Output) → OwesOutput d.run h ts o → output_text (shown_output d.way.shows o) ≡ output_of d h
text_due d h ts (output.Text text) comes = absurd comes
text_due d h ts (output.Report report line) comes =
    ap (λ r. shown d.way.shows r ++ line) comes.0.report_is ∙ ap (λ l. shown d.way.shows (report_of (meant_by d.run h)) ++ l) comes.1

-- ---- the rows

module _ (run : Run) (h : List Event) (folder : List ℕ) (a b : Objects) where
  row_ok : (x : End) → EndedWell run h → IsWritten x → OnSinkFault x (SinkRose a b) → Row run h folder a b x
  row_ok end.Ok well w blamed = well
  row_ok end.SinkFault well w blamed = (well, blamed)
  row_ok x well w blamed = absurd w

  row_stop : (e : End) → IsStopEnd e → EndsByStop run h e → Blames (LaneRose a b) (KeeperRose a b) e → Row run h folder a b e
  row_stop end.Ok is k blamed = absurd is
  row_stop end.SinkFault is k blamed = absurd is
  row_stop end.HostFault is k blamed = absurd is
  row_stop (end.Damaged due found) is k blamed = absurd is
  row_stop (end.PublishClash c) is k blamed = absurd is
  row_stop end.LaneFault is k blamed = (k, blamed)
  row_stop end.KeeperFault is k blamed = (k, blamed)
  row_stop end.Mem is k blamed = tt
  row_stop e is k blamed = k

  row_clash : (e : End) → EndsByClash run h e → Row run h folder a b e
  row_clash (end.PublishClash c) k = k
  row_clash e k = absurd k

  row_err : (e : End) → (EndsByStop run h e ⊎ (EndsByClash run h e ⊎ (e ≡ end.Mem))) → Blames (LaneRose a b) (KeeperRose a b) e → Row run h folder a b e
  row_err e (inl k) blamed = row_stop e (names_stop_end run k.stop e k.named) k blamed
  row_err e (inr (inl k)) blamed = row_clash e k
  row_err e (inr (inr memory)) blamed = subst (Row run h folder a b) (sym memory) tt

  row_copy : (laws : Laws) (ts : List Target) → Owed run h ts → (noted : HostNow) → a.hands.host.faults ≤ noted.faults → (e : End) → FailsToCopy folder ts noted b.hands.host e → Row run h folder a b e
  row_copy laws ts due noted later end.HostFault k = (due.well, rose_sooner a.hands.host.faults noted.faults b.hands.host.faults later k)
  row_copy laws ts due noted later (end.Damaged d found) k = (due.well, laws.refused ts (meant_by run h).targets folder b.hands.host.files (copy.Damaged d found) due.same k)
  row_copy laws ts due noted later end.Mem k = tt
  row_copy laws ts due noted later e k = absurd k

  -- ---- when it goes well

  well_ok : (x : End) → NoneRose a b → IsWritten x → OnSinkFault x (SinkRose a b) → GoesWell x
  well_ok end.Ok none w blamed = tt
  well_ok end.SinkFault none w blamed = absurd (none.sink blamed)
  well_ok x none w blamed = absurd w

  well_outside : (e : End) → NoneRose a b → IsFromOutside e → Blames (LaneRose a b) (KeeperRose a b) e → GoesWell e
  well_outside end.LaneFault none o blamed = absurd (none.lane blamed)
  well_outside end.KeeperFault none o blamed = absurd (none.keeper blamed)
  well_outside end.Mem none o blamed = tt
  well_outside e none o blamed = absurd o

  well_clash : (e : End) → EndsByClash run h e → GoesWell e
  well_clash (end.PublishClash c) k = tt
  well_clash e k = absurd k

  well_err : (e : End) → NoneRose a b → (EndsByClash run h e ⊎ IsFromOutside e) → Blames (LaneRose a b) (KeeperRose a b) e → GoesWell e
  well_err e none (inl k) blamed = well_clash e k
  well_err e none (inr o) blamed = well_outside e none o blamed

  well_copy : (ts : List Target) (noted : HostNow) → a.hands.host.faults ≤ noted.faults → (e : End) → NoneRose a b → FailsToCopy folder ts noted b.hands.host e → GoesWell e
  well_copy ts noted later end.HostFault none k = absurd (none.host (rose_sooner a.hands.host.faults noted.faults b.hands.host.faults later k))
  well_copy ts noted later (end.Damaged d found) none k = tt
  well_copy ts noted later end.Mem none k = tt
  well_copy ts noted later e none k = absurd k

-- ---- what is left to be done once the trace was written

record Refused (run : Run) (h : List Event) (folder : List ℕ) (a b : Objects) (e : End) : Type 0 where
  refusal : IsRefusal e
  row : Row run h folder a b e
  well : NoneRose a b → IsFaultless (meant_by run h) → GoesWell e

abbrev Left : Run → List Event → List ℕ → Objects → Objects → Result Finished End → Type 0
Left run h folder a b (Ok f) = OwesOutput run h f.targets f.output
Left run h folder a b (Err e) = Refused run h folder a b e

module _ (laws : Laws) (run : Run) (h : List Event) (folder : List ℕ) (a b : Objects) where
  left_all : (r : Result Finished End) → ComesTo run h r → IfErr r (Blames (LaneRose a b) (KeeperRose a b)) → Left run h folder a b r
  left_all (Ok f) comes blamed = comes
  left_all (Err e) comes blamed = record {
    refusal = comes_to_refusal run h (Err e) comes;
    row = row_err run h folder a b e comes blamed;
    well = λ none fine. well_err run h folder a b e none (laws.ends run h (Err e) comes fine) blamed;
  }

  failed_host : EndedWell run h → HostRose a b → Refused run h folder a b end.HostFault
  failed_host well rose = record { refusal = tt; row = (well, rose); well = λ none fine. absurd (none.host rose) }

  of_clash : (c : _) → (EndsByStop run h (end.PublishClash c) ⊎ (EndsByClash run h (end.PublishClash c) ⊎ (end.PublishClash c ≡ end.Mem))) → EndedWell run h
  of_clash c (inl k) = absurd (names_stop_end run k.stop (end.PublishClash c) k.named)
  of_clash c (inr (inl k)) = k.well
  of_clash c (inr (inr memory)) = absurd (subst IsClash memory tt)

  left_without : (r : Result Finished End) → ComesTo run h r → IfErr r (Blames (LaneRose a b) (KeeperRose a b)) → HostRose a b → Left run h folder a b (without_trace r)
  left_without (Ok f) comes blamed rose = failed_host (owed run h f.targets f.output comes).well rose
  left_without (Err (end.PublishClash c)) comes blamed rose = failed_host (of_clash c comes) rose
  left_without (Err e) comes blamed rose = left_all (Err e) comes blamed

  left_memory : Left run h folder a b (Err end.Mem)
  left_memory = record { refusal = tt; row = tt; well = λ none fine. tt }

  left_text : (path : List ℕ) (o : Option (List ℕ)) (r : Result Finished End) (noted : HostNow) (left : Result Finished End) → ComesTo run h r → IfErr r (Blames (LaneRose a b) (KeeperRose a b))
      → noted.faults ≤ b.hands.host.faults → NotesText path o r a.hands.host noted left → Left run h folder a b left
  left_text path None r noted left comes blamed later k = subst (Left run h folder a b) (sym k.0) (left_all r comes blamed)
  left_text path (Some text) r noted left comes blamed later k = elim k.0 [
    | inl there ↦ subst (Left run h folder a b) (sym there.1) (left_all r comes blamed)
    | inr other ↦ elim other [
      | inl failed ↦ subst (Left run h folder a b) (sym failed.1) (left_without r comes blamed (rose_later a.hands.host.faults noted.faults b.hands.host.faults later failed.0))
      | inr memory ↦ subst (Left run h folder a b) (sym memory) left_memory
    ]
  ]

  left_of : (path : Option (List ℕ)) (u : Upshot) (noted : HostNow) (left : Result Finished End) → ComesTo run h u.outcome → IfErr u.outcome (Blames (LaneRose a b) (KeeperRose a b))
      → noted.faults ≤ b.hands.host.faults → NotesTrace path u a.hands.host noted left → Left run h folder a b left
  left_of None u noted left comes blamed later k = subst (Left run h folder a b) (sym k.0) (left_all u.outcome comes blamed)
  left_of (Some path) u noted left comes blamed later k = left_text path u.trace u.outcome noted left comes blamed later k

-- ---- the whole

module _ (laws : Laws) (d : Due) (before : Objects) {D S : Type 0} (y : CallEnd D S) (noted : HostNow) (first : before.hands.host.faults ≤ noted.faults) where
  abbrev targets : List Target
  targets = (meant_by d.run y.history).targets

  -- what is owed but for the trace
  record Owes : Type 0 where
    row : Row d.run y.history d.way.folder before y.after y.end
    wrote : OnWritten before.sink y.after.sink (Wrote (output_of d y.history) (SinkRose before y.after) y.end)
    published : Published (meant_by d.run y.history).targets noted y.after.hands.host y.end
    keeps : KeepsFiles (meant_by d.run y.history).targets noted y.after.hands.host
    complete : NoneRose before y.after → IsFaultless (meant_by d.run y.history) → GoesWell y.end

  -- a refusal was written, with this row
  owes_refusal : (e : End) → Refused d.run y.history d.way.folder before y.after e → Closes (Err e) before.sink y.after.sink y.end
      → Published targets noted y.after.hands.host e → KeepsFiles targets noted y.after.hands.host → Owes
  owes_refusal e refused closed published keeps =
      let here : IsRefusal y.end = by_kept IsRefusal y.end e closed.ends refused.refusal tt in
      record {
        row = by_kept (Row d.run y.history d.way.folder before y.after) y.end e closed.ends refused.row tt;
        wrote = along (WroteLine y.end (SinkRose before y.after)) (Wrote (output_of d y.history) (SinkRose before y.after) y.end)
            (wrote_line (SinkRose before y.after) (output_of d y.history) y.end here)
            before.sink.written y.after.sink.written closed.line;
        published = by_kept (Published targets noted y.after.hands.host) y.end e closed.ends published keeps;
        keeps = keeps;
        complete = λ none fine. by_kept GoesWell y.end e closed.ends (refused.well none fine) tt;
      }

  -- an output was written
  owes_output : (ts : List Target) (o : Output) → Owed d.run y.history ts → output_text o ≡ output_of d y.history → IfSome y.after.hands.host.files (AreCopied ts)
      → KeepsFiles targets noted y.after.hands.host → Closes (Ok o) before.sink y.after.sink y.end → Owes
  owes_output ts o due text copied keeps closed = record {
    row = row_ok d.run y.history d.way.folder before y.after y.end due.well closed.ends closed.blamed;
    wrote = along (WroteOutput y.end (output_text o)) (Wrote (output_of d y.history) (SinkRose before y.after) y.end)
        (λ old new w. wrote_output (SinkRose before y.after) (output_of d y.history) y.end closed.ends old new (subst (λ (v : List ℕ). WroteOutput y.end v old new) text w))
        before.sink.written y.after.sink.written closed.output;
    published = written_published targets noted y.after.hands.host (record {
      one = due.one;
      copied = each_copied laws ts targets due.same due.one y.after.hands.host.files copied;
      others = keeps;
    }) y.end closed.ends;
    keeps = keeps;
    complete = λ none fine. well_ok d.run y.history d.way.folder before y.after y.end none closed.ends closed.blamed;
  }

  -- a run that ended well
  owes_finished : (f : Finished) (w : Result Output End) → OwesOutput d.run y.history f.targets f.output → CopiesTo d.way f noted y.after.hands.host w
      → KeepsFiles targets noted y.after.hands.host → Closes w before.sink y.after.sink y.end → Owes
  owes_finished f (Ok o) comes k keeps closed =
      owes_output f.targets o (owed d.run y.history f.targets f.output comes) (ap output_text k.0 ∙ text_due d y.history f.targets f.output comes) k.1 keeps closed
  owes_finished f (Err e) comes k keeps closed =
      let due = owed d.run y.history f.targets f.output comes in
      owes_refusal e (record {
        refusal = copy_refuses d.way.folder f.targets noted y.after.hands.host e k;
        row = row_copy d.run y.history d.way.folder before y.after laws f.targets due noted first e k;
        well = λ none fine. well_copy d.run y.history d.way.folder before y.after f.targets noted first e none k;
      }) closed (failed_published d.way.folder f.targets targets noted y.after.hands.host keeps e k) keeps

  owes_left : (left : Result Finished End) (w : Result Output End) → Left d.run y.history d.way.folder before y.after left → Copies d.way left noted y.after.hands.host w → Closes w before.sink y.after.sink y.end → Owes
  owes_left (Ok f) w comes copies closed =
      let due = owed d.run y.history f.targets f.output comes in
      owes_finished f w comes copies.0 (rest_kept laws f.targets targets due.same noted.files y.after.hands.host.files copies.1) closed
  owes_left (Err e) w refused copies closed =
      owes_refusal e refused (subst (λ (v : Result Output End). Closes v before.sink y.after.sink y.end) copies.0 closed)
      (idle_published targets noted y.after.hands.host copies.1 e refused.refusal) (untouched targets noted y.after.hands.host copies.1)

  -- without memory for the trace the call ends so
  memory_ends : (left : Result Finished End) (w : Result Output End) → left ≡ Err end.Mem → Copies d.way left noted y.after.hands.host w → Closes w before.sink y.after.sink y.end → y.end ≡ end.Mem
  memory_ends left w memory copies closed =
      let k = subst (λ (v : Result Finished End). Copies d.way v noted y.after.hands.host w) memory copies in
      let c = subst (λ (v : Result Output End). Closes v before.sink y.after.sink y.end) k.0 closed in
      by_kept (λ (x : End). x ≡ end.Mem) y.end end.Mem c.ends refl refl

  pub owes_run : (u : Upshot) (left : Result Finished End) (w : Result Output End) → noted.faults ≤ y.after.hands.host.faults → ComesTo d.run y.history u.outcome
      → IfErr u.outcome (Blames (LaneRose before y.after) (KeeperRose before y.after)) → IsTraced (is_some d.way.trace) (d.trace y.history) u
      → NotesTrace d.way.trace u before.hands.host noted left → Copies d.way left noted y.after.hands.host w → Closes w before.sink y.after.sink y.end → OwesRun d before y
  owes_run u left w later comes blamed traced notes copies closed =
      let all = owes_left left w (left_of laws d.run y.history d.way.folder before y.after d.way.trace u noted left comes blamed later notes) copies closed in
      record {
        row = all.row;
        wrote = all.wrote;
        trace = trace_stands d.way.trace (d.trace y.history) targets before y.after y.end u noted left later all.keeps traced notes (λ memory. memory_ends left w memory copies closed);
        noted = noted;
        traced = traces_alone d.way.trace u before.hands.host noted left notes;
        published = all.published;
        complete = all.complete;
      }

-- of any work, by what it came to
module _ (laws : Laws) (n : Program) (before : Objects) {D S : Type 0} (done : Rules → D → Ending → Type 0) (seen : S → Ending → Type 0) (y : CallEnd D S) where
  pub owes_work : (w : Work) (outcome : Result Output End) → Did n w before.hands done seen (with_outcome outcome y) → Closes outcome before.sink y.after.sink y.end → OwesWork n w before y
  owes_work (work.Write text) outcome did closed = tt
  owes_work (work.Refuse e) outcome did closed = tt
  owes_work (work.Run plan way) outcome did closed =
      λ b made. owes_run laws (due_of n plan way b) before y did.noted did.later.0 did.upshot did.left outcome did.later.1 (did.ran.comes b made) did.ran.blamed did.ran.traced did.notes did.copied closed

  pub carried_out : (w : Work) (outcome : Result Output End) → Did n w before.hands done seen (with_outcome outcome y) → Closes outcome before.sink y.after.sink y.end → CarriedOut n w before done seen y
  carried_out w outcome did closed = record { outcome = outcome; did = did; closed = closed; owes = owes_work w outcome did closed }
