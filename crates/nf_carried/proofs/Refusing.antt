-- A run that didn't end well ends as a refusal: before anything was written. So does one whose files weren't copied.
use Rattle.std.proofs.Common.{ℕ, List, sym, subst, inl, inr}
use Rattle.std.specs.Prelude.{Result, Ok, Err, IfErr}
use Rattle.nf_graph.specs.Faults.{GraphFault, item_fails, op_fails, task_fails}
use Rattle.nf_graph.specs.Rules.{Rules}
use Rattle.nf_machine.specs.declared.event.Event.{Event}
use Rattle.nf_machine.specs.declared.stop.Outside.TheVariants.{Lane, Keeper}
use Rattle.nf_machine.specs.Event.{PlainStop, fault_stop, charge_stop, outside_stop, memory_stop}
use Rattle.nf_tasks.specs.Memory.{Program}
use Rattle.nf_tasks.specs.declared.target_list.Target.{Target}
use Rattle.nf_core.specs.Told.{Ending}
use Rattle.nf_ends.specs.declared.end.End.{End}
use Rattle.nf_ends.specs.declared.end.End.TheVariants as end
use Rattle.nf_ends.specs.declared.end.ItemCause.TheVariants.{Eval, Op}
use Rattle.nf_ends.specs.declared.writes.Output.{Output}
use Rattle.nf_ends.specs.Writes.{IsRefusal}
use Rattle.nf_ran.specs.Run.{Run, run_of}
use Rattle.nf_ran.specs.DeclaredFinished.{Finished}
use Rattle.nf_ran.specs.Ended.{NamesFault, NamesStop}
use Rattle.nf_ran.specs.Finished.{ComesTo, EndsByClash}
use Rattle.nf_carried.specs.declared.work.Work.{Work}
use Rattle.nf_carried.specs.declared.work.Work.TheVariants as work
use Rattle.nf_carried.specs.Carried.{Did, IsDoable}
use Rattle.nf_carried.specs.Objects.{Hands, HostNow, Worked}
use Rattle.nf_carried.specs.Copying.{Copies, FailsToCopy}
use Rattle.nf_carried.specs.Tracing.{NotesText, NotesTrace, without_trace}
use Rattle.nf_carried.specs.declared.work.Way.{Way}
use Rattle.nf_ran.specs.Ran.{Upshot}
use Rattle.std.specs.declared.option.Option.{Option}
use Rattle.std.specs.declared.option.Option.TheVariants.{None, Some}

-- the ends that a stop may have
abbrev pub IsStopEnd : End → Type 0
IsStopEnd end.Ok = ⊥
IsStopEnd end.SinkFault = ⊥
IsStopEnd end.HostFault = ⊥
IsStopEnd (end.Damaged due found) = ⊥
IsStopEnd (end.PublishClash c) = ⊥
IsStopEnd _ = Unit {0}

names_fault : (run : Run) (f : GraphFault) (e : End) → NamesFault run f e → IsStopEnd e
names_fault run (item_fails i x f) (end.ItemFault p (Eval item g)) h = tt
names_fault run (op_fails i f) (end.ItemFault p (Op g)) h = tt
names_fault run (task_fails i is m f) (end.TaskFailed process inputs n g) h = tt
names_fault run f e h = absurd h

pub names_stop_end : (run : Run) (stop : PlainStop) (e : End) → NamesStop run stop e → IsStopEnd e
names_stop_end run (fault_stop f) e h = names_fault run f e h
names_stop_end run (charge_stop sum) e h = subst IsStopEnd (sym h) tt
names_stop_end run (outside_stop Lane) e h = subst IsStopEnd (sym h) tt
names_stop_end run (outside_stop Keeper) e h = subst IsStopEnd (sym h) tt
names_stop_end run memory_stop e h = subst IsStopEnd (sym h) tt

stop_refuses : (e : End) → IsStopEnd e → IsRefusal e
stop_refuses end.Ok h = absurd h
stop_refuses end.SinkFault h = absurd h
stop_refuses e h = tt

clash_refuses : (run : Run) (h : List Event) (e : End) → EndsByClash run h e → IsRefusal e
clash_refuses run h (end.PublishClash c) k = tt
clash_refuses run h e k = absurd k

pub comes_to_refusal : (run : Run) (h : List Event) (r : Result Finished End) → ComesTo run h r → IfErr r IsRefusal
comes_to_refusal run h (Ok f) c = tt
comes_to_refusal run h (Err e) c = elim c [
  | inl k ↦ stop_refuses e (names_stop_end run k.stop e k.named)
  | inr other ↦ elim other [ inl k ↦ clash_refuses run h e k | inr memory ↦ subst IsRefusal (sym memory) tt ]
]

-- ---- files that weren't copied

pub copy_refuses : (folder : List ℕ) (ts : List Target) (a b : HostNow) (e : End) → FailsToCopy folder ts a b e → IsRefusal e
copy_refuses folder ts a b end.HostFault h = tt
copy_refuses folder ts a b (end.Damaged due found) h = tt
copy_refuses folder ts a b end.Mem h = tt
copy_refuses folder ts a b e h = absurd h

copies_refuse : (way : Way) (a b : HostNow) (r : Result Finished End) (w : Result Output End) → IfErr r IsRefusal → Copies way r a b w → IfErr w IsRefusal
copies_refuse way a b (Ok f) (Ok o) refusal k = tt
copies_refuse way a b (Ok f) (Err e) refusal k = copy_refuses way.folder f.targets a b e k.0
copies_refuse way a b (Err e) w refusal k = subst (λ (v : Result Output End). IfErr v IsRefusal) (sym k.0) refusal

-- ---- a trace that wasn't written

without_refuses : (r : Result Finished End) → IfErr r IsRefusal → IfErr (without_trace r) IsRefusal
without_refuses (Ok f) h = tt
without_refuses (Err (end.PublishClash c)) h = tt
without_refuses (Err e) h = h

text_refuses : (path : List ℕ) (o : Option (List ℕ)) (r : Result Finished End) (a b : HostNow) (left : Result Finished End) → IfErr r IsRefusal → NotesText path o r a b left → IfErr left IsRefusal
text_refuses path None r a b left h k = subst (λ (v : Result Finished End). IfErr v IsRefusal) (sym k.0) h
text_refuses path (Some text) r a b left h k = elim k.0 [
  | inl there ↦ subst (λ (v : Result Finished End). IfErr v IsRefusal) (sym there.1) h
  | inr other ↦ elim other [
    | inl failed ↦ subst (λ (v : Result Finished End). IfErr v IsRefusal) (sym failed.1) (without_refuses r h)
    | inr memory ↦ subst (λ (v : Result Finished End). IfErr v IsRefusal) (sym memory) tt
  ]
]

notes_refuse : (path : Option (List ℕ)) (u : Upshot) (a b : HostNow) (left : Result Finished End) → IfErr u.outcome IsRefusal → NotesTrace path u a b left → IfErr left IsRefusal
notes_refuse None u a b left h k = subst (λ (v : Result Finished End). IfErr v IsRefusal) (sym k.0) h
notes_refuse (Some path) u a b left h k = text_refuses path u.trace u.outcome a b left h k

-- ---- of any work

module _ (n : Program) (before : Hands) {D S : Type 0} (done : Rules → D → Ending → Type 0) (seen : S → Ending → Type 0) where
  pub ends_as_refusal : (w : Work) (y : Worked D S) → IsDoable w → Did n w before done seen y → IfErr y.outcome IsRefusal
  ends_as_refusal (work.Write text) y fits d = subst (λ (r : Result Output End). IfErr r IsRefusal) (sym d.0) tt
  ends_as_refusal (work.Refuse e) y fits d = subst (λ (r : Result Output End). IfErr r IsRefusal) (sym d.0) fits
  ends_as_refusal (work.Run plan way) y fits d =
      let b = fits.0 in
      let refusal = comes_to_refusal (run_of n b) y.history d.upshot.outcome (d.ran.comes b fits.1) in
      copies_refuse way d.noted y.after.host d.left y.outcome (notes_refuse way.trace d.upshot before.host d.noted d.left refusal d.notes) d.copied
