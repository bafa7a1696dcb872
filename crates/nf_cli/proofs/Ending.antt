-- How a call ends, from what its work came to.
use Rattle.std.proofs.Common.{◌≡◌, ◌∙◌, ◌+◌, ℕ, List, Result, Ok, refl, sym, subst, ap, inl, inr, arith}
use Rattle.std.specs.Prelude.{◌⊎◌, Bool, count_by}
use Rattle.nf_host.specs.Told.{Both}
use Rattle.nf_shell.specs.Places.{KeepsOrStores}
use Rattle.nf_sources.specs.Sources.{scratch_in}
use Rattle.nf_graph.specs.declared.node.Node.{Node}
use Rattle.nf_graph.specs.Rules.{Rules}
use Rattle.nf_machine.specs.declared.event.Event.{Event}
use Rattle.nf_machine.specs.declared.event.Event.TheVariants as e
use Rattle.nf_machine.specs.History.{outcomes_of}
use Rattle.nf_bodies.specs.declared.body.NodeInfo.{NodeInfo}
use Rattle.nf_core.specs.Told.{Ending}
use Rattle.nf_serial.specs.Serial as serial
use Rattle.nf_ends.specs.declared.end.End.{End}
use Rattle.nf_ends.specs.declared.end.End.TheVariants as end
use Rattle.nf_ends.specs.declared.writes.Output.{Output}
use Rattle.nf_ends.specs.Summary.{is_start, starts_in}
use Rattle.nf_ends.specs.Writes.{IsKept, IsWritten, OnSinkFault}
use Rattle.nf_carried.specs.Run.{by_path, run_of}
use Rattle.nf_carried.specs.Ended.{EndedWell, meant_by, state_after}
use Rattle.nf_steady.specs.Steady.{GoesOnOver, IsLeftByStop, IsOfPlan, IsRunFrom, IsSoundKeeper, OpensOver, in_world, meaning_in}
use Rattle.nf_keeper.specs.Held as held
use Rattle.nf_lane.specs.World.{World}
use Rattle.nf_tasks.specs.Memory.{Program}
use Rattle.nf_core.specs.Opening.{IsSteady, Opening}
use Rattle.nf_core.specs.Run.{IsRun, Parts}
use Rattle.nf_plan.specs.declared.builder.PlanBuilder.{PlanBuilder}
use Rattle.nf_plan.specs.Plans.{IsPlan}
use Rattle.nf_carried.specs.Ran.{begun_over, opening_of, runs_of, trace_text}
use Rattle.nf_asked.specs.Request.{Request, refused, formats, accepts, runs, Comes}
use Rattle.nf_asked.specs.Answers.{IsTextFor}
use Rattle.nf_carried.specs.declared.work.Way.{Way}
use Rattle.nf_carried.specs.declared.work.Work.{Work}
use Rattle.nf_carried.specs.declared.work.Work.TheVariants as work
use Rattle.nf_carried.specs.Objects.{CallEnd, Objects, OnWritten}
use Rattle.nf_carried.specs.Carried as carried
use Rattle.nf_carried.specs.Carried.{CarriedOut, Closes, RanAndCopied, options_of, with_outcome}
use Rattle.nf_carried.specs.Table.{Due, OwesRun, Published, Row, SinkRose, Wrote, output_of}
use Rattle.nf_cli.specs.Scripts.{Script, Sources, IsRunOf, meaning_over}
use Rattle.nf_cli.specs.Planned.{IsPlanFor}
use Rattle.nf_cli.specs.Calls.{AsksFor, Call, IsRefused, IsWorkOf, RefusesRun, StoresFor, lanes_for, script_in, way_for}
use Rattle.nf_cli.proofs.Lanes.{same_worlds, worlds_of}
use Rattle.nf_cli.specs.Main.{CallEnds, Completes, Ends, NothingFailed, Ran, RanNothing, WroteMeaning, began_for, due_for, wrote, was_refused, ran}

-- ---- how often the lanes ran, and the worlds that they tell

same_start : (v : Event) → serial.is_start v ≡ is_start v
same_start (e.Start t cause) = refl
same_start _ = refl

same_starts : (h : List Event) → count_by serial.is_start h ≡ starts_in h
same_starts h = ap (λ (p : Event → Bool). count_by p h) (λ i v. same_start v i)

-- what holds of runs over lanes that tell one world
pub record Steady {D S : Type 0} (done : Rules → D → Ending → Type 0) (seen : S → Ending → Type 0) : Type 0 where
  pub runs : (F : Opening) (n : Program) (b : PlanBuilder) (z : Parts D S) → IsRun F (done F.rules) seen z → IsOfPlan F n b → IsRunFrom F n b z.flow.history
  pub means : (w : World) (F : Opening) (n : Program) (b : PlanBuilder) (h : List Event) → OpensOver w F → IsRunFrom F n b h → EndedWell (run_of n b) h → meant_by (run_of n b) h ≡ meaning_in w n b
  pub next : (w : World) (F G : Opening) (z : Parts D S) → IsRun F (done F.rules) seen z → IsSteady w F → IsSoundKeeper w F.held → IsSteady w G → G.held ≡ z.held → OpensOver w G
  pub stopped : (w : World) (F G : Opening) (z : Parts D S) → IsRun F (done F.rules) seen z → IsSteady w F → IsSoundKeeper w F.held → IsSteady w G → held.Both z.held G.held (IsLeftByStop F) → OpensOver w G

module _ (x : Call) (failed : Type 0) (before : Objects) {D S : Type 0} (done : Rules → D → Ending → Type 0) (seen : S → Ending → Type 0) (y : CallEnd D S) where
  idle_runs : RanNothing before y → runs_of y.after.hands.lanes ≡ runs_of before.hands.lanes + starts_in y.history
  idle_runs k =
      let same : runs_of y.after.hands.lanes ≡ runs_of before.hands.lanes = ap (λ z. runs_of z.lanes) k.hands in
      let none : starts_in y.history ≡ 0 = ap starts_in k.history in
      omega (arith, same, none)

  ran_runs : Ran x before done seen y → runs_of y.after.hands.lanes ≡ runs_of before.hands.lanes + starts_in y.history
  ran_runs r =
      let same : count_by serial.is_start y.history ≡ starts_in y.history = same_starts y.history in
      let due : runs_of y.after.hands.lanes ≡ runs_of before.hands.lanes + count_by serial.is_start y.history = r.ran.ran.lanes.runs in
      omega (arith, same, due)

  pub first_ran : Ends x failed before done seen y → runs_of y.after.hands.lanes ≡ runs_of before.hands.lanes + starts_in y.history
  first_ran (wrote text w k c) = idle_runs k
  first_ran (was_refused f w k c) = idle_runs k
  first_ran (ran r) = ran_runs r

  pub first_told : Ends x failed before done seen y → worlds_of y.after.hands.lanes ≡ worlds_of before.hands.lanes
  first_told (wrote text w k c) = ap (λ z. worlds_of z.lanes) k.hands
  first_told (was_refused f w k c) = ap (λ z. worlds_of z.lanes) k.hands
  first_told (ran r) = same_worlds before.hands.lanes y.after.hands.lanes r.ran.ran.lanes.later

  -- ---- how it ends

  nothing : (outcome : Result Output End) → carried.RanNothing before.hands (with_outcome outcome y) → RanNothing before y
  nothing outcome k = record {
    history = k.history;
    dones = k.dones;
    seens = k.seens;
    hands = k.after;
  }

  headline : (s : Script) {told : _} (sources : Sources s told) (d : Due) → IsRunOf s sources d.run → OwesRun d before y → WroteMeaning s sources d before y
  headline s sources d means owes = record {
    meaning = meant_by d.run y.history;
    is = means (by_path d.run (outcomes_of (state_after d.run y.history)));
    wrote = λ ok. subst (λ (f : End). OnWritten before.sink y.after.sink (Wrote (output_of d y.history) (SinkRose before y.after) f)) ok owes.wrote;
    noted = owes.noted;
    traced = owes.traced;
    copied = λ ok. subst (Published (meant_by d.run y.history).targets owes.noted y.after.hands.host) ok owes.published;
  }

  -- what the script means in the world that all lanes tell
  in_steady : (laws : Steady done seen) (s : Script) {told : _} (sources : Sources s told) (b : PlanBuilder) (way : Way) (outcome : Result Output End) → IsPlan b → IsRunOf s sources (run_of x.program b)
      → RanAndCopied (began_for x b way before) way before.hands.host done seen (with_outcome outcome y) → OwesRun (due_for x b way) before y
      → (w : World) → OpensOver w (opening_of (began_for x b way before)) → y.end ≡ end.Ok → meaning_over s sources (in_world w x.program b) ≡ Ok (meant_by (run_of x.program b) y.history)
  in_steady laws s sources b way outcome plan means went owes w over ok =
      let F = opening_of (began_for x b way before) in
      let of_plan : IsOfPlan F x.program b = record { is_plan = plan; graph_is = refl; rules_are = refl } in
      let run = laws.runs F x.program b _ went.ran.run of_plan in
      let well : EndedWell (run_of x.program b) y.history = subst (Row (run_of x.program b) y.history way.folder before y.after) ok owes.row in
      means (in_world w x.program b) ∙ ap Ok (sym (laws.means w F x.program b y.history over run well))

  -- what the next run opens over
  goes_on : (laws : Steady done seen) (b : PlanBuilder) (way : Way) (outcome : Result Output End)
      → RanAndCopied (began_for x b way before) way before.hands.host done seen (with_outcome outcome y)
      → (w : World) → IsSteady w (opening_of (began_for x b way before)) → IsSoundKeeper w before.hands.keeper.held
      → GoesOnOver w (opening_of (began_for x b way before)) y.after.hands.keeper.held
  goes_on laws b way outcome went w lanes sound =
      let F = opening_of (began_for x b way before) in
      record {
        ended = λ G steady same. laws.next w F G _ went.ran.run lanes sound steady same;
        stopped = λ G steady left. laws.stopped w F G _ went.ran.run lanes sound steady left;
      }

  ran_script : (laws : Steady done seen) (plan : _) (way : Way) (asks : AsksFor x) (it : IsPlanFor (script_in x asks) x.files plan) → way ≡ way_for asks.command
      → x.queue ≡ lanes_for asks.command → StoresFor (work.Run plan way) x.files before.hands.host.files → CarriedOut x.program (work.Run plan way) before done seen y → Ran x before done seen y
  unfolding headline
  ran_script laws plan way asks it same lanes stored k =
      let P : List Node → List NodeInfo → Way → Type 0 =
      λ graph infos how. RanAndCopied (begun_over x.program graph infos (options_of how) before.hands.keeper before.hands.lanes) how before.hands.host done seen (with_outcome k.outcome y) in
      let Q : List Node → List NodeInfo → Way → Type 0 =
      λ graph infos how. OwesRun (record { run = run_of x.program it.made; way = how; trace = λ h. trace_text x.program graph infos h }) before y in
      let owes : Q it.made.nodes.items it.made.infos.items (way_for asks.command) =
      subst (Q it.made.nodes.items it.made.infos.items) same
      (subst (λ (infos : List NodeInfo). Q it.made.nodes.items infos way) it.is_made.infos_are
      (subst (λ (graph : List Node). Q graph plan.infos.items way) it.is_made.graph_is (k.owes it.made it.is_made))) in
      let went : P it.made.nodes.items it.made.infos.items (way_for asks.command) =
      subst (P it.made.nodes.items it.made.infos.items) same
      (subst (λ (infos : List NodeInfo). P it.made.nodes.items infos way) it.is_made.infos_are
      (subst (λ (graph : List Node). P graph plan.infos.items way) it.is_made.graph_is k.did)) in
      record {
        asks = asks;
        workers = lanes;
        sources = it.sources;
        plan = it.made;
        is_plan = it.is_made.is_plan;
        means = it.means;
        stored = subst (λ (how : Way). Both x.files before.hands.host.files (KeepsOrStores how.folder (scratch_in how.folder))) same stored;
        outcome = k.outcome;
        ran = went;
        closed = k.closed;
        owes = owes;
        headline = headline (script_in x asks) it.sources (due_for x it.made (way_for asks.command)) it.means owes;
        steady = in_steady laws (script_in x asks) it.sources it.made (way_for asks.command) k.outcome it.is_made.is_plan it.means went owes;
        next = goes_on laws it.made (way_for asks.command) k.outcome went;
      }

  pub ends_of : (laws : Steady done seen) (w : Work) → IsWorkOf x failed w → StoresFor w x.files before.hands.host.files → CarriedOut x.program w before done seen y → Ends x failed before done seen y
  ends_of laws (work.Write text) h stored k =
      wrote text h (nothing k.outcome k.did.1) (subst (λ (r : Result Output End). Closes r before.sink y.after.sink y.end) k.did.0 k.closed)
  ends_of laws (work.Refuse f) h stored k =
      was_refused f h (nothing k.outcome k.did.1) (subst (λ (r : Result Output End). Closes r before.sink y.after.sink y.end) k.did.0 k.closed)
  ends_of laws (work.Run plan way) h stored k = ran (ran_script laws plan way h.0 h.1 h.2 h.3 stored k)

  -- ---- no call is refused without need

  written_well : (f : End) → IsWritten f → OnSinkFault f (SinkRose before y.after) → (SinkRose before y.after → ⊥) → (f ≡ end.Ok) ⊎ (f ≡ end.Mem)
  written_well end.Ok w blamed none = inl refl
  written_well end.SinkFault w blamed none = absurd (none blamed)
  written_well f w blamed none = absurd w

  text_completes : (text : List ℕ) (q : Request) → IsTextFor text q → ((y.end ≡ end.Ok) ⊎ (y.end ≡ end.Mem)) → Completes x before done seen y q
  text_completes text (formats t) is well = well
  text_completes text accepts is well = well
  text_completes text (refused f) is well = absurd is
  text_completes text (runs c t ps) is well = absurd is

  -- without memory any command line may end so
  memory_completes : (q : Request) → y.end ≡ end.Mem → Completes x before done seen y q
  memory_completes (formats t) m = inr m
  memory_completes accepts m = inr m
  memory_completes (refused f) m = inr m
  memory_completes (runs c t ps) m = inr (inr m)

  -- the end of a refusal stays, or memory ran out
  is_kept : (f g : End) → IsKept f g → (g ≡ f) ⊎ (g ≡ end.Mem)
  is_kept f end.Mem k = inr refl
  is_kept f g k = inl k

  refusal_completes : (f : End) → IsRefused x failed f → (failed → ⊥) → (y.end ≡ f) → (q : Request) → Comes x.line q → Completes x before done seen y q
  refusal_completes end.HostFault r none is q comes = absurd (none r)
  refusal_completes end.Mem r none is q comes = memory_completes q is
  refusal_completes f (inl only) none is q comes = subst (Completes x before done seen y) (sym (only.only q comes)) (inl is)
  refusal_completes f (inr run) none is q comes =
      subst (Completes x before done seen y) (sym (run.asks.only.only q comes)) (inl (subst (RefusesRun x) (sym is) run))

  kept_completes : (f : End) → IsRefused x failed f → (failed → ⊥) → ((y.end ≡ f) ⊎ (y.end ≡ end.Mem)) → (q : Request) → Comes x.line q → Completes x before done seen y q
  kept_completes f r none (inl is) q comes = refusal_completes f r none is q comes
  kept_completes f r none (inr m) q comes = memory_completes q m

  completes : Ends x failed before done seen y → NothingFailed failed before y.after → (q : Request) → Comes x.line q → Completes x before done seen y q
  completes (wrote text w k c) none q comes =
      subst (Completes x before done seen y) (sym (w.is.only q comes)) (text_completes text w.request w.text_is (written_well y.end c.ends c.blamed none.others.sink))
  completes (was_refused f r k c) none q comes = kept_completes f r none.host (is_kept f y.end c.ends) q comes
  completes (ran r) none q comes = subst (Completes x before done seen y) (sym (r.asks.only.only q comes)) (inr (inl r))

  pub call_ends : (laws : Steady done seen) (w : Work) → IsWorkOf x failed w → StoresFor w x.files before.hands.host.files → CarriedOut x.program w before done seen y → CallEnds x failed before done seen y
  call_ends laws w h stored k = record { ends = ends_of laws w h stored k; complete = completes (ends_of laws w h stored k) }
