-- An end that blames the lane or the keeper names the stop of a run that it failed in.
use Rattle.std.proofs.Common.{◌≡◌, List, refl, ap, sym, subst, ◌∙◌, inl, inr}
use Rattle.std.specs.Prelude.{Some, Result, Ok, Err, IfErr}
use Rattle.nf_graph.specs.Faults.{item_fails, op_fails, task_fails}
use Rattle.nf_machine.specs.declared.event.Event.{Event}
use Rattle.nf_machine.specs.declared.stop.Outside.TheVariants.{Lane, Keeper}
use Rattle.nf_machine.specs.Event.{PlainStop, fault_stop, charge_stop, outside_stop, memory_stop}
use Rattle.nf_ends.specs.declared.end.End.{End}
use Rattle.nf_ends.specs.declared.end.End.TheVariants as end
use Rattle.nf_owed.specs.declared.finished.Finished.{Finished}
use Rattle.nf_owed.specs.Run.{Run}
use Rattle.nf_owed.specs.Ended.{EndsByStop, NamesStop}
use Rattle.nf_owed.specs.Finished.{ComesTo, EndsByClash}
use Rattle.nf_ran.specs.Ran.{Blames}
use Rattle.nf_ran.proofs.Stopping.{HasStop, stopped_by}

lane_named : (run : Run) (stop : PlainStop) → NamesStop run stop end.LaneFault → stop ≡ outside_stop Lane
lane_named run (fault_stop (item_fails i x f)) h = absurd h
lane_named run (fault_stop (op_fails i f)) h = absurd h
lane_named run (fault_stop (task_fails i is m f)) h = absurd h
lane_named run (charge_stop sum) h = absurd (let d : end.LaneFault ≡ end.Charge sum = h in cc)
lane_named run (outside_stop Lane) h = refl
lane_named run (outside_stop Keeper) h = absurd (let d : end.LaneFault ≡ end.KeeperFault = h in cc)
lane_named run memory_stop h = absurd (let d : end.LaneFault ≡ end.Mem = h in cc)

keeper_named : (run : Run) (stop : PlainStop) → NamesStop run stop end.KeeperFault → stop ≡ outside_stop Keeper
keeper_named run (fault_stop (item_fails i x f)) h = absurd h
keeper_named run (fault_stop (op_fails i f)) h = absurd h
keeper_named run (fault_stop (task_fails i is m f)) h = absurd h
keeper_named run (charge_stop sum) h = absurd (let d : end.KeeperFault ≡ end.Charge sum = h in cc)
keeper_named run (outside_stop Lane) h = absurd (let d : end.KeeperFault ≡ end.LaneFault = h in cc)
keeper_named run (outside_stop Keeper) h = refl
keeper_named run memory_stop h = absurd (let d : end.KeeperFault ≡ end.Mem = h in cc)

lane_stopped : (run : Run) (h : List Event) → EndsByStop run h end.LaneFault → HasStop Lane run.graph h
lane_stopped run h k = stopped_by Lane run.graph h (k.stopped ∙ ap Some (lane_named run k.stop k.named))

keeper_stopped : (run : Run) (h : List Event) → EndsByStop run h end.KeeperFault → HasStop Keeper run.graph h
keeper_stopped run h k = stopped_by Keeper run.graph h (k.stopped ∙ ap Some (keeper_named run k.stop k.named))

module _ (run : Run) (h : List Event) (lane keeper : Type 0) (of_lane : HasStop Lane run.graph h → lane) (of_keeper : HasStop Keeper run.graph h → keeper) where
  by_end : (e : End) → EndsByStop run h e → Blames lane keeper e
  by_end end.Ok k = tt
  by_end (end.TaskFailed p i n f) k = tt
  by_end (end.ItemFault p v) k = tt
  by_end (end.PublishClash v) k = tt
  by_end (end.Charge s) k = tt
  by_end (end.Usage f) k = tt
  by_end end.NoScript k = tt
  by_end (end.NoFile p) k = tt
  by_end (end.FileTooLong p) k = tt
  by_end (end.Lex f) k = tt
  by_end (end.Parse f) k = tt
  by_end (end.Lower f) k = tt
  by_end (end.Order b) k = tt
  by_end (end.BadParams p) k = tt
  by_end end.HostFault k = tt
  by_end end.LaneFault k = of_lane (lane_stopped run h k)
  by_end end.KeeperFault k = of_keeper (keeper_stopped run h k)
  by_end end.SinkFault k = tt
  by_end (end.Damaged d f) k = tt
  by_end end.Mem k = tt

  by_clash : (e : End) → EndsByClash run h e → Blames lane keeper e
  by_clash (end.PublishClash c) k = tt
  by_clash e k = absurd k

  -- of what a run comes to, an error that blames an object
  pub outcome_blames : (r : Result Finished End) → ComesTo run h r → IfErr r (Blames lane keeper)
  outcome_blames (Ok o) c = tt
  outcome_blames (Err e) c = elim c [
    | inl k ↦ by_end e k
    | inr other ↦ elim other [ inl k ↦ by_clash e k | inr memory ↦ subst (Blames lane keeper) (sym memory) tt ]
  ]
