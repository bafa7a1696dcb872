-- A run whose meaning has no fault stops by what lies outside of the script alone.
use Rattle.std.proofs.Common.{◌≡◌, ℕ, List, [], subst, sym, arith, inl, inr}
use Rattle.std.specs.Prelude.{Result, Ok, Err}
use Rattle.std.specs.List.{Contains}
use Rattle.nf_graph.specs.Faults as graph_fault
use Rattle.nf_machine.specs.declared.event.Event.{Event}
use Rattle.nf_machine.specs.declared.stop.Outside.TheVariants.{Lane, Keeper}
use Rattle.nf_machine.specs.Event.{PlainStop, fault_stop, charge_stop, outside_stop, memory_stop}
use Rattle.nf_meaning.specs.Meaning.{ScriptFault}
use Rattle.nf_ends.specs.declared.end.End.{End}
use Rattle.nf_ends.specs.declared.end.End.TheVariants as end
use Rattle.nf_ends.specs.declared.end.ItemCause.TheVariants.{Eval, Op}
use Rattle.nf_ends.specs.declared.writes.Output.{Output}
use Rattle.nf_ends.specs.declared.writes.Output.TheVariants as output
use Rattle.nf_tasks.specs.declared.target_list.Target.{Target}
use Rattle.nf_owed.specs.declared.finished.Finished.{Finished}
use Rattle.nf_owed.specs.Run.{Run}
use Rattle.nf_owed.specs.Ended.{EndedWell, EndsByStop, IsFaultless, IsFromOutside, IsMeant, NamesFault, NamesStop, meant_by}
use Rattle.nf_owed.specs.Finished.{ComesTo, GoesFaultless, OwesOutput}

contains_none : (fs : List ScriptFault) (f : ScriptFault) → fs ≡ [] → Contains fs f → ⊥
contains_none fs f none c = let none_has : Contains [] f = subst (λ (xs : List ScriptFault). Contains xs f) none c in let below = none_has.1 in omega (arith, below)

module _ (run : Run) (h : List Event) (good : IsFaultless (meant_by run h)) where
  no_fault : (f : graph_fault.GraphFault) (e : End) → NamesFault run f e → IsMeant run h e → ⊥
  no_fault (graph_fault.item_fails i x f) (end.ItemFault p (Eval item g)) named meant = contains_none (meant_by run h).faults _ good.faults meant
  no_fault (graph_fault.op_fails i f) (end.ItemFault p (Op g)) named meant = contains_none (meant_by run h).faults _ good.faults meant.2
  no_fault (graph_fault.task_fails i is m f) (end.TaskFailed process inputs n g) named meant = contains_none (meant_by run h).faults _ good.faults meant
  no_fault f e named meant = absurd named

  no_charge : (sum : ℕ) → IsMeant run h (end.Charge sum) → ⊥
  no_charge sum meant = let past = meant.0 in let part = meant.1 in let cost = good.cost in omega (arith, past, part, cost)

  by_stop : (s : PlainStop) (e : End) → NamesStop run s e → IsMeant run h e → IsFromOutside e
  by_stop (fault_stop f) e named meant = absurd (no_fault f e named meant)
  by_stop (charge_stop sum) e named meant = absurd (no_charge sum (subst (IsMeant run h) named meant))
  by_stop (outside_stop Lane) e named meant = subst IsFromOutside (sym named) tt
  by_stop (outside_stop Keeper) e named meant = subst IsFromOutside (sym named) tt
  by_stop memory_stop e named meant = subst IsFromOutside (sym named) tt

pub from_outside : (run : Run) (h : List Event) (e : End) → EndsByStop run h e → IsFaultless (meant_by run h) → IsFromOutside e
from_outside run h e stops good = by_stop run h good stops.stop e stops.named stops.meant

output_well : (run : Run) (h : List Event) (ts : List Target) (o : Output) → OwesOutput run h ts o → EndedWell run h
output_well run h ts (output.Report report line) owes = owes.0.well
output_well run h ts (output.Text t) owes = absurd owes

pub goes_faultless : (run : Run) (h : List Event) (r : Result Finished End) → ComesTo run h r → IsFaultless (meant_by run h) → GoesFaultless run h r
goes_faultless run h (Ok f) comes good = output_well run h f.targets f.output comes
goes_faultless run h (Err e) comes good = elim comes [
  | inl stops ↦ inr (from_outside run h e stops good)
  | inr other ↦ elim other [ inl clash ↦ inl clash | inr memory ↦ inr (subst IsFromOutside (sym memory) tt) ]
]
