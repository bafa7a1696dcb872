-- A run that ended well was told enough of each instance: all outcomes that agree with it decide it alike.
use Rattle.std.proofs.Common.{◌≡◌, ℕ, ◌<◌, List, [], map, length, Bool, true, false, ◌&&◌, refl, ap, sym, ◌∙◌, subst}
use Rattle.std.specs.Prelude.{Option, Some, None, is_none}
use Rattle.std.proofs.lemmas.Bool.{true≢false}
use Rattle.nf_job.specs.declared.report.Report.{Report}
use Rattle.nf_opstream.proofs.Members.{In, contains}
use Rattle.nf_graph.specs.Rules.{Outs, Rules, decided, fault_of}
use Rattle.nf_graph.specs.Node.{PlainNode, process, node_at, IsGraph}
use Rattle.nf_graph.specs.Meaning.{Instance, Outcomes, bags, decided_under, instances}
use Rattle.nf_graph.proofs.Fix.{made_by_nodes}
use Rattle.nf_graph.proofs.Singles.{has_singles}
use Rattle.nf_machine.specs.Event.{PlainEvent, PlainStop}
use Rattle.nf_machine.specs.History.{Agrees, IsHistory, IsPrefix, after, all_closed, ended_well}
use Rattle.nf_machine.specs.State.{Ended, State, instance}
use Rattle.nf_machine.proofs.Ends.{history_good}
use Rattle.nf_machine.proofs.Faultless.{closed_at}
use Rattle.nf_machine.proofs.Gives.{ended_prefix}
use Rattle.nf_machine.proofs.Good.{Good, ProcessMade}
use Rattle.nf_machine.proofs.Membership.{instance_law, same_instance}
use Rattle.nf_machine.proofs.Theorem.{all_fit, proc_ended, process_within}
use Rattle.nf_steady.proofs.Lists.{IsImage, each_in, image, in_same}
use Rattle.nf_steady.proofs.Alike.{DecideAlike}

both_true : (a b : Bool) → (a && b) ≡ true → (a ≡ true) × (b ≡ true)
both_true true b h = (refl, h)
both_true false b h = absurd (true≢false (sym h))

none_is : (o : Option PlainStop) → is_none o ≡ true → o ≡ None
none_is None h = refl
none_is (Some x) h = absurd (true≢false (sym h))

-- what a task was told by the time of a state decides it, without a fault
pub record IsSettled (R : Rules) (s : State) (i : ℕ) (z : Instance) : Type 0 where
  pub told : List Report
  pub outs : Outs
  pub by : decided (R.job i z.0 z.1) (R.outputs i z.0) 1 told ≡ Some outs
  pub fine : fault_of outs ≡ []
  pub fronts : (o : Outcomes) → Agrees o s → IsPrefix told (o i z.0 z.1)

module _ (g : List PlainNode) (R : Rules) (h : List PlainEvent) (ok : IsGraph g) (lawful : IsHistory g R h)
    (well : ended_well g (after g h) ≡ true) where
  abbrev s : State
  s = after g h

  good : Good g R s
  good = history_good g R ok h lawful

  ends : (all_closed g s ≡ true) × (is_none s.stop ≡ true)
  ends = both_true (all_closed g s) (is_none s.stop) well

  -- each instance of the meaning came back
  came : (o : Outcomes) → Agrees o s → (i : ℕ) (q : Option ℕ) (z : Instance) → (node_at g i).kind ≡ process q
      → In z (instances (bags R o g) (node_at g i) q)
      → IsImage (λ (e : Ended). instance e.take) (s.spots i).ended z
  came o agree i q z is m =
      let made : ProcessMade R i (s.spots i) = (rw is at (good.spots i).made) in
      let within : i < length g = process_within g i (rw is tt) in
      let shut = closed_at s.spots (length g) i ends.0 within in
      let means = made_by_nodes g R o ok in
      let lone = has_singles g R o ok in
      let before = λ (j : ℕ) (l : j < i). all_fit g R ok o s good agree (bags R o g) means lone j in
      image (λ (e : Ended). instance e.take) (s.spots i).ended z
      (in_same same_instance instance_law z (map (λ (e : Ended). instance e.take) (s.spots i).ended) (instances (bags R o g) (node_at g i) q)
      (proc_ended g R ok o s good agree (bags R o g) means lone i before q is made shut) m)

  pub settled : (o : Outcomes) → Agrees o s → (i : ℕ) (q : Option ℕ) (z : Instance) → (node_at g i).kind ≡ process q
      → In z (instances (bags R o g) (node_at g i) q) → IsSettled R s i z
  settled o agree i q z is m =
      let back : IsImage (λ (e : Ended). instance e.take) (s.spots i).ended z = came o agree i q z is m in
      let e : Ended = back.of in
      let made : ProcessMade R i (s.spots i) = (rw is at (good.spots i).made) in
      subst (IsSettled R s i) (sym back.is) (record {
        told = e.told;
        outs = e.outs;
        by = each_in
            (λ (x : Ended). decided (R.job i x.take.inputs x.take.n) (R.outputs i x.take.inputs) 1 x.told ≡ Some x.outs)
            (s.spots i).ended e made.decision back.there;
        fine =
            each_in (λ (x : Ended). fault_of x.outs ≡ []) (s.spots i).ended e ((good.spots i).quiet ends.1) back.there;
        fronts = λ u agrees. agrees.ended i e (contains e (s.spots i).ended back.there);
      })

  decided_so : (u : Outcomes) → Agrees u s → (i : ℕ) (z : Instance) (d : IsSettled R s i z)
      → decided_under R u i z ≡ Some d.outs
  decided_so u agree i z d =
      let front = d.fronts u agree in
      ap (decided (R.job i z.0 z.1) (R.outputs i z.0) 1) front.is
      ∙ ended_prefix (R.job i z.0 z.1) (R.outputs i z.0) 1 d.told front.rest d.outs d.by

  pub decide_alike : (o u : Outcomes) → Agrees o s → Agrees u s → DecideAlike g R o u
  decide_alike o u first second i q z is m =
      let d = settled o first i q z is m in
      decided_so o first i z d ∙ sym (decided_so u second i z d)
