-- A run without an event.
use Rattle.std.proofs.Common.{◌≡◌, ℕ, List, [], refl, sym, subst, arith, inr}
use Rattle.std.specs.Prelude.{Bool, false, true, Option, Some, None, Result, Err}
use Rattle.nf_graph.specs.Rules.{Rules, IsRules}
use Rattle.nf_machine.specs.declared.event.Event.{Event}
use Rattle.nf_stored.specs.Attempts.{TellsApart}
use Rattle.nf_keeper.specs.Held.{Held, Both}
use Rattle.nf_core.specs.Told.{Ending}
use Rattle.nf_core.specs.Records.{Agrees}
use Rattle.nf_ends.specs.declared.end.End.{End}
use Rattle.nf_ends.specs.declared.end.End.TheVariants as end
use Rattle.nf_owed.specs.declared.finished.Finished.{Finished}
use Rattle.nf_pool.specs.Serial.{LaneNow}
use Rattle.nf_core.specs.Run.{IsRun}
use Rattle.nf_core.proofs.Promised.{promises}
use Rattle.nf_core.proofs.Keeping.{keeps}
use Rattle.nf_ran.specs.Ran.{Began, Came, IsTraced, KeeperNow, RanPlan, came_to, opening_of, parts_of, rules_for, upshot}
use Rattle.nf_ran.proofs.Lanes.{none_ran}

same_held : (held : Option Held) → Both held held (λ m n. Agrees m [] n)
same_held None = tt
same_held (Some m) = λ q. refl

none_traced : (traced : Bool) (text : List ℕ) → IsTraced traced text (upshot (Err end.Mem) None)
none_traced false text = refl
none_traced true text = inr refl

module _ (x : Began) {D S : Type 0} (done : Rules → D → Ending → Type 0) (seen : S → Ending → Type 0) where
  abbrev came : Came D S
  came = came_to [] [] [] (upshot (Err end.Mem) None) x.keeper x.lanes

  begun_run : IsRules (rules_for x) → TellsApart (rules_for x) → IsRun (opening_of x) (done (rules_for x)) seen (parts_of x came)
  begun_run are apart = record {
    graph = refl;
    resumed = refl;
    rules = are;
    apart = apart;
    lawful = tt;
    finished = tt;
    reused = tt;
    warranted = tt;
    records = same_held x.keeper.held;
    sound = λ w steady sound. sound;
    later = omega arith;
    blamed = λ t there. absurd (let below = there.1 in omega arith);
  }

  at_once : IsRules (rules_for x) → TellsApart (rules_for x) → RanPlan x done seen came
  at_once are apart = record {
    lanes = none_ran x.lanes;
    run = begun_run are apart;
    promises = promises (begun_run are apart);
    keeps = keeps (begun_run are apart);
    comes = λ b made. inr (inr refl);
    traced = none_traced x.options.traced _;
    blamed = tt;
  }

  pub ran_nothing : (h : List Event) (dones : List D) (seens : List S) (outcome : Result Finished End) (trace : Option (List ℕ)) (keeper : KeeperNow) (lanes : List LaneNow) → h ≡ [] → dones ≡ [] → seens ≡ [] → outcome ≡ Err end.Mem
      → trace ≡ None → keeper ≡ x.keeper → lanes ≡ x.lanes → IsRules (rules_for x) → TellsApart (rules_for x) → RanPlan x done seen (came_to h dones seens (upshot outcome trace) keeper lanes)
  ran_nothing h dones seens outcome trace keeper lanes none no_dones no_seens mem no_trace same same_lanes are apart =
      let a = subst (λ (k : List Event). RanPlan x done seen (came_to k [] [] (upshot (Err end.Mem) None) x.keeper x.lanes)) (sym none) (at_once are apart) in
      let b = subst (λ (ds : List D). RanPlan x done seen (came_to h ds [] (upshot (Err end.Mem) None) x.keeper x.lanes)) (sym no_dones) a in
      let d = subst (λ (ss : List S). RanPlan x done seen (came_to h dones ss (upshot (Err end.Mem) None) x.keeper x.lanes)) (sym no_seens) b in
      let f = subst (λ (r : Result Finished End). RanPlan x done seen (came_to h dones seens (upshot r None) x.keeper x.lanes)) (sym mem) d in
      let t = subst (λ (v : Option (List ℕ)). RanPlan x done seen (came_to h dones seens (upshot outcome v) x.keeper x.lanes)) (sym no_trace) f in
      let k = subst (λ (v : KeeperNow). RanPlan x done seen (came_to h dones seens (upshot outcome trace) v x.lanes)) (sym same) t in
      subst (λ (ls : List LaneNow). RanPlan x done seen (came_to h dones seens (upshot outcome trace) keeper ls)) (sym same_lanes) k
