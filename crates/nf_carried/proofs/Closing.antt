-- What was done without a lane, and with the first of the lanes.
use Rattle.std.proofs.Common.{◌≡◌, List, sym, subst}
use Rattle.std.specs.Prelude.{Ok, Err}
use Rattle.nf_graph.specs.Rules.{Rules}
use Rattle.nf_tasks.specs.Memory.{Program}
use Rattle.nf_core.specs.Told.{Ending}
use Rattle.nf_ends.specs.declared.end.End.{End}
use Rattle.nf_ends.specs.declared.writes.Output.TheVariants.{Text}
use Rattle.nf_ran.specs.Serial.{LaneNow}
use Rattle.nf_ran.specs.Ran.{Began, Came, RanPlan}
use Rattle.nf_carried.specs.declared.work.Work.{Work}
use Rattle.nf_carried.specs.declared.work.Work.TheVariants as work
use Rattle.nf_carried.specs.Carried.{Did, RanNothing}
use Rattle.nf_carried.specs.Objects.{Hands, Worked}

module _ (n : Program) (w : Work) {D S : Type 0} (done : Rules → D → Ending → Type 0) (seen : S → Ending → Type 0) where
  pub did_write : (before : Hands) (text : _) (y : Worked D S) → w ≡ work.Write text → y.outcome ≡ Ok (Text text) → RanNothing before y → Did n w before done seen y
  did_write before text y is outcome nothing = subst (λ (v : Work). Did n v before done seen y) (sym is) (outcome, nothing)

  pub did_refuse : (before : Hands) (e : End) (y : Worked D S) → w ≡ work.Refuse e → y.outcome ≡ Err e → RanNothing before y → Did n w before done seen y
  did_refuse before e y is outcome nothing = subst (λ (v : Work). Did n v before done seen y) (sym is) (outcome, nothing)

module _ {D S : Type 0} (done : Rules → D → Ending → Type 0) (seen : S → Ending → Type 0) where
  -- a run on these lanes, under other names for what they were before and after
  pub ran_first : (before : List LaneNow → Began) (after : List LaneNow → Came D S) (a b c d : List LaneNow) → a ≡ b → c ≡ d → RanPlan (before a) done seen (after c) → RanPlan (before b) done seen (after d)
  ran_first before after a b c d same same_after h =
      subst (λ (ls : List LaneNow). RanPlan (before b) done seen (after ls)) same_after (subst (λ (ls : List LaneNow). RanPlan (before ls) done seen (after c)) same h)
