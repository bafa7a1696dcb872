-- What the lanes of a run did, from what is told of each.
use Rattle.std.proofs.Common.{◌≡◌, ℕ, zero, suc, ◌+◌, ◌<◌, List, [], ◌∷◌, map, length, refl, ap, sym, subst, ◌∙◌, arith, slice_index_or}
use Rattle.std.specs.Prelude.{Option, Some, sum_by, count_by}
use Rattle.std.specs.List.{Contains}
use Rattle.nf_lane.specs.Store.{Store}
use Rattle.nf_lane.specs.World.{World}
use Rattle.nf_machine.specs.declared.event.Event.{Event}
use Rattle.nf_machine.specs.declared.event.Event.TheVariants as e
use Rattle.nf_machine.specs.declared.stop.Stop.TheVariants as s
use Rattle.nf_machine.specs.declared.stop.Outside.TheVariants.{Lane}
use Rattle.nf_opstream.proofs.Tally.{count_is_passes, passes, sum_is_tally, tally-map}
use Rattle.nf_flow.specs.Seen.{Seen}
use Rattle.nf_pool.specs.Serial.{LaneNow, is_start}
use Rattle.nf_pool.proofs.Serving.{later_still}
use Rattle.nf_pool.specs.Locked.{failures_of, is_failure, starts_of}
use Rattle.nf_pool.specs.Pool.{AnyRose, AreLater, lanes_now, told}
use Rattle.nf_ran.specs.Ran.{LanesRan, runs_of, told_by}

-- a history with a lane's failure has one more than none
counted : (h : List Event) (t k : ℕ) → k < length h → slice_index_or h k (e.Abort t (Some (s.Outside Lane))) ≡ e.Abort t (Some (s.Outside Lane)) → 0 < passes is_failure h
counted [] t k less is = absurd (omega (arith, less))
counted (x ∷ xs) t zero less is = let one = ap (λ (y : Event). passes is_failure (y ∷ xs)) is in omega (arith, one)
counted (x ∷ xs) t (suc k) less is = let some = counted xs t k (omega (arith, less)) is in omega (arith, some)

pub some_failed : (h : List Event) (t : ℕ) → Contains h (e.Abort t (Some (s.Outside Lane))) → 0 < count_by is_failure h
some_failed h t there = let some = counted h t there.0 there.1 there.2 in let same = count_is_passes is_failure h in omega (arith, some, same)

module _ {X : Type 0} (runs faults : X → ℕ) (world : X → Option World) (store : X → Option Store) where
  sum_told : (ls : List X) → runs_of (lanes_now runs faults world store ls) ≡ sum_by runs ls
  sum_told ls =
      let a = sum_is_tally (λ (l : LaneNow). l.runs) (lanes_now runs faults world store ls) in
      let b = tally-map (λ (l : LaneNow). l.runs) (λ (l : X). record { runs = runs l; faults = faults l; world = world l; store = store l }) ls in
      let c = sum_is_tally runs ls in
      a ∙ b ∙ sym c

  faults_told : (ls : List X) → map faults ls ≡ map (λ (l : LaneNow). l.faults) (lanes_now runs faults world store ls)
  faults_told [] = refl
  faults_told (l ∷ ls) = ap (λ ns. faults l ∷ ns) (faults_told ls)

  -- what lanes tell, lane by lane
  pub lanes_told : (ls : List X) → map (λ l. told (world l) (store l)) ls ≡ told_by (lanes_now runs faults world store ls)
  lanes_told [] = refl
  lanes_told (l ∷ ls) = ap (λ ts. told (world l) (store l) ∷ ts) (lanes_told ls)

  -- from what a run on several lanes says of them
  pub lanes_ran : (xs ys : List X) (z : Seen) (h : List Event) → h ≡ z.history → sum_by runs ys ≡ sum_by runs xs + starts_of z
      → (0 < failures_of z → AnyRose (map faults xs) (map faults ys)) → AreLater (lanes_now runs faults world store xs) (lanes_now runs faults world store ys)
      → LanesRan h (lanes_now runs faults world store xs) (lanes_now runs faults world store ys)
  lanes_ran xs ys z h is ran rose later = record {
    runs = sum_told ys ∙ ran ∙ ap (λ n. n + starts_of z) (sym (sum_told xs)) ∙ ap (λ (k : List Event). runs_of (lanes_now runs faults world store xs) + count_by is_start k) (sym is);
    later = later;
    blamed = λ t there.
        let some : 0 < failures_of z = subst (λ (k : List Event). 0 < count_by is_failure k) is (some_failed h t there) in
        rw (← faults_told xs, ← faults_told ys) (rose some);
  }

-- lanes that did nothing
still_lanes : (ls : List LaneNow) → AreLater ls ls
still_lanes [] = tt
still_lanes (l ∷ ls) = (later_still l, still_lanes ls)

pub none_ran : (ls : List LaneNow) → LanesRan [] ls ls
none_ran ls = record { runs = omega arith; later = still_lanes ls; blamed = λ t there. absurd (let below = there.1 in omega (arith, below)) }
