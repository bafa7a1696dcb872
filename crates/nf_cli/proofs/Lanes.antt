-- All lanes of a call, of which the first alone worked.
use Rattle.std.proofs.Common.{◌≡◌, ◌+◌, ℕ, List, [], ◌∷◌, ◌++◌, drop, map, take, refl, sym, ap, ◌∙◌, arith}
use Rattle.std.specs.declared.option.Option.{Option}
use Rattle.std.specs.List.{sum_by}
use Rattle.std.proofs.lemmas.List.{map-append, take-append-drop}
use Rattle.std.proofs.lemmas.List.Sums.{sum_by-append, sum_by-cons}
use Rattle.nf_lane.specs.World.{World}
use Rattle.nf_lane.specs.Store.{Store}
use Rattle.nf_serial.specs.Serial.{LaneNow, lane_now}
use Rattle.nf_carried.specs.Pool.{AreLater, lanes_now}
use Rattle.nf_carried.specs.Ran.{runs_of}

-- the worlds that they tell
abbrev pub worlds_of : List LaneNow → List (Option World)
worlds_of lanes = map (λ l. l.world) lanes

pub same_worlds : (xs ys : List LaneNow) → AreLater xs ys → worlds_of ys ≡ worlds_of xs
same_worlds [] [] h = refl
same_worlds (x ∷ xs) (y ∷ ys) h = λ i. h.0.world i ∷ same_worlds xs ys h.1 i
same_worlds [] (y ∷ ys) h = absurd h
same_worlds (x ∷ xs) [] h = absurd h

module _ {L : Type 0} (runs faults : L → ℕ) (world : L → Option World) (store : L → Option Store) where
  all_runs : (ls : List L) → runs_of (lanes_now runs faults world store ls) ≡ sum_by runs ls
  all_runs [] = refl
  all_runs (l ∷ ls) =
      let a : runs_of (lanes_now runs faults world store (l ∷ ls)) ≡ runs l + runs_of (lanes_now runs faults world store ls) =
      sum_by-cons (λ z. z.runs) (lane_now (runs l) (faults l) (world l) (store l)) (lanes_now runs faults world store ls) in
      let b = sum_by-cons runs l ls in
      let c = all_runs ls in
      omega (arith, a, b, c)

  all_worlds : (ls : List L) → worlds_of (lanes_now runs faults world store ls) ≡ map world ls
  all_worlds [] = refl
  all_worlds (l ∷ ls) = λ i. world l ∷ all_worlds ls i

  parts : (q : ℕ) (ls : List L) → sum_by runs ls ≡ sum_by runs (take q ls) + sum_by runs (drop q ls)
  parts q ls = ap (sum_by runs) (sym (take-append-drop q ls)) ∙ sum_by-append runs (take q ls) (drop q ls)

  pub all_ran : (q : ℕ) (ls rs : List L) (n : ℕ) → drop q rs ≡ drop q ls
      → runs_of (lanes_now runs faults world store (take q rs)) ≡ runs_of (lanes_now runs faults world store (take q ls)) + n
      → sum_by runs rs ≡ sum_by runs ls + n
  all_ran q ls rs n same ran =
      let a = parts q ls in
      let b = parts q rs in
      let c : sum_by runs (drop q rs) ≡ sum_by runs (drop q ls) = ap (sum_by runs) same in
      let d = all_runs (take q ls) in
      let e = all_runs (take q rs) in
      omega (arith, ran, a, b, c, d, e)

  pub all_told : (q : ℕ) (ls rs : List L) → drop q rs ≡ drop q ls
      → worlds_of (lanes_now runs faults world store (take q rs)) ≡ worlds_of (lanes_now runs faults world store (take q ls))
      → map world rs ≡ map world ls
  all_told q ls rs same told =
      let first : map world (take q rs) ≡ map world (take q ls) = sym (all_worlds (take q rs)) ∙ told ∙ all_worlds (take q ls) in
      ap (map world) (sym (take-append-drop q rs)) ∙ map-append world (take q rs) (drop q rs)
      ∙ (λ i. first i ++ map world (same i))
      ∙ sym (map-append world (take q ls) (drop q ls)) ∙ ap (map world) (take-append-drop q ls)
