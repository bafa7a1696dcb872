-- What is known of all lanes when their workers have ended, and after the rest of the run on the first of them.
use Rattle.std.proofs.Common.{◌≡◌, ℕ, ◌+◌, ◌<◌, ◌^◌, List, [], ◌∷◌, ◌++◌, Bool, true, false, cond, nat_lt, refl, ap, sym, subst, arith, inl, inr, length, map, set, get_or, suc}
use Rattle.std.specs.Prelude.{Option, Some, None, slice_get, count_by, All}
use Rattle.std.specs.List.{AllByRecursion, Contains, sum_by}
use Rattle.std.proofs.lemmas.List.{map-append}
use Rattle.std.proofs.lemmas.List.Sums.{sum_by-append, sum_by-set}
use Rattle.std.proofs.lemmas.List.Elements.{Contains-append_left, Contains-append_right}
use Rattle.std.proofs.lemmas.Bool.Decides.{nat_tests}
use Rattle.nf_opstream.proofs.Tally.{count_is_passes, one_if, passes}
use Rattle.nf_lane.specs.Store.{Store}
use Rattle.nf_lane.specs.World.{World}
use Rattle.nf_machine.specs.declared.event.Event.{Event}
use Rattle.nf_machine.specs.declared.event.Event.TheVariants as e
use Rattle.nf_machine.specs.declared.stop.Stop.TheVariants as s
use Rattle.nf_machine.specs.declared.stop.Outside.TheVariants.{Lane, Keeper}
use Rattle.nf_flow.specs.Seen.{Seen}
use Rattle.nf_core.specs.Opening.{IsLane, LaneTold, Opening}
use Rattle.nf_serial.specs.Serial.{Goes, LaneNow, Later, is_start}
use Rattle.nf_locked.specs.Locked.{failures_of, is_failure, starts_of}
use Rattle.nf_pool.specs.Pool.{AnyRose, AreLater, HasWorked, HaveWorked, WorksOn, lanes_now, told, worker_now}
use Rattle.nf_serial.proofs.Serving.{later_still, later_then}

-- ---- the lanes of the workers

pub none_worked : (xs : List LaneNow) → HaveWorked xs xs
none_worked [] = tt
none_worked (x ∷ xs) = (record { later = later_still x; few = omega arith }, none_worked xs)

-- no lane is left
pub none_left_worked : {X : Type 0} (now : X → LaneNow) (xs ys : List X) → xs ≡ [] → ys ≡ [] → HaveWorked (map now xs) (map now ys)
none_left_worked now xs ys before after = rw (before, after) tt

-- a lane at the end of its worker
pub worked_so : (a b : LaneNow) (owed lost : ℕ) → WorksOn (worker_now a 0 0) (worker_now b owed lost) → HasWorked a b
worked_so a b owed lost w = record { later = w.lane; few = (let r = w.runs in let f = w.few in omega (arith, r, f)) }

worked_more : (xs ys : List LaneNow) (x y : LaneNow) → HaveWorked xs ys → HasWorked x y → HaveWorked (xs ++ x ∷ []) (ys ++ y ∷ [])
worked_more [] [] x y h w = (w, tt)
worked_more [] (v ∷ ys) x y h w = absurd h
worked_more (u ∷ xs) [] x y h w = absurd h
worked_more (u ∷ xs) (v ∷ ys) x y h w = (h.0, worked_more xs ys x y h.1 w)

-- a lane more, at the end
pub lane_worked : {X : Type 0} (now : X → LaneNow) (olds news rest rest' : List X) (x x' : X) → olds ≡ rest ++ x ∷ [] → news ≡ rest' ++ x' ∷ [] → HaveWorked (map now rest) (map now rest') → HasWorked (now x) (now x')
    → HaveWorked (map now olds) (map now news)
lane_worked now olds news rest rest' x x' old new h w =
    rw (old, new, map-append now rest (x ∷ []), map-append now rest' (x' ∷ [])) (worked_more (map now rest) (map now rest') (now x) (now x') h w)

-- each lane is one of the opening's still
lanes_from : {X : Type 0} (F : Opening) (world : X → Option World) (store : X → Option Store) (runs faults : X → ℕ) (n : ℕ) (xs ys : List X)
    → ((k : ℕ) (at : LaneTold) → slice_get (map (λ l. told (world l) (store l)) xs) k ≡ Some at → slice_get F.lanes (n + k) ≡ Some at)
    → HaveWorked (lanes_now runs faults world store xs) (lanes_now runs faults world store ys) → AllByRecursion (λ l. IsLane F (world l) (store l)) ys
lanes_from F world store runs faults n [] [] there h = tt
lanes_from F world store runs faults n [] (y ∷ ys) there h = absurd h
lanes_from F world store runs faults n (x ∷ xs) [] there h = tt
lanes_from F world store runs faults n (x ∷ xs) (y ∷ ys) there h = (
  record {
    place = n + 0;
    lane = told (world x) (store x);
    there = there 0 (told (world x) (store x)) refl;
    same = h.0.later.world;
    grows = h.0.later.store;
  },
  lanes_from F world store runs faults (n + 1) xs ys
      (λ k at is. (let e : n + 1 + k ≡ n + suc k = omega arith in subst (λ m. slice_get F.lanes m ≡ Some at) (sym e) (there (suc k) at is))) h.1,
)

pub still_lanes : {X : Type 0} (F : Opening) (world : X → Option World) (store : X → Option Store) (runs faults : X → ℕ) (xs ys : List X) → map (λ l. told (world l) (store l)) xs ≡ F.lanes
    → HaveWorked (lanes_now runs faults world store xs) (lanes_now runs faults world store ys) → AllByRecursion (λ l. IsLane F (world l) (store l)) ys
still_lanes F world store runs faults xs ys same h =
    lanes_from F world store runs faults 0 xs ys (λ k at is. (let e : 0 + k ≡ k = omega arith in subst (λ (m : ℕ). slice_get F.lanes m ≡ Some at) (sym e) (subst (λ (ls : List LaneTold). slice_get ls k ≡ Some at) same is))) h

-- ---- the first lane goes on

-- a stop by a lane is an Abort with it
failing : (x : Event) → is_failure x ≡ true → (t : ℕ) × (x ≡ e.Abort t (Some (s.Outside Lane)))
failing (e.Abort t None) h = absurd (cc)
failing (e.Abort t (Some (s.Outside Lane))) h = (t, refl)
failing (e.Abort t (Some (s.Outside Keeper))) h = absurd (cc)
failing (e.Abort t (Some s.Mem)) h = absurd (cc)
failing (e.Abort t (Some (s.Charge sum))) h = absurd (cc)
failing (e.Abort t (Some (s.Op node fault))) h = absurd (cc)
failing (e.Abort t (Some (s.Item node item fault))) h = absurd (cc)
failing (e.Abort t (Some (s.Task node inputs n fault))) h = absurd (cc)
failing (e.Pass port) h = absurd (cc)
failing (e.Take node port place t n) h = absurd (cc)
failing (e.Give t answer) h = absurd (cc)
failing (e.Start t cause) h = absurd (cc)
failing (e.Finish t report outs) h = absurd (cc)
failing (e.Reuse t report outs) h = absurd (cc)
failing (e.Close node) h = absurd (cc)
failing e.Halt h = absurd (cc)

a_failure : (xs : List Event) → 0 < passes is_failure xs → (t : ℕ) × Contains xs (e.Abort t (Some (s.Outside Lane)))
a_failure [] h = absurd (omega (arith, h))
a_failure (x ∷ xs) h = by_test (a_failure xs) (is_failure x) refl where
  by_test : (0 < passes is_failure xs → (t : ℕ) × Contains xs (e.Abort t (Some (s.Outside Lane)))) → (b : Bool) → is_failure x ≡ b → (t : ℕ) × Contains (x ∷ xs) (e.Abort t (Some (s.Outside Lane)))
  by_test later true f = let at = failing x f in (at.0, Contains-append_left (x ∷ []) xs (e.Abort at.0 (Some (s.Outside Lane))) (subst (λ w. Contains (x ∷ []) w) at.1 (0, omega arith, refl)))
  by_test later false f =
      let o : one_if (is_failure x) ≡ 0 = ap one_if f in
      let at = later (omega (arith, h, o)) in
      (at.0, Contains-append_right (x ∷ []) xs (e.Abort at.0 (Some (s.Outside Lane))) at.1)

pub ended_runs : {X : Type 0} (runs : X → ℕ) (xs ys : List X) (d y : X) (z f : Seen) (a b : LaneNow) → 0 < length ys → d ≡ get_or ys 0 d → a.runs ≡ runs d → b.runs ≡ runs y → Goes z f a b
    → sum_by runs ys ≡ sum_by runs xs + starts_of z → sum_by runs (set ys 0 y) ≡ sum_by runs xs + starts_of f
ended_runs runs xs ys d y z f a b some is old new goes sum =
    let p = sum_by-set runs ys 0 y d some in
    let q = ap runs is in
    let h = ap (count_by is_start) goes.history in
    let n = sum_by-append (λ w. cond (is_start w) 1 0) z.history goes.events in
    let r = goes.runs in
    omega (arith, p, q, h, n, r, old, new, sum)

pub ended_rose : {X : Type 0} (runs faults : X → ℕ) (world : X → Option World) (store : X → Option Store) (xs ys : List X) (d y : X) (z f : Seen) (a b : LaneNow)
    → HaveWorked (lanes_now runs faults world store xs) (lanes_now runs faults world store ys) → 0 < length ys → d ≡ get_or ys 0 d → a.faults ≡ faults d → b.faults ≡ faults y → Goes z f a b
    → (0 < failures_of z → AnyRose (map faults xs) (map faults ys)) → 0 < failures_of f → AnyRose (map faults xs) (map faults (set ys 0 y))
ended_rose runs faults world store [] [] d y z f a b h some is old new goes before now = absurd (omega (arith, some))
ended_rose runs faults world store [] (v ∷ ys) d y z f a b h some is old new goes before now = absurd h
ended_rose runs faults world store (x ∷ xs) [] d y z f a b h some is old new goes before now = absurd h
ended_rose runs faults world store (x ∷ xs) (v ∷ ys) d y z f a b h some is old new goes before now = by_test (nat_lt 0 (failures_of z)) refl where
  same : faults d ≡ faults v
  same = ap faults is

  further : AnyRose (faults x ∷ map faults xs) (faults v ∷ map faults ys) → AnyRose (faults x ∷ map faults xs) (faults y ∷ map faults ys)
  further (inl r) = inl (let l = goes.faults in omega (arith, r, l, same, old, new))
  further (inr r) = inr r

  by_test : (t : Bool) → nat_lt 0 (failures_of z) ≡ t → AnyRose (faults x ∷ map faults xs) (faults y ∷ map faults ys)
  by_test true e = further (before (let l : 0 < failures_of z = grind (arith, nat_tests, e) in l))
  by_test false e =
      let none : failures_of z ≡ 0 = grind (arith, nat_tests, e) in
      let g = ap (count_by is_failure) goes.history in
      let n = sum_by-append (λ w. cond (is_failure w) 1 0) z.history goes.events in
      let p = count_is_passes is_failure goes.events in
      let at = a_failure goes.events (omega (arith, none, g, n, p, now)) in
      let r = goes.blamed at.0 at.1 in
      let l = h.0.later.faults in
      inl (omega (arith, r, l, same, old, new))

-- the first lane can run for the rest
pub few_of_first : {X : Type 0} (runs faults : X → ℕ) (world : X → Option World) (store : X → Option Store) (xs ys : List X) (d : X) → All (λ l. runs l < 2 ^ 62) xs
    → HaveWorked (lanes_now runs faults world store xs) (lanes_now runs faults world store ys) → 0 < length ys → d ≡ get_or ys 0 d → runs d < 2 ^ 62 + 2 ^ 35
few_of_first runs faults world store [] [] d low h some is = absurd (omega (arith, some))
few_of_first runs faults world store [] (v ∷ ys) d low h some is = absurd h
few_of_first runs faults world store (x ∷ xs) [] d low h some is = absurd h
few_of_first runs faults world store (x ∷ xs) (v ∷ ys) d low h some is = let a : runs x < 2 ^ 62 = low 0 x (omega arith) in let b = h.0.few in let c = ap runs is in omega (arith, a, b, c)

pub lane_of_first : {X : Type 0} (P : X → Type 0) (ys : List X) (d : X) → AllByRecursion P ys → 0 < length ys → d ≡ get_or ys 0 d → P d
lane_of_first P [] d all some is = absurd (omega (arith, some))
lane_of_first P (y ∷ ys) d all some is = subst P (sym is) all.0

-- each lane is the one that was at its place
all_later : (xs ys : List LaneNow) → HaveWorked xs ys → AreLater xs ys
all_later [] [] h = tt
all_later [] (y ∷ ys) h = absurd h
all_later (x ∷ xs) [] h = absurd h
all_later (x ∷ xs) (y ∷ ys) h = (h.0.later, all_later xs ys h.1)

pub ended_later : {X : Type 0} (now : X → LaneNow) (xs ys : List X) (d y : X) → HaveWorked (map now xs) (map now ys) → d ≡ get_or ys 0 d → Later (now d) (now y) → AreLater (map now xs) (map now (set ys 0 y))
ended_later now [] [] d y h is later = tt
ended_later now [] (v ∷ ys) d y h is later = absurd h
ended_later now (x ∷ xs) [] d y h is later = absurd h
ended_later now (x ∷ xs) (v ∷ ys) d y h is later = (later_then h.0.later (subst (λ u. Later (now u) (now y)) is later), all_later (map now xs) (map now ys) h.1)
