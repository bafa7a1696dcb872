-- What is known of lanes at the ends of their workers.
use Rattle.std.proofs.Common.{◌≡◌, ℕ, ◌+◌, ◌<◌, List, [], ◌∷◌, ◌++◌, refl, ap, sym, arith, length, suc, zero, inl, inr, map}
use Rattle.std.specs.Prelude.{Option, Some, None, slice_get}
use Rattle.std.specs.List.{sum_by}
use Rattle.std.proofs.lemmas.List.Sums.{sum_by-append}
use Rattle.nf_flight.specs.declared.ticket.Ticket.{Ticket}
use Rattle.nf_locked.specs.Out.{tallies, tally}
use Rattle.std.proofs.lemmas.List.{map-append, length-map}
use Rattle.nf_host.specs.Faults.{Rose}
use Rattle.nf_host.specs.Told.{Both}
use Rattle.nf_lane.specs.Store.{Store, Grows}
use Rattle.nf_lane.specs.World.{World}
use Rattle.nf_core.specs.Opening.{LaneTold, Opening}
use Rattle.nf_pool.specs.Pool.{AnyRose, AreFirst, IsLaneAt, told}

first_last : (xs ys : List LaneTold) (x : LaneTold) → AreFirst (xs ++ x ∷ []) ys → (slice_get ys (length xs) ≡ Some x) × AreFirst xs ys
first_last [] [] x h = absurd h
first_last [] (y ∷ ys) x h = (ap Some h.0, tt)
first_last (u ∷ xs) [] x h = absurd h
first_last (u ∷ xs) (y ∷ ys) x h = let p = first_last xs ys x h.1 in (p.0, (h.0, p.1))

-- the last lane of some is the one at its place
pub last_lane : {X : Type 0} (F : Opening) (world : X → Option World) (store : X → Option Store) (xs : List X) (x : X) (n : ℕ)
    → AreFirst (map (λ l. told (world l) (store l)) (xs ++ x ∷ [])) F.lanes → n ≡ length xs
    → IsLaneAt F n (world x) (store x) × AreFirst (map (λ l. told (world l) (store l)) xs) F.lanes
last_lane {X} F world store xs x n h len =
    let f : X → LaneTold = λ l. told (world l) (store l) in
    let p = first_last (map f xs) F.lanes (f x) (rw (map-append f xs (x ∷ [])) at h) in (
      record {
        lane = f x;
        there = rw (len, sym (length-map xs f)) p.0;
        same = refl;
        grows = same_store (store x);
      },
      p.1,
    ) where
      same_store : (o : Option Store) → Both o o Grows
      same_store None = tt
      same_store (Some s) = λ d h. h

pub first_whole : (xs : List LaneTold) → AreFirst xs xs
first_whole [] = tt
first_whole (x ∷ xs) = (refl, first_whole xs)

-- ---- a lane more, at the end

any_rose : (xs ys : List ℕ) (x y a b c : ℕ) → length xs ≡ length ys → (0 < a → Rose x y) → (0 < b → AnyRose xs ys) → c ≡ a + b → 0 < c → AnyRose (xs ++ x ∷ []) (ys ++ y ∷ [])
any_rose xs ys x y zero zero c len h k is some = absurd (omega (arith, is, some))
any_rose xs ys x y (suc a) b c len h k is some = at_end xs ys len where
  at_end : (xs ys : List ℕ) → length xs ≡ length ys → AnyRose (xs ++ x ∷ []) (ys ++ y ∷ [])
  at_end [] [] e = inl (h (omega arith))
  at_end [] (v ∷ ys) e = absurd (omega (arith, e))
  at_end (u ∷ xs) [] e = absurd (omega (arith, e))
  at_end (u ∷ xs) (v ∷ ys) e = inr (at_end xs ys (omega (arith, e)))
any_rose xs ys x y zero (suc b) c len h k is some = before xs ys (k (omega arith)) where
  before : (xs ys : List ℕ) → AnyRose xs ys → AnyRose (xs ++ x ∷ []) (ys ++ y ∷ [])
  before [] ys q = absurd q
  before (u ∷ xs) [] q = absurd q
  before (u ∷ xs) (v ∷ ys) (inl q) = inl q
  before (u ∷ xs) (v ∷ ys) (inr q) = inr (before xs ys q)

pub any_lane_rose : {X : Type 0} (f : X → ℕ) (olds news rest rest' : List X) (x x' : X) (a b c : ℕ) → olds ≡ rest ++ x ∷ [] → news ≡ rest' ++ x' ∷ [] → length rest ≡ length rest'
    → (0 < a → Rose (f x) (f x')) → (0 < b → AnyRose (map f rest) (map f rest')) → c ≡ a + b → 0 < c → AnyRose (map f olds) (map f news)
any_lane_rose f olds news rest rest' x x' a b c old new len h k is =
    rw (old, new, map-append f rest (x ∷ []), map-append f rest' (x' ∷ []))
    (any_rose (map f rest) (map f rest') (f x) (f x') a b c (omega (arith, length-map rest f, length-map rest' f, len)) h k is)

pub lane_runs : {X : Type 0} (f : X → ℕ) (olds news rest rest' : List X) (x x' : X) (a b c : ℕ) → olds ≡ rest ++ x ∷ [] → news ≡ rest' ++ x' ∷ [] → f x' ≡ f x + a → sum_by f rest' ≡ sum_by f rest + b → c ≡ a + b
    → sum_by f news ≡ sum_by f olds + c
lane_runs f olds news rest rest' x x' a b c old new one others is =
    let p = ap (sum_by f) old in
    let q = ap (sum_by f) new in
    let r = sum_by-append f rest (x ∷ []) in
    let t = sum_by-append f rest' (x' ∷ []) in
    omega (arith, p, q, r, t, one, others, is)

-- ---- lists of tickets, one a lane

pub empty_more : {V : Type 0} (f : V → List Ticket) (n : ℕ) (vs : List V) (v : V) → f v ≡ [] → tallies n (map f (vs ++ v ∷ [])) ≡ tallies n (map f vs)
empty_more f n [] v none = let a = ap (tally n) none in omega (arith, a)
empty_more f n (w ∷ vs) v none = let a = empty_more f n vs v none in omega (arith, a)

pub length_more : {V : Type 0} (f : V → List Ticket) (vs : List V) (v : V) → length (map f (vs ++ v ∷ [])) ≡ length (map f vs) + 1
length_more f [] v = refl
length_more f (w ∷ vs) v = let a = length_more f vs v in omega (arith, a)
