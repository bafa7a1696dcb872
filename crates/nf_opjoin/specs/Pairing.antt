-- Operators that pair the items of two inputs.
use Rattle.std.specs.Prelude.{◌≡◌, ℕ, nat_lt, List, [], ◌∷◌, ◌++◌, map, filter, Bool, true, cond, not, count_by, Result, Ok, Err}
use Rattle.std.specs.List.{flat_map}
use Rattle.nf_value.specs.Plain.{Plain}
use Rattle.nf_opstream.specs.Push.{Push, IsSameInput}
use Rattle.nf_opstream.specs.Fault.{Fault, too_deep}
use Rattle.nf_opstream.specs.Operator.{Operator, to_out, oks, errs}
use Rattle.nf_opstream.specs.Alone.{is_too_deep, judged}

-- emitted values, or a fault
abbrev pub Due : Type 0
Due = Result (List (ℕ × Plain)) Fault

-- one after the other, or the first fault
abbrev pub and_then : Due → Due → Due
and_then (Ok es) (Ok fs) = Ok (es ++ fs)
and_then (Ok es) (Err f) = Err f
and_then (Err f) r = Err f

-- what each of these gives, in the order of arrival, or the first fault
abbrev pub gathered : (Push → Due) → List Push → Due
gathered h [] = Ok []
gathered h (y ∷ p) = and_then (gathered h p) (h y)

-- these values, emitted to the first output, or the first fault
abbrev pub given : List Plain → Due
given [] = Ok []
given (v ∷ vs) = and_then (judged ((0, v) ∷ [])) (given vs)

-- the values that aren't too deep, emitted to the first output
abbrev pub shown : List Plain → List (ℕ × Plain)
shown vs = map (λ v. (0, v)) (filter (λ v. not (is_too_deep v)) vs)

-- a fault for each value that is too deep
abbrev pub deep_faults : List Plain → List Fault
deep_faults vs = map too_deep (filter is_too_deep vs)

-- a way to pair items
pub record Matching : Type 0 where
  -- a fault, if the item can't be paired at all
  pub judge : Push → Due
  -- which items of one input may not come together
  pub twin : Push → Push → Bool
  -- the fault of an item that comes with a twin
  pub repeated : Push → Fault
  -- what an item of the first input and one of the second give
  pub pair : Push → Push → Due
  -- the values that the close emits
  pub left_over : List Push → List Plain

-- how many twins an item has among these
abbrev pub twins : Matching → Push → List Push → ℕ
twins m x p = count_by (λ y. m.twin x y) p

-- a fault, if a twin of the item came before
abbrev pub first_of_its_kind : Matching → List Push → Push → Due
first_of_its_kind m p x = cond (nat_lt 0 (twins m x p)) (Err (m.repeated x)) (Ok [])

-- a fault, if the item has a twin other than itself
abbrev pub repeats : Matching → List Push → Push → List Fault
repeats m q x = cond (nat_lt 1 (twins m x q)) (m.repeated x ∷ []) []

abbrev pub pairs_of : Matching → List Push → Push → ℕ → List Plain
pairs_of m q x out = flat_map (λ y. to_out out (oks (m.pair x y))) q

abbrev pub pair_faults : Matching → List Push → Push → List Fault
pair_faults m q x = flat_map (λ y. errs (m.pair x y)) q

-- the operator that emits all pairs, and at the close the values left over; each of those is checked for its depth by itself
abbrev pub pairing : Matching → Operator
pairing m = record {
  items = λ q out. flat_map (λ x. pairs_of m q x out) q ++ to_out out (shown (m.left_over q));
  faults = λ q. flat_map (λ x. errs (m.judge x)) q ++ (flat_map (repeats m q) q ++ (flat_map (pair_faults m q) q ++ deep_faults (m.left_over q)));
  gives = λ p x. and_then (m.judge x) (and_then (first_of_its_kind m p x) (and_then (gathered (m.pair x) p) (gathered (λ y. m.pair y x) p)));
  ends = λ q. given (m.left_over q);
}

-- what makes `pairing` an operator: an item alone emits nothing, no item is paired with itself, a twin of an item has the same twins, and
-- what is left over depends on the bag alone
pub record IsMatching (m : Matching) : Type 0 where
  pub quiet : (x : Push) → oks (m.judge x) ≡ []
  pub no_self : (x : Push) → m.pair x x ≡ Ok []
  pub itself : (x y : Push) → m.twin x y ≡ true → m.twin x x ≡ true
  pub alike : (x y z : Push) → m.twin x y ≡ true → m.twin x z ≡ m.twin y z
  pub by_bag : (p q : List Push) → IsSameInput p q → m.left_over p ≡ m.left_over q
