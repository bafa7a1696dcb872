-- `join` meets `IsMatching`.
use Rattle.std.proofs.Common.{◌≡◌, ℕ, List, [], ◌∷◌, ◌++◌, Bool, true, false, cond, not, ◌&&◌, ◌||◌, refl, ap, sym}
use Rattle.std.specs.Prelude.{◌==◌, Option, Some, None, is_some, Ok}
use Rattle.std.specs.Ordering.{eq_by_cmp}
use Rattle.std.proofs.lemmas.Bool.{true≢false}
use Rattle.nf_value.specs.Plain.{Plain}
use Rattle.nf_value.specs.Order.{value_cmp}
use Rattle.nf_bag.specs.Bag.{count, IsSameBag}
use Rattle.nf_bag.specs.Sorted.{sorted_of}
use Rattle.nf_opstream.specs.Push.{Push, IsSameInput}
use Rattle.nf_opstream.specs.Operator.{oks}
use Rattle.nf_opjoin.specs.Pairing.{Due, IsMatching}
use Rattle.nf_opjoin.specs.Tuples.{key_at, key_or_null, rest_at, has_key, same_key, is_left, faces, meets}
use Rattle.nf_opjoin.specs.Combined.{tuple, joined}
use Rattle.nf_opjoin.specs.Joined.{same_side, twin_by, partners, padded, lonely, all_lonely, join}
use Rattle.nf_opjoin.proofs.Sums.{Sums, flat_alike}
use Rattle.nf_opjoin.proofs.Members.{same_value, value_itself}

pub quiet : (o : Option Plain) (v : Plain) → oks (has_key o v) ≡ []
quiet (Some k) v = refl
quiet None v = refl

no_self_face : (b : Bool) → (b && not b) ≡ false
no_self_face true = refl
no_self_face false = refl

pub not_met : (n : ℕ) (x y : Push) → faces x y ≡ false → joined n x y ≡ Ok []
not_met n x y f = ap {B = Due} (λ b. cond (b && same_key (key_at n x.item) (key_at n y.item)) (tuple (key_or_null n x.item ∷ (rest_at n x.item ++ rest_at n y.item))) (Ok [])) f

pub both : (a b : Bool) → (a && b) ≡ true → (a ≡ true) × (b ≡ true)
both true b h = (refl, h)
both false b h = absurd (true≢false (sym h))

side_itself : (b : Bool) → cond b b (not b) ≡ true
side_itself true = refl
side_itself false = refl

key_itself : (o p : Option Plain) → same_key o p ≡ true → same_key o o ≡ true
key_itself (Some k) p h = value_itself k
key_itself None p h = absurd (true≢false (sym h))

pub keys_same : (o p : Option Plain) → same_key o p ≡ true → o ≡ p
keys_same (Some k) (Some l) h = ap Some (same_value k l h)
keys_same (Some k) None h = absurd (true≢false (sym h))
keys_same None p h = absurd (true≢false (sym h))

sides_same : (a b : Bool) → cond a b (not b) ≡ true → a ≡ b
sides_same true b h = sym h
sides_same false true h = absurd (true≢false (sym h))
sides_same false false h = refl

twin_itself : (n : ℕ) (x y : Push) → twin_by n x y ≡ true → twin_by n x x ≡ true
twin_itself n x y h =
    let b = both (same_side x y) (same_key (key_at n x.item) (key_at n y.item)) h in
    (λ i. side_itself (is_left x) i && key_itself (key_at n x.item) (key_at n y.item) b.1 i)

twins_same : (n : ℕ) (x y z : Push) → twin_by n x y ≡ true → twin_by n x z ≡ twin_by n y z
twins_same n x y z h =
    let b = both (same_side x y) (same_key (key_at n x.item) (key_at n y.item)) h in
    let s = sides_same (is_left x) (is_left y) b.0 in
    let k = keys_same (key_at n x.item) (key_at n y.item) b.1 in
    (λ i. cond (s i) (is_left z) (not (is_left z)) && same_key (k i) (key_at n z.item))

lonely_alike : Sums → (n : ℕ) (p q : List Push) → IsSameInput p q → IsSameBag (all_lonely n p) (all_lonely n q)
lonely_alike sums n p q s = record {
  at = λ v. flat_alike sums (λ y. eq_by_cmp value_cmp y v) (lonely n p) (lonely n q) (λ x. (
      let e : partners n p x ≡ partners n q x = sums (λ y. cond (meets n x y || meets n y x) 1 0) p q s in
      ap (λ m. count v (cond (is_some (key_at n x.item) && (m == 0)) (padded (is_left x) (key_or_null n x.item) (rest_at n x.item) ∷ []) [])) e)) p q s;
}

pub join_matches : Sums → ((a : List Plain) → (b : List Plain) → IsSameBag a b → sorted_of a ≡ sorted_of b) → (n : ℕ) (wanted : Bool) → IsMatching (join n wanted)
join_matches sums sorts n wanted = record {
  quiet = λ x. quiet (key_at n x.item) x.item;
  no_self = λ x. not_met n x x (no_self_face (is_left x));
  itself = λ x y h. twin_itself n x y h;
  alike = λ x y z h. twins_same n x y z h;
  by_bag = λ p q s. ap {B = List Plain} (λ vs. cond wanted vs []) (sorts (all_lonely n p) (all_lonely n q) (lonely_alike sums n p q s));
}
