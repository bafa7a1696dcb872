-- The last value in rising order.
use Rattle.std.proofs.Common.{◌≡◌, List, [], ◌∷◌, true, false, cond, refl, ap, sym, ◌∙◌, inl, inr}
use Rattle.std.specs.Prelude.{Some, None}
use Rattle.std.specs.Ordering.{is_gt}
use Rattle.std.specs.declared.cmp.Ordering.{Ordering}
use Rattle.std.specs.declared.cmp.Ordering.TheVariants.{Less, Equal, Greater}
use Rattle.std.proofs.lemmas.Bool.{cases_Bool}
use Rattle.std.proofs.lemmas.Cmp.{upto}
use Rattle.nf_value.specs.Plain.{Plain}
use Rattle.nf_value.specs.Order.{value_cmp, value_cmp_total}
use Rattle.nf_bag.specs.Sorted.{IsAboveNone, IsRising, inserted}
use Rattle.nf_opclose.specs.Gathered.{last_of}

none_last : (vs : List Plain) → None ≡ last_of vs → vs ≡ []
none_last [] h = refl
none_last (v ∷ []) h = cc
none_last (v ∷ w ∷ vs) h = absurd (let k : w ∷ vs ≡ [] = none_last (w ∷ vs) h in cc)

-- the first value that comes
pub only_greatest : (v : Plain) (vs : List Plain) → None ≡ last_of vs → Some v ≡ last_of (inserted v vs)
only_greatest v vs h = ap (λ ws. last_of (inserted v ws)) (sym (none_last vs h))

-- what is above none isn't above the last
not_above_last : (x w : Plain) (vs : List Plain) → IsAboveNone x vs → Some w ≡ last_of vs → is_gt (value_cmp x w) ≡ false
not_above_last x w [] h k = cc
not_above_last x w (y ∷ []) h k = (let e : w ≡ y = cc in ap (λ z. is_gt (value_cmp x z)) e ∙ h.0)
not_above_last x w (y ∷ z ∷ vs) h k = not_above_last x w (z ∷ vs) h.1 k

last_past : (v x y : Plain) (vs : List Plain) → last_of (x ∷ inserted v (y ∷ vs)) ≡ last_of (inserted v (y ∷ vs))
last_past v x y vs = elim (cases_Bool (is_gt (value_cmp v y))) [ inl e ↦ rw e refl | inr e ↦ rw e refl ]

pub last_inserted : (v w : Plain) (vs : List Plain) → IsRising vs → Some w ≡ last_of vs → last_of (inserted v vs) ≡ cond (is_gt (value_cmp v w)) (Some v) (Some w)
last_inserted v w [] h k = cc
last_inserted v w (x ∷ []) h k = (
    let e : x ≡ w = cc in
    let one : last_of (inserted v (x ∷ [])) ≡ cond (is_gt (value_cmp v x)) (Some v) (Some x) = elim (cases_Bool (is_gt (value_cmp v x))) [ inl g ↦ rw g refl | inr g ↦ rw g refl ] in
    one ∙ ap (λ z. cond (is_gt (value_cmp v z)) (Some v) (Some z)) e)
last_inserted v w (x ∷ y ∷ vs) h k = elim (cases_Bool (is_gt (value_cmp v x))) [
  | inl g ↦ ap (λ b. last_of (cond b (x ∷ inserted v (y ∷ vs)) (v ∷ x ∷ y ∷ vs))) g ∙ last_past v x y vs ∙ last_inserted v w (y ∷ vs) h.1 k
  | inr g ↦ (let n : is_gt (value_cmp v w) ≡ false = upto value_cmp_total v x w g (not_above_last x w (y ∷ vs) h.0 k) in
      ap (λ b. last_of (cond b (x ∷ inserted v (y ∷ vs)) (v ∷ x ∷ y ∷ vs))) g ∙ sym k ∙ ap (λ b. cond b (Some v) (Some w)) (sym n))
]

pub greatest_goes : (v w : Plain) (vs : List Plain) → IsRising vs → Some w ≡ last_of vs → is_gt (value_cmp v w) ≡ true → Some v ≡ last_of (inserted v vs)
greatest_goes v w vs h k g = sym (last_inserted v w vs h k ∙ ap (λ b. cond b (Some v) (Some w)) g)

pub greatest_stays : (v w : Plain) (vs : List Plain) → IsRising vs → Some w ≡ last_of vs → is_gt (value_cmp v w) ≡ false → Some w ≡ last_of (inserted v vs)
greatest_stays v w vs h k g = sym (last_inserted v w vs h k ∙ ap (λ b. cond b (Some v) (Some w)) g)

pub not_gt : (o : Ordering) → (o ≡ Greater → ⊥) → is_gt o ≡ false
not_gt Less h = refl
not_gt Equal h = refl
not_gt Greater h = absurd (h refl)
