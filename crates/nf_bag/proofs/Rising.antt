-- A bag has one rising list.
use Rattle.std.proofs.Common.{◌≡◌, ℕ, ◌+◌, ◌<◌, List, [], ◌∷◌, true, false, cond, refl, ap, sym, ◌∙◌, subst, ⊎_elim, arith}
use Rattle.std.specs.Prelude.{sum_by}
use Rattle.std.specs.declared.cmp.Ordering.{Ordering}
use Rattle.std.specs.declared.cmp.Ordering.TheVariants.{Less, Equal, Greater}
use Rattle.std.specs.Ordering.{is_gt, ordering_reverse}
use Rattle.std.proofs.lemmas.Bool.{cases_Bool, true≢false}
use Rattle.std.proofs.lemmas.Cmp.{upto, tied_itself}
use Rattle.std.proofs.lemmas.List.Sums.{sum_by-cons}
use Rattle.nf_value.specs.Plain.{Plain}
use Rattle.nf_value.specs.Order.{value_cmp, value_cmp_total}
use Rattle.nf_value.specs.Identity.{value_cmp_exact}
use Rattle.nf_bag.specs.Bag.{count, IsSameBag}
use Rattle.nf_bag.specs.Sorted.{IsAboveNone, IsRising, inserted, sorted_of}
use Rattle.nf_bag.proofs.Bags.{is_same, one_if, same_from, count-cons, count_itself, same-sym, same-trans}

gt-reverse : (o : Ordering) → is_gt o ≡ true → is_gt (ordering_reverse o) ≡ false
gt-reverse Less h = absurd (true≢false (sym h))
gt-reverse Equal h = absurd (true≢false (sym h))
gt-reverse Greater h = refl

gt_flip : (x y : Plain) → is_gt (value_cmp x y) ≡ true → is_gt (value_cmp y x) ≡ false
gt_flip x y h = ap is_gt (value_cmp_total.antisymm y x) ∙ gt-reverse (value_cmp x y) h

no_gt_either : (o : Ordering) → is_gt o ≡ false → is_gt (ordering_reverse o) ≡ false → o ≡ Equal
no_gt_either Less h k = absurd (true≢false k)
no_gt_either Equal h k = refl
no_gt_either Greater h k = absurd (true≢false h)

pub one_at_both : (x y : Plain) → is_gt (value_cmp x y) ≡ false → is_gt (value_cmp y x) ≡ false → x ≡ y
one_at_both x y h k = value_cmp_exact x y (no_gt_either (value_cmp x y) h (ap is_gt (sym (value_cmp_total.antisymm y x)) ∙ k))

lower_above_none : (x y : Plain) (zs : List Plain) → is_gt (value_cmp x y) ≡ false → IsAboveNone y zs → IsAboveNone x zs
lower_above_none x y [] h k = tt
lower_above_none x y (z ∷ zs) h k = (upto value_cmp_total x y z h k.0, lower_above_none x y zs h k.1)

above_none-inserted : (x v : Plain) (ys : List Plain) → is_gt (value_cmp x v) ≡ false → IsAboveNone x ys → IsAboveNone x (inserted v ys)
above_none-inserted x v [] h k = (h, tt)
above_none-inserted x v (y ∷ ys) h k =
    ⊎_elim
    (λ e. subst (IsAboveNone x) (ap (λ b. cond b (y ∷ inserted v ys) (v ∷ y ∷ ys)) (sym e)) (k.0, above_none-inserted x v ys h k.1))
    (λ e. subst (IsAboveNone x) (ap (λ b. cond b (y ∷ inserted v ys) (v ∷ y ∷ ys)) (sym e)) (h, k))
    (cases_Bool (is_gt (value_cmp v y)))

pub IsRising-inserted : (v : Plain) (xs : List Plain) → IsRising xs → IsRising (inserted v xs)
IsRising-inserted v [] h = (tt, tt)
IsRising-inserted v (x ∷ xs) h =
    ⊎_elim
    (λ e. subst IsRising (ap (λ b. cond b (x ∷ inserted v xs) (v ∷ x ∷ xs)) (sym e)) (above_none-inserted x v xs (gt_flip v x e) h.0, IsRising-inserted v xs h.1))
    (λ e. subst IsRising (ap (λ b. cond b (x ∷ inserted v xs) (v ∷ x ∷ xs)) (sym e)) ((e, lower_above_none v x xs e h.0), h))
    (cases_Bool (is_gt (value_cmp v x)))

sum_by-inserted : (f : Plain → ℕ) (v : Plain) (xs : List Plain) → sum_by f (inserted v xs) ≡ f v + sum_by f xs
sum_by-inserted f v [] = sum_by-cons f v []
sum_by-inserted f v (x ∷ xs) =
    ⊎_elim
    (λ e. let is : inserted v (x ∷ xs) ≡ x ∷ inserted v xs = ap (λ b. cond b (x ∷ inserted v xs) (v ∷ x ∷ xs)) e in
    omega (arith, ap (sum_by f) is, sum_by-cons f x (inserted v xs), sum_by-cons f x xs, sum_by-inserted f v xs))
    (λ e. ap (λ b. sum_by f (cond b (x ∷ inserted v xs) (v ∷ x ∷ xs))) e ∙ sum_by-cons f v (x ∷ xs))
    (cases_Bool (is_gt (value_cmp v x)))

pub sorted_of_rises : (xs : List Plain) → IsRising (sorted_of xs)
sorted_of_rises [] = tt
sorted_of_rises (x ∷ xs) = IsRising-inserted x (sorted_of xs) (sorted_of_rises xs)

pub sum_by-sorted_of : (f : Plain → ℕ) (xs : List Plain) → sum_by f (sorted_of xs) ≡ sum_by f xs
sum_by-sorted_of f [] = refl
sum_by-sorted_of f (x ∷ xs) = omega (arith, sum_by-inserted f x (sorted_of xs), sum_by-cons f x xs, sum_by-sorted_of f xs)

pub sorted_of_is_same : (xs : List Plain) → IsSameBag (sorted_of xs) xs
sorted_of_is_same xs = record { at = λ v. sum_by-sorted_of (λ y. one_if (is_same y v)) xs }

-- what occurs after y in a rising list isn't below y
first_is_least : (x y : Plain) (ys : List Plain) → IsAboveNone y ys → 0 < count x (y ∷ ys) → is_gt (value_cmp y x) ≡ false
first_is_least x y ys h some =
    ⊎_elim (λ e. subst (λ z. is_gt (value_cmp y z) ≡ false) (same_from y x e) (gt_none y)) (λ e. later ys h (omega (arith, count-cons x y ys, none y e))) (cases_Bool (is_same y x))
  where
    none : (z : Plain) → is_same z x ≡ false → one_if (is_same z x) ≡ 0
    none z e = ap one_if e

    gt_none : (z : Plain) → is_gt (value_cmp z z) ≡ false
    gt_none z = ap is_gt (tied_itself value_cmp_total z)

    later : (zs : List Plain) → IsAboveNone y zs → 0 < count x zs → is_gt (value_cmp y x) ≡ false
    later [] k s = absurd (omega arith)
    later (z ∷ zs) k s =
        ⊎_elim (λ e. subst (λ w. is_gt (value_cmp y w) ≡ false) (same_from z x e) k.0) (λ e. later zs k.1 (omega (arith, count-cons x z zs, none z e))) (cases_Bool (is_same z x))

pub rising_is_unique : (a b : List Plain) → IsRising a → IsRising b → IsSameBag a b → a ≡ b
rising_is_unique [] [] h k s = refl
rising_is_unique [] (y ∷ b) h k s = absurd (omega (arith, s.at y, count_itself y b))
rising_is_unique (x ∷ a) [] h k s = absurd (omega (arith, s.at x, count_itself x a))
rising_is_unique (x ∷ a) (y ∷ b) h k s =
    let first : x ≡ y = one_at_both x y (first_is_least y x a h.0 (omega (arith, s.at y, count_itself y b))) (first_is_least x y b k.0 (omega (arith, s.at x, count_itself x a))) in
    let rest : IsSameBag a b = record { at = λ v. omega (arith, s.at v, count-cons v x a, count-cons v y b, ap (λ z. one_if (is_same z v)) first) } in
    (λ i. first i ∷ rising_is_unique a b h.1 k.1 rest i)

pub sorted_of_same : (a b : List Plain) → IsSameBag a b → sorted_of a ≡ sorted_of b
sorted_of_same a b h =
    rising_is_unique (sorted_of a) (sorted_of b) (sorted_of_rises a) (sorted_of_rises b)
    (same-trans (sorted_of a) a (sorted_of b) (sorted_of_is_same a) (same-trans a b (sorted_of b) h (same-sym (sorted_of b) b (sorted_of_is_same b))))
