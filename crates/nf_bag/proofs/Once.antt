-- The distinct values of a bag.
use Rattle.std.proofs.Common.{◌≡◌, ◌≤◌, min, List, [], ◌∷◌, Bool, true, false, cond, refl, ap, sym, ◌∙◌, subst, ⊎_elim, arith}
use Rattle.std.specs.declared.cmp.Ordering.{Ordering}
use Rattle.std.specs.declared.cmp.Ordering.TheVariants.{Less, Equal, Greater}
use Rattle.std.specs.List.{dedup, dedup_from}
use Rattle.std.specs.Ordering.{is_gt, is_eq, ordering_reverse}
use Rattle.std.proofs.lemmas.Cmp.{tied_back}
use Rattle.std.proofs.lemmas.Bool.{cases_Bool, true≢false}
use Rattle.nf_value.specs.Plain.{Plain}
use Rattle.nf_value.specs.Order.{value_cmp, value_cmp_total}
use Rattle.nf_value.specs.Identity.{value_cmp_exact}
use Rattle.nf_bag.specs.Bag.{count, IsSameBag}
use Rattle.nf_bag.specs.Sorted.{IsAboveNone, IsRising, IsBelowAll, IsStrictlyRising, sorted_of, distinct_of}
use Rattle.nf_bag.proofs.Bags.{is_same, one_if, same_from, count-cons}
use Rattle.nf_bag.proofs.Rising.{sorted_of_rises, sorted_of_is_same, sorted_of_same}

less_at_most : (x y z : Plain) → value_cmp x y ≡ Less → is_gt (value_cmp y z) ≡ false → value_cmp x z ≡ Less
less_at_most x y z h k = by (value_cmp y z) refl
  where
    by : (o : Ordering) → value_cmp y z ≡ o → value_cmp x z ≡ Less
    by Less e = value_cmp_total.trans x y z h e
    by Equal e = subst (λ w. value_cmp x w ≡ Less) (value_cmp_exact y z e) h
    by Greater e = absurd (true≢false (ap is_gt (sym e) ∙ k))

less_unless_same : (x y : Plain) → is_gt (value_cmp x y) ≡ false → is_same y x ≡ false → value_cmp x y ≡ Less
less_unless_same x y h k = by (value_cmp x y) refl
  where
    by : (o : Ordering) → value_cmp x y ≡ o → value_cmp x y ≡ Less
    by Less e = e
    by Equal e = absurd (true≢false (ap is_eq (sym (tied_back value_cmp_total x y e)) ∙ k))
    by Greater e = absurd (true≢false (ap is_gt (sym e) ∙ h))

below_all : (k x : Plain) (zs : List Plain) → value_cmp k x ≡ Less → IsAboveNone x zs → IsBelowAll k zs
below_all k x [] h a = tt
below_all k x (z ∷ zs) h a = (less_at_most k x z h a.0, below_all k x zs h a.1)

below_all-dedup_from : (k x : Plain) (zs : List Plain) → value_cmp k x ≡ Less → IsBelowAll k zs → IsBelowAll k (dedup_from is_same x zs)
below_all-dedup_from k x [] h a = (h, tt)
below_all-dedup_from k x (z ∷ zs) h a =
    ⊎_elim
    (λ e. subst (IsBelowAll k) (ap (λ b. cond b (dedup_from is_same x zs) (x ∷ dedup_from is_same z zs)) (sym e)) (below_all-dedup_from k x zs h a.1))
    (λ e. subst (IsBelowAll k) (ap (λ b. cond b (dedup_from is_same x zs) (x ∷ dedup_from is_same z zs)) (sym e)) (h, below_all-dedup_from k z zs a.0 a.1))
    (cases_Bool (is_same z x))

strictly-dedup_from : (k : Plain) (xs : List Plain) → IsAboveNone k xs → IsRising xs → IsStrictlyRising (dedup_from is_same k xs)
strictly-dedup_from k [] h r = (tt, tt)
strictly-dedup_from k (x ∷ xs) h r =
    ⊎_elim
    (λ e. subst IsStrictlyRising (ap (λ b. cond b (dedup_from is_same k xs) (k ∷ dedup_from is_same x xs)) (sym e)) (strictly-dedup_from k xs h.1 r.1))
    (λ e.
    let less = less_unless_same k x h.0 e in
    subst IsStrictlyRising (ap (λ b. cond b (dedup_from is_same k xs) (k ∷ dedup_from is_same x xs)) (sym e))
    (below_all-dedup_from k x xs less (below_all k x xs less r.0), strictly-dedup_from x xs r.0 r.1))
    (cases_Bool (is_same x k))

at_most_one : (b : Bool) → one_if b ≤ 1
at_most_one true = omega arith
at_most_one false = omega arith

none_below : (k v : Plain) (zs : List Plain) → IsBelowAll k zs → is_same k v ≡ true → count v zs ≡ 0
none_below k v [] h e = refl
none_below k v (z ∷ zs) h e =
    let apart : is_same z v ≡ false = ap (is_same z) (sym (same_from k v e)) ∙ ap is_eq (value_cmp_total.antisymm z k ∙ ap ordering_reverse h.0) in
    omega (arith, count-cons v z zs, ap one_if apart, none_below k v zs h.1 e)

count-dedup_from : (v k : Plain) (xs : List Plain) → IsAboveNone k xs → IsRising xs → count v (dedup_from is_same k xs) ≡ min (count v (k ∷ xs)) 1
count-dedup_from v k [] h r = omega (arith, count-cons v k [], at_most_one (is_same k v))
count-dedup_from v k (x ∷ xs) h r =
    ⊎_elim
    (λ e.
    let is = ap (λ b. count v (cond b (dedup_from is_same k xs) (k ∷ dedup_from is_same x xs))) e in
    let one : one_if (is_same x v) ≡ one_if (is_same k v) = ap (λ y. one_if (is_same y v)) (same_from x k e) in
    omega (arith, is, one, count-dedup_from v k xs h.1 r.1, count-cons v k xs, count-cons v k (x ∷ xs), count-cons v x xs, at_most_one (is_same k v)))
    (λ e.
    let is = ap (λ b. count v (cond b (dedup_from is_same k xs) (k ∷ dedup_from is_same x xs))) e in
    let less = less_unless_same k x h.0 e in
    let rest = count-dedup_from v x xs r.0 r.1 in
    let whole = is ∙ count-cons v k (dedup_from is_same x xs) in
    ⊎_elim
    (λ t.
    let none = none_below k v (x ∷ xs) (less, below_all k x xs less r.0) t in
    omega (arith, whole, rest, none, ap one_if t, count-cons v k (x ∷ xs)))
    (λ f. omega (arith, whole, rest, ap one_if f, count-cons v k (x ∷ xs)))
    (cases_Bool (is_same k v)))
    (cases_Bool (is_same x k))

strictly-dedup : (xs : List Plain) → IsRising xs → IsStrictlyRising (dedup is_same xs)
strictly-dedup [] h = tt
strictly-dedup (x ∷ xs) h = strictly-dedup_from x xs h.0 h.1

count-dedup : (v : Plain) (xs : List Plain) → IsRising xs → count v (dedup is_same xs) ≡ min (count v xs) 1
count-dedup v [] h = refl
count-dedup v (x ∷ xs) h = count-dedup_from v x xs h.0 h.1

pub distinct_of_rises : (a : List Plain) → IsStrictlyRising (distinct_of a)
distinct_of_rises a = strictly-dedup (sorted_of a) (sorted_of_rises a)

pub count_of_distinct : (v : Plain) (a : List Plain) → count v (distinct_of a) ≡ min (count v a) 1
count_of_distinct v a = count-dedup v (sorted_of a) (sorted_of_rises a) ∙ ap (λ n. min n 1) ((sorted_of_is_same a).at v)

pub distinct_of_same : (a b : List Plain) → IsSameBag a b → distinct_of a ≡ distinct_of b
distinct_of_same a b h = ap (dedup is_same) (sorted_of_same a b h)
