-- `sort`, `dedup` and `count` of a vector of values, as the specs have them.
use Rattle.std.proofs.Common.{◌≡◌, ℕ, suc, ◌+◌, ◌<◌, List, [], ◌∷◌, Bool, true, false, cond, refl, ap, ◌∙◌, subst, ⊎_elim, arith, map, length, get_or, below_more}
use Rattle.std.specs.Prelude.{IsPermutation, IsSorted}
use Rattle.std.specs.declared.cmp.Ordering.{Ordering}
use Rattle.std.specs.declared.cmp.Ordering.TheVariants.{Less, Equal, Greater}
use Rattle.std.specs.Ordering.{is_gt, is_lt, ordering_reverse, on, eq_by_cmp}
use Rattle.std.specs.List.{dedup, dedup_from}
use Rattle.std.specs.List.Retain.{IsFiltered, DiffersFromLast}
use Rattle.std.proofs.lemmas.List.Filters.{dedup_is}
use Rattle.std.proofs.lemmas.Bool.{cases_Bool, cases_lt}
use Rattle.std.proofs.lemmas.List.{get_or_read}
use Rattle.std.proofs.lemmas.List.Sorted.{sorted_far, ranks_by, IsPermutation-map, sum_by-IsPermutation}
use Rattle.nf_value.specs.Plain.{Plain}
use Rattle.nf_value.specs.View.{plain_of}
use Rattle.nf_value.specs.Order.{value_cmp, value_cmp_total}
use Rattle.nf_value.specs.declared.value.Value.{Value}
use Rattle.nf_bag.specs.Bag.{count, IsSameBag}
use Rattle.nf_bag.specs.Sorted.{IsAboveNone, IsRising, sorted_of, distinct_of}
use Rattle.nf_bag.proofs.Bags.{is_same, one_if, same_from, count-cons, same-sym, same-trans, same_from_length}
use Rattle.nf_bag.proofs.Rising.{rising_is_unique, sorted_of_rises, sorted_of_is_same}

gt-reverse : (o : Ordering) → is_gt (ordering_reverse o) ≡ is_lt o
gt-reverse Less = refl
gt-reverse Equal = refl
gt-reverse Greater = refl

not_above : (x y : Plain) → is_lt (value_cmp y x) ≡ false → is_gt (value_cmp x y) ≡ false
not_above x y h = ap is_gt (value_cmp_total.antisymm x y) ∙ gt-reverse (value_cmp y x) ∙ h

above_none_from : (x : Plain) (xs : List Value) → ((j : ℕ) (d : Value) → j < length xs → is_gt (value_cmp x (plain_of (get_or xs j d))) ≡ false) → IsAboveNone x (map plain_of xs)
above_none_from x [] f = tt
above_none_from x (y ∷ ys) f = (f 0 y (omega arith), above_none_from x ys (λ j d h. f (suc j) d (omega arith)))

rising_from : (xs : List Value) → ((i j : ℕ) (d : Value) → i < j → j < length xs → is_gt (value_cmp (plain_of (get_or xs i d)) (plain_of (get_or xs j d))) ≡ false) → IsRising (map plain_of xs)
rising_from [] f = tt
rising_from (x ∷ xs) f =
    (above_none_from (plain_of x) xs (λ j d h. f 0 (suc j) d (omega arith) (omega arith)), rising_from xs (λ i j d lt h. f (suc i) (suc j) d (omega arith) (omega arith)))

rising_from_sorted : (xs : List Value) → IsSorted (on plain_of value_cmp) xs → IsRising (map plain_of xs)
rising_from_sorted xs up =
    rising_from xs
    (λ i j d lt h. not_above (plain_of (get_or xs i d)) (plain_of (get_or xs j d))
    (sorted_far (λ x y. is_lt (value_cmp (plain_of x) (plain_of y))) (ranks_by value_cmp_total plain_of) xs up i j d (omega arith) h))

same_from_moves : (xs ys : List Value) → IsPermutation xs ys → IsSameBag (map plain_of ys) (map plain_of xs)
same_from_moves xs ys p = record { at = λ v. sum_by-IsPermutation (λ x. one_if (is_same x v)) (map plain_of xs) (map plain_of ys) (IsPermutation-map plain_of xs ys p) }

pub sorted_is : (xs ys : List Value) → IsPermutation xs ys → IsSorted (on plain_of value_cmp) ys → map plain_of ys ≡ sorted_of (map plain_of xs)
sorted_is xs ys p up =
    rising_is_unique (map plain_of ys) (sorted_of (map plain_of xs)) (rising_from_sorted ys up) (sorted_of_rises (map plain_of xs))
    (same-trans (map plain_of ys) (map plain_of xs) (sorted_of (map plain_of xs)) (same_from_moves xs ys p)
    (same-sym (sorted_of (map plain_of xs)) (map plain_of xs) (sorted_of_is_same (map plain_of xs))))

abbrev values_same : Value → Value → Bool
values_same = eq_by_cmp (on plain_of value_cmp)

both_kept : (k x : Value) (xs : List Value) (b : Bool) → map plain_of (dedup_from values_same k xs) ≡ dedup_from is_same (plain_of k) (map plain_of xs) → map plain_of (dedup_from values_same x xs) ≡ dedup_from is_same (plain_of x) (map plain_of xs)
    → map plain_of (cond b (dedup_from values_same k xs) (k ∷ dedup_from values_same x xs)) ≡ cond b (dedup_from is_same (plain_of k) (map plain_of xs)) (plain_of k ∷ dedup_from is_same (plain_of x) (map plain_of xs))
both_kept k x xs true h g = h
both_kept k x xs false h g = ap (λ ys. plain_of k ∷ ys) g

map-dedup_from : (k : Value) (xs : List Value) → map plain_of (dedup_from values_same k xs) ≡ dedup_from is_same (plain_of k) (map plain_of xs)
map-dedup_from k [] = refl
map-dedup_from k (x ∷ xs) = both_kept k x xs (is_same (plain_of x) (plain_of k)) (map-dedup_from k xs) (map-dedup_from x xs)

map-dedup : (xs : List Value) → map plain_of (dedup values_same xs) ≡ dedup is_same (map plain_of xs)
map-dedup [] = refl
map-dedup (x ∷ xs) = map-dedup_from x xs

pub distinct_is : (xs : List Plain) (ys zs : List Value) → map plain_of ys ≡ sorted_of xs → IsFiltered (DiffersFromLast values_same) [] ys zs → map plain_of zs ≡ distinct_of xs
distinct_is xs ys zs up kept = ap (map plain_of) (dedup_is values_same ys zs kept) ∙ map-dedup ys ∙ ap (dedup is_same) up

-- a and b count each of these values alike
abbrev pub Agree : List Plain → List Plain → Value → Type 0
Agree a b x = count (plain_of x) a ≡ count (plain_of x) b

agrees_where_it_occurs : (a b : List Plain) (xs : List Value) → ((k : ℕ) (d : Value) → k < length xs → Agree a b (get_or xs k d)) → (v : Plain) → 0 < count v (map plain_of xs) → count v a ≡ count v b
agrees_where_it_occurs a b [] f v h = absurd (omega arith)
agrees_where_it_occurs a b (x ∷ xs) f v h =
    ⊎_elim
    (λ e. subst (λ w. count w a ≡ count w b) (same_from (plain_of x) v e) (f 0 x (omega arith)))
    (λ e. agrees_where_it_occurs a b xs (λ k d lt. f (suc k) d (omega arith)) v (omega (arith, count-cons v (plain_of x) (map plain_of xs), ap one_if e)))
    (cases_Bool (is_same (plain_of x) v))

pub same_from_each : (a b : List Plain) (xs : List Value) → map plain_of xs ≡ a → length a ≡ length b → ((k : ℕ) (d : Value) → k < length xs → Agree a b (get_or xs k d)) → IsSameBag a b
same_from_each a b xs is e f =
    same_from_length a b (record { at = λ v. ⊎_elim (λ some. omega (arith, agrees_where_it_occurs a b xs f v (omega (arith, ap (count v) is, some)))) (λ none. omega (arith, none)) (cases_lt 0 (count v a)) }) e

pub agree_more : (a b : List Plain) (xs : List Value) (i : ℕ) (x : Value) → i < length xs → x ≡ get_or xs i x → Agree a b x → ((k : ℕ) (d : Value) → k < i → Agree a b (get_or xs k d)) → (k : ℕ) (d : Value) → k < i + 1 → Agree a b (get_or xs k d)
agree_more a b xs i x lt at agrees f k d =
    below_more (λ j. Agree a b (get_or xs j d)) i (λ j h. f j d h) (subst (Agree a b) (get_or_read xs i x lt at d) agrees) k
