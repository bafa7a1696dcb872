-- A list and the list of its distinct values in their order pass a test alike.
use Rattle.std.proofs.Common.{◌≡◌, List, [], ◌∷◌, Bool, true, false, cond, refl, ap, sym, ◌∙◌}
use Rattle.std.specs.Prelude.{◌||◌, if◌then◌else◌}
use Rattle.std.specs.List.{list_any, dedup, dedup_from}
use Rattle.std.specs.Ordering.{eq_by_cmp, is_gt}
use Rattle.std.proofs.lemmas.Map.Views.{tells_apart}
use Rattle.nf_value.specs.Plain.{Plain}
use Rattle.nf_value.specs.Order.{value_cmp}
use Rattle.nf_value.specs.Identity.{value_cmp_exact}
use Rattle.nf_bag.specs.Sorted.{inserted, sorted_of, distinct_of}

or_swap : (a b c : Bool) → (a || (b || c)) ≡ (b || (a || c))
or_swap true true c = refl
or_swap true false c = refl
or_swap false true c = refl
or_swap false false c = refl

or_again : (a c : Bool) → (a || (a || c)) ≡ (a || c)
or_again true c = refl
or_again false c = refl

any-inserted : (test : Plain → Bool) (v : Plain) (xs : List Plain) → list_any test (inserted v xs) ≡ (test v || list_any test xs)
any-inserted test v [] = refl
any-inserted test v (x ∷ xs) =
    elim (is_gt (value_cmp v x)) as (λ b. list_any test (if b then x ∷ inserted v xs else v ∷ x ∷ xs) ≡ (test v || (test x || list_any test xs))) [
      | true ↦ ap (λ b. test x || b) (any-inserted test v xs) ∙ or_swap (test x) (test v) (list_any test xs)
      | false ↦ refl
    ]

any-sorted_of : (test : Plain → Bool) (xs : List Plain) → list_any test (sorted_of xs) ≡ list_any test xs
any-sorted_of test [] = refl
any-sorted_of test (x ∷ xs) = any-inserted test x (sorted_of xs) ∙ ap (λ b. test x || b) (any-sorted_of test xs)

abbrev is_same : Plain → Plain → Bool
is_same = eq_by_cmp value_cmp

same_from : (x y : Plain) → is_same x y ≡ true → x ≡ y
same_from = tells_apart value_cmp_exact

any-dedup_from : (test : Plain → Bool) (k : Plain) (xs : List Plain) → list_any test (dedup_from is_same k xs) ≡ (test k || list_any test xs)
any-dedup_from test k [] = refl
any-dedup_from test k (x ∷ xs) =
    elim (is_same x k) as (λ b. is_same x k ≡ b → list_any test (cond b (dedup_from is_same k xs) (k ∷ dedup_from is_same x xs)) ≡ (test k || (test x || list_any test xs))) [
      | true ↦ λ e. any-dedup_from test k xs ∙ sym (ap (λ y. test k || (test y || list_any test xs)) (same_from x k e) ∙ or_again (test k) (list_any test xs))
      | false ↦ λ e. ap (λ b. test k || b) (any-dedup_from test x xs)
    ] refl

any-dedup : (test : Plain → Bool) (xs : List Plain) → list_any test (dedup is_same xs) ≡ list_any test xs
any-dedup test [] = refl
any-dedup test (x ∷ xs) = any-dedup_from test x xs

pub any-distinct_of : (test : Plain → Bool) (xs : List Plain) → list_any test (distinct_of xs) ≡ list_any test xs
any-distinct_of test xs = any-dedup test (sorted_of xs) ∙ any-sorted_of test xs
