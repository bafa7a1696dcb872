-- The groups of an input depend on its bag alone.
use Rattle.std.proofs.Common.{◌≡◌, ℕ, List, [], ◌∷◌, map, Bool, cond, refl, ap, sym, ◌∙◌}
use Rattle.std.specs.Prelude.{Some}
use Rattle.std.specs.Option.{option_to_list}
use Rattle.std.specs.Ordering.{eq_by_cmp}
use Rattle.std.proofs.lemmas.Bool.{true≢false}
use Rattle.nf_value.specs.Plain.{Plain, list, plains_of}
use Rattle.nf_value.specs.Order.{value_cmp}
use Rattle.nf_bag.specs.Bag.{IsSameBag}
use Rattle.nf_bag.specs.Sorted.{sorted_of, distinct_of}
use Rattle.nf_opstream.specs.Push.{Push, IsSameInput}
use Rattle.nf_opjoin.specs.Pairing.{IsMatching}
use Rattle.nf_opjoin.specs.Tuples.{key_at, rest_at, same_key}
use Rattle.nf_opjoin.specs.Grouped.{keys_in, rests_with, group_of, groups, group}
use Rattle.nf_opjoin.proofs.Sums.{Sums, flat_alike}
use Rattle.nf_opjoin.proofs.Joins.{quiet}

map_alike : (f g : Plain → Plain) → ((k : Plain) → f k ≡ g k) → (ks : List Plain) → map f ks ≡ map g ks
map_alike f g h [] = refl
map_alike f g h (k ∷ ks) = (λ i. h k i ∷ map_alike f g h ks i)

module _ (sums : Sums) (sorts : (a : List Plain) → (b : List Plain) → IsSameBag a b → sorted_of a ≡ sorted_of b) (distincts : (a : List Plain) → (b : List Plain) → IsSameBag a b → distinct_of a ≡ distinct_of b) (n : ℕ) (sort : Bool) where
  keys_alike : (p q : List Push) → IsSameInput p q → IsSameBag (keys_in n p) (keys_in n q)
  keys_alike p q s = record {
    at = λ v. flat_alike sums (λ y. eq_by_cmp value_cmp y v) (λ x. option_to_list (key_at n x.item)) (λ x. option_to_list (key_at n x.item)) (λ x. refl) p q s;
  }

  rests_alike : (k : Plain) (p q : List Push) → IsSameInput p q → IsSameBag (rests_with n k p) (rests_with n k q)
  rests_alike k p q s = record {
    at = λ v. (
        let h : Push → List Plain = λ x. cond (same_key (Some k) (key_at n x.item)) (list (plains_of (rest_at n x.item)) ∷ []) [] in
        flat_alike sums (λ y. eq_by_cmp value_cmp y v) h h (λ x. refl) p q s);
  }

  groups_alike : (p q : List Push) → IsSameInput p q → groups n sort p ≡ groups n sort q
  groups_alike p q s =
      map_alike (λ k. group_of n sort k (sorted_of (rests_with n k p))) (λ k. group_of n sort k (sorted_of (rests_with n k q))) (λ k. ap (group_of n sort k) (sorts (rests_with n k p) (rests_with n k q) (rests_alike k p q s))) (distinct_of (keys_in n p))
      ∙ ap (map (λ k. group_of n sort k (sorted_of (rests_with n k q)))) (distincts (keys_in n p) (keys_in n q) (keys_alike p q s))

  pub group_matches : IsMatching (group n sort)
  group_matches = record {
    quiet = λ x. quiet (key_at n x.item) x.item;
    no_self = λ x. refl;
    itself = λ x y h. absurd (true≢false (sym h));
    alike = λ x y z h. refl;
    by_bag = λ p q s. groups_alike p q s;
  }
