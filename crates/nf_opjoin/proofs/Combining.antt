-- The pairs of `combine` in the order of arrival, and its state after one more push.
use Rattle.std.proofs.Common.{◌≡◌, ℕ, List, [], ◌∷◌, ◌++◌, Bool, true, false, cond, not, ◌&&◌, refl, ap, sym, ◌∙◌, subst, arith, inl, inr}
use Rattle.std.specs.Prelude.{◌==◌, nat_lt, count_by, Option, Some, None, unwrap_or, is_ok, Result, Ok, Err, IfOk, OnOk, IfSome}
use Rattle.std.specs.Ordering.{eq_by_cmp}
use Rattle.std.proofs.lemmas.Bool.{cases_Bool}
use Rattle.std.proofs.lemmas.Bool.Decides.{nat_tests}
use Rattle.std.proofs.lemmas.List.Sums.{sum_by-cons}
use Rattle.nf_value.specs.Plain.{Plain, null, list, plains_of}
use Rattle.nf_value.specs.View.{plain_of}
use Rattle.nf_value.specs.Order.{value_cmp}
use Rattle.nf_value.specs.declared.value.Value.{Value}
use Rattle.nf_bag.specs.declared.fault.OpFault.{OpFault}
use Rattle.nf_opstream.specs.Push.{Push}
use Rattle.nf_opstream.specs.Fault.{Fault, fault_of, not_a_tuple}
use Rattle.nf_opstream.specs.Promise.{HasFaulted, PushRefused}
use Rattle.nf_opjoin.specs.Pairing.{Due, and_then, gathered, first_of_its_kind}
use Rattle.nf_opjoin.specs.Tuples.{parts_of, key_at, key_or_null, rest_at, has_key, same_key, is_left, faces, meets}
use Rattle.nf_opjoin.specs.Combined.{tuple, combine, combine_row}
use Rattle.nf_opjoin.specs.After.{on_side}
use Rattle.nf_opjoin.specs.Held.{is_key, held_at}
use Rattle.nf_opjoin.specs.Listed.{pair_key, IsPaired, paired_as, all_paired}
use Rattle.nf_opjoin.specs.Kept.{paired_with, rest_listed, rests_in, IsCombineAfter}
use Rattle.nf_opjoin.specs.declared.combine.CombineState.{CombineState}
use Rattle.nf_opjoin.proofs.Joins.{keys_same, both}
use Rattle.nf_opjoin.proofs.Members.{value_itself}
use Rattle.nf_opjoin.proofs.Promised.{IsDue}
use Rattle.nf_opjoin.proofs.Listing.{items_of-plains_of, then_nothing, nothing_then, all_paired-append}
use Rattle.nf_opjoin.proofs.Entering.{and_true, and_false, key_turned, on_own, on_other}

no_pair : (by_first : Bool) (x y : Push) → faces x y ≡ false → (combine by_first).pair x y ≡ Ok []
no_pair true x y f = ap {B = Due} (λ b. cond (b && same_key (key_at 0 x.item) (key_at 0 y.item)) (tuple (key_or_null 0 x.item ∷ (rest_at 0 x.item ++ rest_at 0 y.item))) (Ok [])) f
no_pair false x y f = ap {B = Due} (λ b. cond b (tuple (parts_of x.item ++ parts_of y.item)) (Ok [])) f

no_twins : (p : List Push) → count_by (λ (y : Push). false) p ≡ 0
no_twins [] = refl
no_twins (y ∷ p) = omega (arith, sum_by-cons (λ (z : Push). 0) y p, no_twins p)

gathered_none : (h : Push → Due) → ((y : Push) → h y ≡ Ok []) → (p : List Push) → gathered h p ≡ Ok []
gathered_none h is [] = refl
gathered_none h is (y ∷ p) = (λ i. and_then (gathered_none h is p i) (is y i))

-- what one item gives with those that have its key is what it gives with all
gathered_all : (by_first b : Bool) (k : Plain) (g : Plain → Due) (h : Push → Due) → ((y : Push) → h y ≡ cond (paired_with by_first b k y) (g (rest_listed by_first y)) (Ok [])) → (p : List Push) → gathered h p ≡ all_paired g (rests_in by_first b k p)
gathered_all by_first b k g h is [] = refl
gathered_all by_first b k g h is (y ∷ p) =
    let rests = rests_in by_first b k p in
    let one = rest_listed by_first y in
    elim (cases_Bool (paired_with by_first b k y)) [
      | inl e ↦ (λ i. and_then (gathered_all by_first b k g h is p i) ((is y ∙ ap {B = Due} (λ c. cond c (g one) (Ok [])) e) i)) ∙ sym (all_paired-append g rests one) ∙ sym (ap (λ c. all_paired g (cond c (rests ++ one ∷ []) rests)) e)
      | inr e ↦ (λ i. and_then (gathered_all by_first b k g h is p i) ((is y ∙ ap {B = Due} (λ c. cond c (g one) (Ok [])) e) i)) ∙ then_nothing (all_paired g rests) ∙ sym (ap (λ c. all_paired g (cond c (rests ++ one ∷ []) rests)) e)
    ]

-- the key of an item that is paired with all
key_null : (k : Plain) → Some null ≡ Some k → k ≡ null
key_null k e = cc

keyed_fine : (by_first : Bool) (v k : Plain) → pair_key by_first v ≡ Some k → cond by_first (has_key (key_at 0 v) v) (Ok []) ≡ Ok []
keyed_fine true v k e = ap (λ o. has_key o v) e
keyed_fine false v k e = refl

module _ (x : Push) (k : Plain) (r : List Plain) where
  left_pair : (by_first : Bool) → IsPaired by_first x.item k r → is_left x ≡ true → (y : Push) → (combine by_first).pair x y ≡ cond (paired_with by_first false k y) (paired_as by_first true k r (rest_listed by_first y)) (Ok [])
  left_pair true is l y =
      (λ i. cond ((l i && not (is_left y)) && same_key (is.key i) (key_at 0 y.item)) (tuple (unwrap_or (is.key i) null ∷ (is.rest i ++ rest_at 0 y.item))) (Ok []))
      ∙ ap (λ vs. cond (paired_with true false k y) (tuple (k ∷ (r ++ vs))) (Ok [])) (sym (items_of-plains_of (rest_at 0 y.item)))
  left_pair false is l y =
      let any : not (is_left y) ≡ paired_with false false k y = sym (and_true (not (is_left y))) ∙ ap (λ c. not (is_left y) && c) (sym (ap (λ z. eq_by_cmp value_cmp z null) (key_null k is.key) ∙ value_itself null)) in
      (λ i. cond (l i && not (is_left y)) (tuple (is.rest i ++ parts_of y.item)) (Ok []))
      ∙ (λ i. cond (any i) (tuple (r ++ sym (items_of-plains_of (parts_of y.item)) i)) (Ok []))

  right_pair : (by_first : Bool) → IsPaired by_first x.item k r → is_left x ≡ false → (y : Push) → (combine by_first).pair y x ≡ cond (paired_with by_first true k y) (paired_as by_first false k r (rest_listed by_first y)) (Ok [])
  right_pair true is l y = elim (cases_Bool (paired_with true true k y)) [
    | inl e ↦ (
        let t = both (on_side true y) (same_key (Some k) (key_at 0 y.item)) e in
        let own : key_at 0 y.item ≡ Some k = sym (keys_same (Some k) (key_at 0 y.item) t.1) in
        (λ i. cond ((t.0 i && not (l i)) && same_key (own i) (is.key i)) (tuple (unwrap_or (own i) null ∷ (rest_at 0 y.item ++ is.rest i))) (Ok []))
        ∙ ap {B = Due} (λ c. cond c (tuple (k ∷ (rest_at 0 y.item ++ r))) (Ok [])) (value_itself k)
        ∙ ap (λ vs. tuple (k ∷ (vs ++ r))) (sym (items_of-plains_of (rest_at 0 y.item)))
        ∙ sym (ap {B = Due} (λ c. cond c (paired_as true false k r (rest_listed true y)) (Ok [])) e))
    | inr e ↦ (
        let no : meets 0 y x ≡ false = (λ i. (is_left y && not (l i)) && same_key (key_at 0 y.item) (is.key i)) ∙ (λ i. and_true (is_left y) i && key_turned (key_at 0 y.item) (Some k) i) ∙ e in
        ap {B = Due} (λ c. cond c (tuple (key_or_null 0 y.item ∷ (rest_at 0 y.item ++ rest_at 0 x.item))) (Ok [])) no ∙ sym (ap {B = Due} (λ c. cond c (paired_as true false k r (rest_listed true y)) (Ok [])) e))
  ]
  right_pair false is l y =
      let any : (is_left y && true) ≡ paired_with false true k y = ap (λ c. is_left y && c) (sym (ap (λ z. eq_by_cmp value_cmp z null) (key_null k is.key) ∙ value_itself null)) in
      (λ i. cond (is_left y && not (l i)) (tuple (parts_of y.item ++ is.rest i)) (Ok []))
      ∙ (λ i. cond (any i) (tuple (sym (items_of-plains_of (parts_of y.item)) i ++ r)) (Ok []))

  module _ (by_first : Bool) (is : IsPaired by_first x.item k r) (p : List Push) where
    alone : first_of_its_kind (combine by_first) p x ≡ Ok []
    alone = ap {B = Due} (λ n. cond (nat_lt 0 n) (Err ((combine by_first).repeated x)) (Ok [])) (no_twins p)

    gives_both : (s t : Due) → gathered ((combine by_first).pair x) p ≡ s → gathered (λ y. (combine by_first).pair y x) p ≡ t → (combine_row by_first).gives p x ≡ and_then s t
    gives_both s t h j =
        (λ i. and_then (keyed_fine by_first x.item k is.key i) (and_then (alone i) (and_then (h i) (j i)))) ∙ nothing_then (and_then (Ok []) (and_then s t)) ∙ nothing_then (and_then s t)

    pub left_gives : is_left x ≡ true → all_paired (paired_as by_first true k r) (rests_in by_first false k p) ≡ (combine_row by_first).gives p x
    left_gives l =
        let s = all_paired (paired_as by_first true k r) (rests_in by_first false k p) in
        let none = gathered_none (λ y. (combine by_first).pair y x) (λ y. no_pair by_first y x (ap (λ c. is_left y && not c) l ∙ and_false (is_left y))) p in
        sym (gives_both s (Ok []) (gathered_all by_first false k (paired_as by_first true k r) ((combine by_first).pair x) (left_pair by_first is l) p) none ∙ then_nothing s)

    pub right_gives : is_left x ≡ false → all_paired (paired_as by_first false k r) (rests_in by_first true k p) ≡ (combine_row by_first).gives p x
    right_gives l =
        let s = all_paired (paired_as by_first false k r) (rests_in by_first true k p) in
        let none = gathered_none ((combine by_first).pair x) (λ y. no_pair by_first x y (ap (λ c. c && not (is_left y)) l)) p in
        sym (gives_both (Ok []) s none (gathered_all by_first true k (paired_as by_first false k r) (λ y. (combine by_first).pair y x) (right_pair by_first is l) p) ∙ nothing_then s)

-- an item that is no tuple
stray_gives : (by_first : Bool) (x : Push) (p : List Push) → pair_key by_first x.item ≡ None → (combine_row by_first).gives p x ≡ Err (not_a_tuple x.item)
stray_gives true x p e = ap (λ o. and_then (has_key o x.item) (and_then (first_of_its_kind (combine true) p x) (and_then (gathered ((combine true).pair x) p) (gathered (λ y. (combine true).pair y x) p)))) e
stray_gives false x p e = absurd (let z : Some null ≡ None = e in cc)

refused : (by_first : Bool) (p : List Push) (x : Push) (o : Option Fault) → IfSome o (λ g. (pair_key by_first x.item ≡ None) × (g ≡ not_a_tuple x.item)) → ((g : Fault) → (combine_row by_first).gives p x ≡ Err g → HasFaulted (combine_row by_first) p x g)
    → IfSome o (HasFaulted (combine_row by_first) p x)
refused by_first p x None h faults = tt
refused by_first p x (Some g) h faults = subst (HasFaulted (combine_row by_first) p x) (sym h.1) (faults (not_a_tuple x.item) (stray_gives by_first x p h.0))

pub refused_stray : (by_first kept : Bool) → kept ≡ by_first → (p : List Push) (x : Push) (f : OpFault) → IfSome (fault_of f) (λ g. (pair_key kept x.item ≡ None) × (g ≡ not_a_tuple x.item))
    → ((g : Fault) → (combine_row by_first).gives p x ≡ Err g → HasFaulted (combine_row by_first) p x g) → PushRefused (combine_row by_first) p x f
refused_stray by_first kept is p x f h faults = refused by_first p x (fault_of f) (subst (λ b. IfSome (fault_of f) (λ g. (pair_key b x.item ≡ None) × (g ≡ not_a_tuple x.item))) is h) faults

pub is_zero : (n : ℕ) → n ≡ 0 → (n == 0) ≡ true
is_zero n h = grind (arith, nat_tests)

pub not_zero : (n : ℕ) → (n ≡ 0 → ⊥) → (n == 0) ≡ false
not_zero n h = grind (arith, nat_tests)

abbrev Entries : Type 0
Entries = List (Value × List Plain)

-- a map with one rest more
abbrev pub IsPut : Value → List Plain → Entries → Entries → Type 0
IsPut key r old new = (k : Plain) → held_at k new ≡ cond (is_key k key) (Some (unwrap_or (held_at k old) [] ++ list (plains_of r) ∷ [])) (held_at k old)

module _ (by_first : Bool) (p : List Push) (x : Push) (key : Value) (r : List Plain) (paired : IsPaired by_first x.item (plain_of key) r) (b : Bool) (l : is_left x ≡ b) where
  own_more : (old new : Entries) → ((k : Plain) → unwrap_or (held_at k old) [] ≡ rests_in by_first b k p) → IsPut key r old new → (k : Plain) → unwrap_or (held_at k new) [] ≡ rests_in by_first b k (x ∷ p)
  own_more old new was put k =
      let test : paired_with by_first b k x ≡ is_key k key = (λ i. on_own b x l i && same_key (Some k) (paired.key i)) in
      ap (λ o. unwrap_or o []) (put k) ∙ by (is_key k key) ∙ sym (λ i. cond (test i) (rests_in by_first b k p ++ list (plains_of (paired.rest i)) ∷ []) (rests_in by_first b k p))
    where
      by : (c : Bool) → unwrap_or (cond c (Some (unwrap_or (held_at k old) [] ++ list (plains_of r) ∷ [])) (held_at k old)) [] ≡ cond c (rests_in by_first b k p ++ list (plains_of r) ∷ []) (rests_in by_first b k p)
      by true = ap (λ vs. vs ++ list (plains_of r) ∷ []) (was k)
      by false = was k

  other_more : (held : Entries) → ((k : Plain) → unwrap_or (held_at k held) [] ≡ rests_in by_first (not b) k p) → (k : Plain) → unwrap_or (held_at k held) [] ≡ rests_in by_first (not b) k (x ∷ p)
  other_more held was k =
      was k ∙ sym (ap (λ c. cond (c && same_key (Some k) (pair_key by_first x.item)) (rests_in by_first (not b) k p ++ rest_listed by_first x ∷ []) (rests_in by_first (not b) k p)) (on_other b x l))

module _ (by_first : Bool) (p : List Push) (s : CombineState) (after : IsCombineAfter by_first p s) (x : Push) (key : Value) (r : List Plain) (is_paired : IsPaired s.by_first x.item (plain_of key) r) where
  paired : IsPaired by_first x.item (plain_of key) r
  paired = subst (λ b. IsPaired b x.item (plain_of key) r) after.by is_paired

  pub left_due : is_left x ≡ true → all_paired (paired_as s.by_first true (plain_of key) r) (unwrap_or (held_at (plain_of key) s.right.entries) []) ≡ (combine_row by_first).gives p x
  left_due l = (λ i. all_paired (paired_as (after.by i) true (plain_of key) r) (after.right (plain_of key) i)) ∙ left_gives x (plain_of key) r by_first paired p l

  pub right_due : is_left x ≡ false → all_paired (paired_as s.by_first false (plain_of key) r) (unwrap_or (held_at (plain_of key) s.left.entries) []) ≡ (combine_row by_first).gives p x
  right_due l = (λ i. all_paired (paired_as (after.by i) false (plain_of key) r) (after.left (plain_of key) i)) ∙ right_gives x (plain_of key) r by_first paired p l

  pub left_after : {T : Type 0} (items : T → List (ℕ × Value)) (t : CombineState) → is_left x ≡ true → (o : Result T OpFault) → IsDue items o (all_paired (paired_as s.by_first true (plain_of key) r) (unwrap_or (held_at (plain_of key) s.right.entries) []))
      → OnOk o (IsPut key r s.left.entries t.left.entries) → t.right ≡ s.right → t.by_first ≡ s.by_first → IfOk o (λ _. IsCombineAfter by_first (x ∷ p) t)
  left_after items t l (Err f) h put right by = tt
  left_after items t l (Ok u) h put right by = record {
    fine = (ap is_ok (sym (left_due l) ∙ h), after.fine);
    by = by ∙ after.by;
    left = own_more by_first p x key r paired true l s.left.entries t.left.entries after.left put;
    right = λ k. ap (λ m. unwrap_or (held_at k m.entries) []) right ∙ other_more by_first p x key r paired true l s.right.entries after.right k;
  }

  pub right_after : {T : Type 0} (items : T → List (ℕ × Value)) (t : CombineState) → is_left x ≡ false → (o : Result T OpFault) → IsDue items o (all_paired (paired_as s.by_first false (plain_of key) r) (unwrap_or (held_at (plain_of key) s.left.entries) []))
      → OnOk o (IsPut key r s.right.entries t.right.entries) → t.left ≡ s.left → t.by_first ≡ s.by_first → IfOk o (λ _. IsCombineAfter by_first (x ∷ p) t)
  right_after items t l (Err f) h put left by = tt
  right_after items t l (Ok u) h put left by = record {
    fine = (ap is_ok (sym (right_due l) ∙ h), after.fine);
    by = by ∙ after.by;
    left = λ k. ap (λ m. unwrap_or (held_at k m.entries) []) left ∙ other_more by_first p x key r paired false l s.left.entries after.left k;
    right = own_more by_first p x key r paired false l s.right.entries t.right.entries after.right put;
  }
