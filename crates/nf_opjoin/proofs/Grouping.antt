-- The state of `groupTuple` after one more push, and what it emits.
use Rattle.std.proofs.Common.{◌≡◌, ℕ, ◌+◌, min, List, [], ◌∷◌, ◌++◌, map, Bool, true, false, cond, refl, ap, sym, ◌∙◌, subst, arith, inl, inr}
use Rattle.std.specs.Prelude.{nat_lt, count_by, Option, Some, None, is_some, unwrap_or, is_ok, Ok, Err, IfSome}
use Rattle.std.specs.List.{AllByRecursion}
use Rattle.std.specs.List.Sorted.{IsStrictlySortedBy}
use Rattle.std.specs.Option.{option_to_list}
use Rattle.std.specs.Ordering.{eq_by_cmp, is_gt, is_eq}
use Rattle.std.specs.declared.cmp.Ordering.TheVariants.{Less}
use Rattle.std.specs.BTreeMap.{IsOrdered}
use Rattle.std.specs.Map.{keys_of}
use Rattle.std.proofs.lemmas.Bool.{cases_Bool}
use Rattle.std.proofs.lemmas.Bool.Decides.{nat_tests}
use Rattle.std.proofs.lemmas.List.Sums.{sum_by-cons}
use Rattle.std.proofs.lemmas.Map.Keys.{sorted_head, sorted_tail}
use Rattle.nf_value.specs.Plain.{Plain, list, plains_of}
use Rattle.nf_value.specs.View.{plain_of}
use Rattle.nf_value.specs.Order.{value_cmp}
use Rattle.nf_value.specs.declared.value.Value.{Value}
use Rattle.nf_bag.specs.Bag.{count, IsSameBag}
use Rattle.nf_bag.specs.Sorted.{IsAboveNone, IsRising, IsBelowAll, IsStrictlyRising, sorted_of, distinct_of}
use Rattle.nf_bag.specs.declared.fault.OpFault.{OpFault}
use Rattle.nf_opstream.specs.Push.{Push}
use Rattle.nf_opstream.specs.Fault.{Fault, fault_of, not_a_tuple}
use Rattle.nf_opstream.specs.Promise.{emits_of, HasFaulted, PushRefused}
use Rattle.nf_opjoin.specs.Pairing.{Due, and_then, gathered, first_of_its_kind}
use Rattle.nf_opjoin.specs.Tuples.{key_at, has_key, keyed, same_key}
use Rattle.nf_opjoin.specs.Pairing.{given}
use Rattle.nf_opjoin.specs.Entered.{by_order, IsSplit}
use Rattle.nf_opjoin.specs.Grouped.{keys_in, rests_with, group_of, groups, group, group_row}
use Rattle.nf_opjoin.specs.Held.{is_key, held_at, groups_of}
use Rattle.nf_opjoin.specs.Kept.{IsGroupAfter}
use Rattle.nf_opjoin.specs.declared.group.GroupState.{GroupState}
use Rattle.nf_opjoin.proofs.Sums.{count_by-append}
use Rattle.nf_opjoin.proofs.Members.{same_value, value_itself}
use Rattle.nf_opjoin.proofs.Entering.{key_turned}
use Rattle.nf_opjoin.proofs.Listing.{then_nothing}

abbrev Entries : Type 0
Entries = List (Value × List Plain)

abbrev one_if : Bool → ℕ
one_if b = cond b 1 0

-- what an item gives: nothing, or that it is no tuple
no_twins : (p : List Push) → count_by (λ (y : Push). false) p ≡ 0
no_twins [] = refl
no_twins (y ∷ p) = omega (arith, sum_by-cons (λ (z : Push). 0) y p, no_twins p)

gathers_none : (p : List Push) → gathered (λ y. Ok []) p ≡ Ok []
gathers_none [] = refl
gathers_none (y ∷ p) = ap (λ r. and_then r (Ok [])) (gathers_none p)

pub group_gives : (n : ℕ) (sort : Bool) (p : List Push) (x : Push) → (group_row n sort).gives p x ≡ keyed n x
group_gives n sort p x =
    let alone : first_of_its_kind (group n sort) p x ≡ Ok [] = ap {B = Due} (λ m. cond (nat_lt 0 m) (Err ((group n sort).repeated x)) (Ok [])) (no_twins p) in
    (λ i. and_then (keyed n x) (and_then (alone i) (and_then (gathers_none p i) (gathers_none p i)))) ∙ then_nothing (keyed n x)

pub stray_due : (n : ℕ) (sort : Bool) (p : List Push) (x : Push) → key_at n x.item ≡ None → (group_row n sort).gives p x ≡ Err (not_a_tuple x.item)
stray_due n sort p x e = group_gives n sort p x ∙ ap (λ o. has_key o x.item) e

pub nothing_due : (n : ℕ) (sort : Bool) (p : List Push) (x : Push) (k : Plain) → key_at n x.item ≡ Some k → (group_row n sort).gives p x ≡ Ok []
nothing_due n sort p x k e = group_gives n sort p x ∙ ap (λ o. has_key o x.item) e

pub refused_stray : (n : ℕ) (sort : Bool) (p : List Push) (x : Push) (f : OpFault) → key_at n x.item ≡ None → fault_of f ≡ Some (not_a_tuple x.item)
    → ((g : Fault) → (group_row n sort).gives p x ≡ Err g → HasFaulted (group_row n sort) p x g) → PushRefused (group_row n sort) p x f
refused_stray n sort p x f none is faults = subst (λ o. IfSome o (HasFaulted (group_row n sort) p x)) (sym is) (faults (not_a_tuple x.item) (stray_due n sort p x none))

pub emits_none : (n : ℕ) (sort : Bool) (p : List Push) (s : GroupState) → IsGroupAfter n sort p s → (x : Push) (key : Value) (r : List Plain) → IsSplit s.by x.item (plain_of key) r → (es : List (ℕ × Value)) → es ≡ [] → (group_row n sort).gives p x ≡ Ok (emits_of es)
emits_none n sort p s after x key r split es none = nothing_due n sort p x (plain_of key) (ap (λ m. key_at m x.item) (sym after.by) ∙ split.key) ∙ ap (λ z. Ok (emits_of z)) (sym none)

-- one more item
some_more : (b : Bool) (m : ℕ) → cond b true (nat_lt 0 m) ≡ nat_lt 0 (one_if b + m)
some_more true m = grind (arith, nat_tests)
some_more false m = let e : m ≡ 0 + m = omega arith in ap (nat_lt 0) e

is_some-cond : {A : Type 0} (b : Bool) (x : A) (o : Option A) → is_some (cond b (Some x) o) ≡ cond b true (is_some o)
is_some-cond true x o = refl
is_some-cond false x o = refl

module _ (n : ℕ) (x : Push) (key : Value) (r : List Plain) (split : IsSplit n x.item (plain_of key) r) where
  keys_more : (k : Plain) (p : List Push) → count k (keys_in n (x ∷ p)) ≡ one_if (is_key k key) + count k (keys_in n p)
  keys_more k p =
      let first : keys_in n (x ∷ p) ≡ plain_of key ∷ keys_in n p = ap (λ o. option_to_list o ++ keys_in n p) split.key in
      ap (count k) first ∙ sum_by-cons (λ y. one_if (eq_by_cmp value_cmp y k)) (plain_of key) (keys_in n p) ∙ ap (λ b. one_if b + count k (keys_in n p)) (key_turned (Some (plain_of key)) (Some k))

  rests_more : (k : Plain) (p : List Push) → rests_with n k (x ∷ p) ≡ cond (is_key k key) (list (plains_of r) ∷ []) [] ++ rests_with n k p
  rests_more k p = (λ i. cond (same_key (Some k) (split.key i)) (list (plains_of (split.rest i)) ∷ []) [] ++ rests_with n k p)

  held_rests : (k : Plain) (p : List Push) (o : Option (List Plain)) → IsSameBag (unwrap_or o []) (rests_with n k p)
      → IsSameBag (unwrap_or (cond (is_key k key) (Some (unwrap_or o [] ++ list (plains_of r) ∷ [])) o) []) (rests_with n k (x ∷ p))
  held_rests k p o same = elim (cases_Bool (is_key k key)) [
    | inl t ↦ record {
      at = λ v. (
          let one : unwrap_or (cond (is_key k key) (Some (unwrap_or o [] ++ list (plains_of r) ∷ [])) o) [] ≡ unwrap_or o [] ++ list (plains_of r) ∷ [] = ap {B = List Plain} (λ b. unwrap_or (cond b (Some (unwrap_or o [] ++ list (plains_of r) ∷ [])) o) []) t in
          let two : rests_with n k (x ∷ p) ≡ list (plains_of r) ∷ rests_with n k p = rests_more k p ∙ ap {B = List Plain} (λ b. cond b (list (plains_of r) ∷ []) [] ++ rests_with n k p) t in
          let test : Plain → Bool = λ y. eq_by_cmp value_cmp y v in
          omega (
            arith,
            ap (count v) one,
            ap (count v) two,
            count_by-append test (unwrap_or o []) (list (plains_of r) ∷ []),
            sum_by-cons (λ y. one_if (test y)) (list (plains_of r)) (rests_with n k p),
            sum_by-cons (λ y. one_if (test y)) (list (plains_of r)) [],
            same.at v,
          ));
    }
    | inr f ↦ record {
      at = λ v. (
          let one : unwrap_or (cond (is_key k key) (Some (unwrap_or o [] ++ list (plains_of r) ∷ [])) o) [] ≡ unwrap_or o [] = ap {B = List Plain} (λ b. unwrap_or (cond b (Some (unwrap_or o [] ++ list (plains_of r) ∷ [])) o) []) f in
          let two : rests_with n k (x ∷ p) ≡ rests_with n k p = rests_more k p ∙ ap {B = List Plain} (λ b. cond b (list (plains_of r) ∷ []) [] ++ rests_with n k p) f in
          omega (arith, ap (count v) one, ap (count v) two, same.at v));
    }
  ]

-- the state once an item is put in
pub group_more : (n : ℕ) (sort : Bool) (p : List Push) (s t : GroupState) → IsGroupAfter n sort p s → (x : Push) (key : Value) (r : List Plain) → IsSplit s.by x.item (plain_of key) r
    → ((k : Plain) → held_at k t.groups.entries ≡ cond (is_key k key) (Some (unwrap_or (held_at k s.groups.entries) [] ++ list (plains_of r) ∷ [])) (held_at k s.groups.entries)) → IsOrdered by_order t.groups → t.by ≡ s.by → t.sort ≡ s.sort → IsGroupAfter n sort (x ∷ p) t
group_more n sort p s t after x key r is_split held ordered by kept =
    let split : IsSplit n x.item (plain_of key) r = subst (λ m. IsSplit m x.item (plain_of key) r) after.by is_split in
    record {
      fine = (ap is_ok (nothing_due n sort p x (plain_of key) split.key), after.fine);
      by = by ∙ after.by;
      sorts = kept ∙ after.sorts;
      ordered = ordered;
      keys = λ k. (
          let some = unwrap_or (held_at k s.groups.entries) [] ++ list (plains_of r) ∷ [] in
          ap is_some (held k) ∙ is_some-cond (is_key k key) some (held_at k s.groups.entries) ∙ ap (cond (is_key k key) true) (after.keys k) ∙ some_more (is_key k key) (count k (keys_in n p)) ∙ ap (nat_lt 0) (sym (keys_more n x key r split k p)));
      rests = λ k. subst (λ o. IsSameBag (unwrap_or o []) (rests_with n k (x ∷ p))) (sym (held k)) (held_rests n x key r split k p (held_at k s.groups.entries) (after.rests k));
    }

-- the keys of a map in order
abbrev keys_at : Entries → List Plain
keys_at es = map (λ e. plain_of e.0) es

below_all : (k : Value) (es : Entries) → AllByRecursion (λ q. by_order k q ≡ Less) (keys_of es) → IsBelowAll (plain_of k) (keys_at es)
below_all k [] h = tt
below_all k (e ∷ es) h = (h.0, below_all k es h.1)

keys_rise : (es : Entries) → IsStrictlySortedBy by_order (keys_of es) → IsStrictlyRising (keys_at es)
keys_rise [] h = tt
keys_rise (e ∷ es) h = (below_all e.0 es (sorted_head by_order e.0 (keys_of es) h), keys_rise es (sorted_tail by_order e.0 (keys_of es) h))

above_none : (k : Plain) (vs : List Plain) → IsBelowAll k vs → IsAboveNone k vs
above_none k [] h = tt
above_none k (v ∷ vs) h = (ap is_gt h.0, above_none k vs h.1)

rises : (vs : List Plain) → IsStrictlyRising vs → IsRising vs
rises [] h = tt
rises (v ∷ vs) h = (above_none v vs h.0, rises vs h.1)

-- a key below all is none of them
not_less : (k v : Plain) → value_cmp k v ≡ Less → eq_by_cmp value_cmp k v ≡ false
not_less k v h = ap is_eq h

none_held : (k : Plain) (es : Entries) → IsBelowAll k (keys_at es) → held_at k es ≡ None
none_held k [] h = refl
none_held k (e ∷ es) h = ap {B = Option (List Plain)} (λ b. cond b (Some e.1) (held_at k es)) (not_less k (plain_of e.0) h.0) ∙ none_held k es h.1

none_counted : (k : Plain) (es : Entries) → held_at k es ≡ None → count k (keys_at es) ≡ 0
none_counted k [] h = refl
none_counted k (e ∷ es) h = elim (cases_Bool (is_key k e.0)) [
  | inl t ↦ absurd (let z : Some e.1 ≡ None = sym (ap {B = Option (List Plain)} (λ b. cond b (Some e.1) (held_at k es)) t) ∙ h in cc)
  | inr f ↦ (
      let rest : held_at k es ≡ None = sym (ap {B = Option (List Plain)} (λ b. cond b (Some e.1) (held_at k es)) f) ∙ h in
      let no : eq_by_cmp value_cmp (plain_of e.0) k ≡ false = key_turned (Some (plain_of e.0)) (Some k) ∙ f in
      omega (arith, none_counted k es rest, sum_by-cons (λ y. one_if (eq_by_cmp value_cmp y k)) (plain_of e.0) (keys_at es), ap one_if no))
]

keys_counted : (k : Plain) (es : Entries) → IsStrictlyRising (keys_at es) → count k (keys_at es) ≡ one_if (is_some (held_at k es))
keys_counted k [] h = refl
keys_counted k (e ∷ es) h = elim (cases_Bool (is_key k e.0)) [
  | inl t ↦ (
      let same : k ≡ plain_of e.0 = same_value k (plain_of e.0) t in
      let none : held_at k es ≡ None = none_held k es (subst (λ z. IsBelowAll z (keys_at es)) (sym same) h.0) in
      let yes : eq_by_cmp value_cmp (plain_of e.0) k ≡ true = key_turned (Some (plain_of e.0)) (Some k) ∙ t in
      omega (
        arith,
        none_counted k es none,
        sum_by-cons (λ y. one_if (eq_by_cmp value_cmp y k)) (plain_of e.0) (keys_at es),
        ap one_if yes,
        ap {B = ℕ} (λ b. one_if (is_some (cond b (Some e.1) (held_at k es)))) t,
      ))
  | inr f ↦ (
      let no : eq_by_cmp value_cmp (plain_of e.0) k ≡ false = key_turned (Some (plain_of e.0)) (Some k) ∙ f in
      omega (
        arith,
        keys_counted k es h.1,
        sum_by-cons (λ y. one_if (eq_by_cmp value_cmp y k)) (plain_of e.0) (keys_at es),
        ap one_if no,
        ap {B = ℕ} (λ b. one_if (is_some (cond b (Some e.1) (held_at k es)))) f,
      ))
]

at_most_one : (m : ℕ) → one_if (nat_lt 0 m) ≡ min m 1
at_most_one m = grind (arith, nat_tests)

-- a map of functions that agree on the entries
groups_alike : (n : ℕ) (sort : Bool) (p : List Push) (es : Entries) → IsStrictlyRising (keys_at es) → ((k : Plain) (rs : List Plain) → held_at k es ≡ Some rs → sorted_of rs ≡ sorted_of (rests_with n k p))
    → groups_of n sort es ≡ map (λ k. group_of n sort k (sorted_of (rests_with n k p))) (keys_at es)
groups_alike n sort p [] up h = refl
groups_alike n sort p (e ∷ es) up h =
    let here : held_at (plain_of e.0) (e ∷ es) ≡ Some e.1 = ap {B = Option (List Plain)} (λ b. cond b (Some e.1) (held_at (plain_of e.0) es)) (value_itself (plain_of e.0)) in
    (λ i. group_of n sort (plain_of e.0) (h (plain_of e.0) e.1 here i) ∷ groups_alike n sort p es up.1 later i)
  where
    later : (k : Plain) (rs : List Plain) → held_at k es ≡ Some rs → sorted_of rs ≡ sorted_of (rests_with n k p)
    later k rs found = elim (cases_Bool (is_key k e.0)) [
      | inl t ↦ absurd (
          let same : k ≡ plain_of e.0 = same_value k (plain_of e.0) t in
          let none : held_at k es ≡ None = none_held k es (subst (λ z. IsBelowAll z (keys_at es)) (sym same) up.0) in
          let z : None ≡ Some rs = sym none ∙ found in
          cc)
      | inr f ↦ h k rs (ap {B = Option (List Plain)} (λ b. cond b (Some e.1) (held_at k es)) f ∙ found)
    ]

module _ (one_list : (a : List Plain) → (b : List Plain) → IsRising a → IsRising b → IsSameBag a b → a ≡ b) (sorts : (a : List Plain) → (b : List Plain) → IsSameBag a b → sorted_of a ≡ sorted_of b) (distinct_rises : (a : List Plain) → IsStrictlyRising (distinct_of a)) (once : (v : Plain) → (a : List Plain) → count v (distinct_of a) ≡ min (count v a) 1) where
  pub groups_due : (n : ℕ) (sort : Bool) (p : List Push) (s : GroupState) → IsGroupAfter n sort p s → groups_of n sort s.groups.entries ≡ groups n sort p
  groups_due n sort p s after =
      let es = s.groups.entries in
      let up : IsStrictlyRising (keys_at es) = keys_rise es after.ordered in
      let same : IsSameBag (keys_at es) (distinct_of (keys_in n p)) = record {
        at = λ k. keys_counted k es up ∙ ap one_if (after.keys k) ∙ at_most_one (count k (keys_in n p)) ∙ sym (once k (keys_in n p));
      } in
      let keys : keys_at es ≡ distinct_of (keys_in n p) = one_list (keys_at es) (distinct_of (keys_in n p)) (rises (keys_at es) up) (rises (distinct_of (keys_in n p)) (distinct_rises (keys_in n p))) same in
      groups_alike n sort p es up (λ k rs found. sorts rs (rests_with n k p) (subst (λ o. IsSameBag (unwrap_or o []) (rests_with n k p)) found (after.rests k)))
      ∙ ap (map (λ k. group_of n sort k (sorted_of (rests_with n k p)))) keys

  -- what is given at the close
  pub given_due : (n : ℕ) (sort : Bool) (p : List Push) (s : GroupState) → IsGroupAfter n sort p s → (held : Entries) → held ≡ s.groups.entries → (none lists : List Value) → none ≡ [] → (m : ℕ) (b : Bool) → m ≡ s.by → b ≡ s.sort
      → map plain_of lists ≡ map plain_of none ++ groups_of m b held → (vs : List Plain) → vs ≡ map plain_of lists → given vs ≡ (group_row n sort).ends p
  given_due n sort p s after held was none lists empty m b at kept is vs same =
      ap given (same ∙ is ∙ (λ i. map plain_of (empty i) ++ groups_of ((at ∙ after.by) i) ((kept ∙ after.sorts) i) (was i)) ∙ groups_due n sort p s after)
