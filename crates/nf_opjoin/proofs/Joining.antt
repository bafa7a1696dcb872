-- The state of `join` after one more push, and what it emits.
use Rattle.std.proofs.Common.{◌≡◌, ℕ, ◌+◌, List, [], ◌∷◌, ◌++◌, map, Bool, true, false, cond, not, ◌&&◌, refl, ap, sym, ◌∙◌, subst, arith, inl, inr}
use Rattle.std.specs.Prelude.{sum_by, Option, Some, None, is_some, is_ok, Result, Ok, Err, IfOk, OnOk, IfSome}
use Rattle.std.specs.Ordering.{eq_by_cmp}
use Rattle.std.specs.declared.cmp.Ordering.{Ordering}
use Rattle.std.specs.declared.cmp.Ordering.TheVariants.{Less, Equal, Greater}
use Rattle.std.specs.BTreeMap.{BTreeMap, get, insert_entry, is_at, Updates}
use Rattle.std.specs.BTreeSet.{BTreeSet, contains}
use Rattle.std.specs.Map.{lookup}
use Rattle.std.proofs.lemmas.Bool.{cases_Bool}
use Rattle.std.proofs.lemmas.List.Sums.{sum_by-cons}
use Rattle.nf_value.specs.Plain.{Plain}
use Rattle.nf_value.specs.View.{plain_of}
use Rattle.nf_value.specs.Order.{value_cmp}
use Rattle.nf_value.specs.declared.value.Value.{Value}
use Rattle.nf_bag.specs.Bag.{count, IsSameBag}
use Rattle.nf_bag.specs.Sorted.{sorted_of}
use Rattle.nf_bag.specs.declared.fault.OpFault.{OpFault}
use Rattle.nf_opstream.specs.Push.{Push}
use Rattle.nf_opstream.specs.Fault.{Fault, fault_of, not_a_tuple}
use Rattle.nf_opstream.specs.Promise.{HasFaulted, PushRefused}
use Rattle.nf_opjoin.specs.Pairing.{Due, given, IsMatching}
use Rattle.nf_opjoin.specs.Tuples.{key_at, rest_at, is_left}
use Rattle.nf_opjoin.specs.Joined.{padded, all_lonely, join, join_row}
use Rattle.nf_opjoin.specs.Entered.{by_order, IsSplit, entered, unmatched}
use Rattle.nf_opjoin.specs.After.{found, weight, is_matched, IsJoinAfter}
use Rattle.nf_opjoin.specs.declared.join.JoinState.{JoinState}
use Rattle.nf_opjoin.proofs.Sums.{sum_alike, count_by-append, count_by-flat_map}
use Rattle.nf_opjoin.proofs.Members.{same_value}
use Rattle.nf_opjoin.proofs.Promised.{IsDue}
use Rattle.nf_opjoin.proofs.Entering.{and_comm, has_own, has_other, weight_own, weight_other, entered_due, stray_due, left_over_on, leftovers}

-- a key that comes into a map
inserted_sum : (g : Value × List Plain → ℕ) (es : List (Value × List Plain)) (key : Value) (r : List Plain) → lookup (is_at (by_order key)) es ≡ None → sum_by g (insert_entry by_order es key r) ≡ g (key, r) + sum_by g es
inserted_sum g [] key r h = sum_by-cons g (key, r) []
inserted_sum g (e ∷ es) key r h = by (λ m. inserted_sum g es key r m) (by_order key e.0) refl
  where
    by : (lookup (is_at (by_order key)) es ≡ None → sum_by g (insert_entry by_order es key r) ≡ g (key, r) + sum_by g es) → (o : Ordering) → by_order key e.0 ≡ o → sum_by g (insert_entry by_order (e ∷ es) key r) ≡ g (key, r) + sum_by g (e ∷ es)
    by later Less k = rw k (sum_by-cons g (key, r) (e ∷ es))
    by later Equal k = absurd (let m : Some e.1 ≡ None = rw k at h in cc)
    by later Greater k = rw k (let m : lookup (is_at (by_order key)) es ≡ None = rw k at h in omega (arith, later m, sum_by-cons g e (insert_entry by_order es key r), sum_by-cons g e es))

matched_side : (n : ℕ) (p : List Push) (b : Bool) (q : Plain) → is_matched n p q ≡ (is_some (found n b p q) && is_some (found n (not b) p q))
matched_side n p true q = refl
matched_side n p false q = and_comm (is_some (found n true p q)) (is_some (found n false p q))

met_now : (a : Bool) → cond (a && true) true false ≡ a
met_now true = refl
met_now false = refl

met_before : (a b : Bool) → cond (a && false) true b ≡ b
met_before true b = refl
met_before false b = refl

module _ (n : ℕ) (wanted : Bool) (law : IsMatching (join n wanted)) (x : Push) (key : Value) (r : List Plain) (split : IsSplit n x.item (plain_of key) r) (b : Bool) (l : is_left x ≡ b) (p : List Push) where
  own_at : (own new : BTreeMap Value (List Plain)) → ((q : Value) → get by_order own q ≡ found n b p (plain_of q)) → Updates by_order own new key (Some r) → (q : Value) → get by_order new q ≡ found n b (x ∷ p) (plain_of q)
  own_at own new at u q = u.0 q ∙ (λ i. cond (sym (has_own n wanted law x (plain_of key) r split.key split.rest b l (plain_of q)) i) (Some (sym split.rest i)) (at q i))

  other_at : (others : BTreeMap Value (List Plain)) → ((q : Value) → get by_order others q ≡ found n (not b) p (plain_of q)) → (q : Value) → get by_order others q ≡ found n (not b) (x ∷ p) (plain_of q)
  other_at others at q = at q ∙ sym (ap (λ c. cond c (Some (rest_at n x.item)) (found n (not b) p (plain_of q))) (has_other n wanted law x (plain_of key) r split.key split.rest b l (plain_of q)))

  own_all : (es new : List (Value × List Plain)) → lookup (is_at (by_order key)) es ≡ None → new ≡ insert_entry by_order es key r → (f : Plain → List Plain → ℕ) → sum_by (λ e. f (plain_of e.0) e.1) es ≡ sum_by (weight n b f) p
      → sum_by (λ e. f (plain_of e.0) e.1) new ≡ sum_by (weight n b f) (x ∷ p)
  own_all es new none is f all =
      let g : Value × List Plain → ℕ = λ e. f (plain_of e.0) e.1 in
      omega (arith, ap (sum_by g) is, inserted_sum g es key r none, all, sum_by-cons (weight n b f) x p, weight_own n wanted law x (plain_of key) r split.key split.rest b l f)

  other_all : (es : List (Value × List Plain)) (f : Plain → List Plain → ℕ) → sum_by (λ e. f (plain_of e.0) e.1) es ≡ sum_by (weight n (not b) f) p → sum_by (λ e. f (plain_of e.0) e.1) es ≡ sum_by (weight n (not b) f) (x ∷ p)
  other_all es f all = omega (arith, all, sum_by-cons (weight n (not b) f) x p, weight_other n wanted law x (plain_of key) r split.key split.rest b l f)

  matched_at : (old new : BTreeSet Value) (other : Option (List Plain)) → found n b p (plain_of key) ≡ None → other ≡ found n (not b) p (plain_of key) → ((q : Value) → contains by_order old q ≡ is_matched n p (plain_of q))
      → ((q : Value) → contains by_order new q ≡ cond (is_some other && eq_by_cmp by_order key q) true (contains by_order old q)) → (q : Value) → contains by_order new q ≡ is_matched n (x ∷ p) (plain_of q)
  matched_at old new other none there was is q =
      let k = plain_of key in
      let z = plain_of q in
      let now : is_matched n (x ∷ p) z ≡ (is_some (cond (eq_by_cmp value_cmp k z) (Some (rest_at n x.item)) (found n b p z)) && is_some (found n (not b) p z)) = (
      matched_side n (x ∷ p) b z
      ∙ (λ i. is_some (cond (has_own n wanted law x k r split.key split.rest b l z i) (Some (rest_at n x.item)) (found n b p z)) && is_some (cond (has_other n wanted law x k r split.key split.rest b l z i) (Some (rest_at n x.item)) (found n (not b) p z)))) in
      is q ∙ elim (cases_Bool (eq_by_cmp value_cmp k z)) [
        | inl e ↦ (
            let same : k ≡ z = same_value k z e in
            let before : contains by_order old q ≡ false = was q ∙ matched_side n p b z ∙ ap (λ w. is_some (found n b p w) && is_some (found n (not b) p z)) (sym same) ∙ ap (λ o. is_some o && is_some (found n (not b) p z)) none in
            (λ i. cond (is_some (there i) && e i) true (before i)) ∙ met_now (is_some (found n (not b) p k)) ∙ ap (λ w. is_some (found n (not b) p w)) same
            ∙ sym (now ∙ ap (λ c. is_some (cond c (Some (rest_at n x.item)) (found n b p z)) && is_some (found n (not b) p z)) e))
        | inr e ↦ (λ i. cond (is_some other && e i) true (contains by_order old q)) ∙ met_before (is_some other) (contains by_order old q) ∙ was q ∙ matched_side n p b z
            ∙ sym (now ∙ ap (λ c. is_some (cond c (Some (rest_at n x.item)) (found n b p z)) && is_some (found n (not b) p z)) e)
      ]

module _ (n : ℕ) (wanted : Bool) (law : IsMatching (join n wanted)) (p : List Push) (s : JoinState) (after : IsJoinAfter n wanted p s) (x : Push) (key : Value) (r : List Plain) (is_split : IsSplit s.by x.item (plain_of key) r) where
  split : IsSplit n x.item (plain_of key) r
  split = subst (λ m. IsSplit m x.item (plain_of key) r) after.by is_split

  pub left_due : is_left x ≡ true → entered true (plain_of key) r (get by_order s.left key) (get by_order s.right key) ≡ (join_row n wanted).gives p x
  left_due l = (λ i. entered true (plain_of key) r (after.left_at key i) (after.right_at key i)) ∙ entered_due n wanted law x (plain_of key) r split.key split.rest true l p after.fine

  pub right_due : is_left x ≡ false → entered false (plain_of key) r (get by_order s.right key) (get by_order s.left key) ≡ (join_row n wanted).gives p x
  right_due l = (λ i. entered false (plain_of key) r (after.right_at key i) (after.left_at key i)) ∙ entered_due n wanted law x (plain_of key) r split.key split.rest false l p after.fine

  pub left_more : {T : Type 0} (items : T → List (ℕ × Value)) (t : JoinState) → is_left x ≡ true → (o : Result T OpFault) → IsDue items o (entered true (plain_of key) r (get by_order s.left key) (get by_order s.right key)) → OnOk o (get by_order s.left key ≡ None)
      → OnOk o (t.left.entries ≡ insert_entry by_order s.left.entries key r) → OnOk o (Updates by_order s.left t.left key (Some r)) → OnOk o ((q : Value) → contains by_order t.matched q ≡ cond (is_some (get by_order s.right key) && eq_by_cmp by_order key q) true (contains by_order s.matched q))
      → t.right ≡ s.right → t.by ≡ s.by → t.remainder ≡ s.remainder → IfOk o (λ _. IsJoinAfter n wanted (x ∷ p) t)
  left_more items t l (Err f) h fresh entries updates matched right by kept = tt
  left_more items t l (Ok u) h fresh entries updates matched right by kept = record {
    fine = (ap is_ok (sym (left_due l) ∙ h), after.fine);
    by = by ∙ after.by;
    remainder = kept ∙ after.remainder;
    left_at = own_at n wanted law x key r split true l p s.left t.left after.left_at updates;
    right_at = λ q. ap (λ m. get by_order m q) right ∙ other_at n wanted law x key r split true l p s.right after.right_at q;
    left_all = λ f. own_all n wanted law x key r split true l p s.left.entries t.left.entries fresh entries f (after.left_all f);
    right_all = λ f. ap (λ m. sum_by (λ e. f (plain_of e.0) e.1) m.entries) right ∙ other_all n wanted law x key r split true l p s.right.entries f (after.right_all f);
    matched = matched_at n wanted law x key r split true l p s.matched t.matched (get by_order s.right key) (sym (after.left_at key) ∙ fresh) (after.right_at key) after.matched matched;
  }

  pub right_more : {T : Type 0} (items : T → List (ℕ × Value)) (t : JoinState) → is_left x ≡ false → (o : Result T OpFault) → IsDue items o (entered false (plain_of key) r (get by_order s.right key) (get by_order s.left key)) → OnOk o (get by_order s.right key ≡ None)
      → OnOk o (t.right.entries ≡ insert_entry by_order s.right.entries key r) → OnOk o (Updates by_order s.right t.right key (Some r)) → OnOk o ((q : Value) → contains by_order t.matched q ≡ cond (is_some (get by_order s.left key) && eq_by_cmp by_order key q) true (contains by_order s.matched q))
      → t.left ≡ s.left → t.by ≡ s.by → t.remainder ≡ s.remainder → IfOk o (λ _. IsJoinAfter n wanted (x ∷ p) t)
  right_more items t l (Err f) h fresh entries updates matched left by kept = tt
  right_more items t l (Ok u) h fresh entries updates matched left by kept = record {
    fine = (ap is_ok (sym (right_due l) ∙ h), after.fine);
    by = by ∙ after.by;
    remainder = kept ∙ after.remainder;
    left_at = λ q. ap (λ m. get by_order m q) left ∙ other_at n wanted law x key r split false l p s.left after.left_at q;
    right_at = own_at n wanted law x key r split false l p s.right t.right after.right_at updates;
    left_all = λ f. ap (λ m. sum_by (λ e. f (plain_of e.0) e.1) m.entries) left ∙ other_all n wanted law x key r split false l p s.left.entries f (after.left_all f);
    right_all = λ f. own_all n wanted law x key r split false l p s.right.entries t.right.entries fresh entries f (after.right_all f);
    matched = matched_at n wanted law x key r split false l p s.matched t.matched (get by_order s.left key) (sym (after.right_at key) ∙ fresh) (after.left_at key) after.matched matched;
  }

-- an item that is no tuple
pub refused_stray : (n : ℕ) (wanted : Bool) → IsMatching (join n wanted) → (p : List Push) (x : Push) (f : OpFault) → key_at n x.item ≡ None → fault_of f ≡ Some (not_a_tuple x.item)
    → ((g : Fault) → (join_row n wanted).gives p x ≡ Err g → HasFaulted (join_row n wanted) p x g) → PushRefused (join_row n wanted) p x f
refused_stray n wanted law p x f none is faults = subst (λ o. IfSome o (HasFaulted (join_row n wanted) p x)) (sym is) (faults (not_a_tuple x.item) (stray_due n wanted law x none p))

-- what is left over at the close
module _ (n : ℕ) (wanted : Bool) (law : IsMatching (join n wanted)) (p : List Push) (s : JoinState) (after : IsJoinAfter n wanted p s) where
  unmatched_sum : (v : Plain) (b : Bool) (es : List (Value × List Plain)) → count v (unmatched (contains by_order s.matched) b es) ≡ sum_by (λ e. left_over_on n wanted law v p b (plain_of e.0) e.1) es
  unmatched_sum v b es =
      count_by-flat_map (λ y. eq_by_cmp value_cmp y v) (λ (e : Value × List Plain). cond (contains by_order s.matched e.0) [] (padded b (plain_of e.0) e.1 ∷ [])) es
      ∙ sum_alike (λ (e : Value × List Plain). count v (cond (contains by_order s.matched e.0) [] (padded b (plain_of e.0) e.1 ∷ []))) (λ e. left_over_on n wanted law v p b (plain_of e.0) e.1) (λ e. ap (λ c. count v (cond c [] (padded b (plain_of e.0) e.1 ∷ []))) (after.matched e.0)) es

  lonely_bag : (none one two : List Value) (left right : BTreeMap Value (List Plain)) → none ≡ [] → left ≡ s.left → right ≡ s.right → map plain_of one ≡ map plain_of none ++ unmatched (contains by_order s.matched) true left.entries
      → map plain_of two ≡ map plain_of one ++ unmatched (contains by_order s.matched) false right.entries → IsSameBag (map plain_of two) (all_lonely n p)
  lonely_bag none one two left right empty is_l is_r first second = record {
    at = λ v. (
        let m = contains by_order s.matched in
        let a : map plain_of one ≡ unmatched m true s.left.entries = first ∙ (λ i. map plain_of (empty i) ++ unmatched m true (is_l i).entries) in
        let b : map plain_of two ≡ unmatched m true s.left.entries ++ unmatched m false s.right.entries = second ∙ (λ i. a i ++ unmatched m false (is_r i).entries) in
        omega (
          arith,
          ap (count v) b,
          count_by-append (λ y. eq_by_cmp value_cmp y v) (unmatched m true s.left.entries) (unmatched m false s.right.entries),
          unmatched_sum v true s.left.entries,
          unmatched_sum v false s.right.entries,
          after.left_all (left_over_on n wanted law v p true),
          after.right_all (left_over_on n wanted law v p false),
          leftovers n wanted law v p after.fine,
        ));
  }

  pub remainder_due : ((a : List Plain) → (b : List Plain) → IsSameBag a b → sorted_of a ≡ sorted_of b) → s.remainder ≡ true → (none one two : List Value) (left right : BTreeMap Value (List Plain)) → none ≡ [] → left ≡ s.left → right ≡ s.right
      → map plain_of one ≡ map plain_of none ++ unmatched (contains by_order s.matched) true left.entries → map plain_of two ≡ map plain_of one ++ unmatched (contains by_order s.matched) false right.entries → (values : List Plain) → values ≡ sorted_of (map plain_of two) → given values ≡ (join_row n wanted).ends p
  remainder_due sorts on none one two left right empty is_l is_r first second values is =
      let w : wanted ≡ true = sym after.remainder ∙ on in
      ap given (is ∙ sorts (map plain_of two) (all_lonely n p) (lonely_bag none one two left right empty is_l is_r first second)) ∙ sym (ap {B = Due} (λ c. given (cond c (sorted_of (all_lonely n p)) [])) w)

  pub nothing_due : s.remainder ≡ false → (join_row n wanted).ends p ≡ Ok []
  nothing_due off = ap {B = Due} (λ c. given (cond c (sorted_of (all_lonely n p)) [])) (sym after.remainder ∙ off)
