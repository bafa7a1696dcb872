-- Values that compare as equal are the same.
use Rattle.std.proofs.Common.{◌≡◌, Bool, true, false, refl, ap, sym, subst}
use Rattle.std.specs.declared.cmp.Ordering.{Ordering}
use Rattle.std.specs.declared.cmp.Ordering.TheVariants.{Less, Equal, Greater}
use Rattle.std.specs.Ordering.{bool_cmp, ordering_then, on, eq_by_cmp}
use Rattle.std.proofs.lemmas.Map.Views.{tells_apart}
use Rattle.std.proofs.lemmas.Map.Lookups.{CmpEqualImpliesEq, exact_signed, exact_unsigned, exact_bytes}
use Rattle.nf_value.specs.Plain.{Plain, null, truth, int, text, file, list, table, Plains, no_items, item, PlainPairs, no_pairs, pair}
use Rattle.nf_value.specs.View.{plain_of}
use Rattle.nf_value.specs.declared.value.Value.{Value}
use Rattle.nf_value.specs.Order.{value_cmp, items_cmp, pairs_cmp}

abbrev IsEqual : Ordering → Type 0
IsEqual Less = ⊥
IsEqual Equal = Unit {0}
IsEqual Greater = ⊥

not_less : Less ≡ Equal → ⊥
not_less h = subst IsEqual (sym h) tt

not_greater : Greater ≡ Equal → ⊥
not_greater h = subst IsEqual (sym h) tt

first_part : (o p : Ordering) → ordering_then o p ≡ Equal → o ≡ Equal
first_part Less p h = absurd (not_less h)
first_part Equal p h = refl
first_part Greater p h = absurd (not_greater h)

second_part : (o p : Ordering) → ordering_then o p ≡ Equal → p ≡ Equal
second_part Less p h = absurd (not_less h)
second_part Equal p h = h
second_part Greater p h = absurd (not_greater h)

same_truth : (a b : Bool) → bool_cmp a b ≡ Equal → a ≡ b
same_truth true true h = refl
same_truth true false h = absurd (not_greater h)
same_truth false true h = absurd (not_less h)
same_truth false false h = refl

mutual
  same : (a b : Plain) → value_cmp a b ≡ Equal → a ≡ b
  same null null h = refl
  same null (truth c) h = absurd (not_less h)
  same null (int j) h = absurd (not_less h)
  same null (text u) h = absurd (not_less h)
  same null (file m e o) h = absurd (not_less h)
  same null (list ws) h = absurd (not_less h)
  same null (table qs) h = absurd (not_less h)
  same (truth b) null h = absurd (not_greater h)
  same (truth b) (truth c) h = ap truth (same_truth b c h)
  same (truth b) (int j) h = absurd (not_less h)
  same (truth b) (text u) h = absurd (not_less h)
  same (truth b) (file m e o) h = absurd (not_less h)
  same (truth b) (list ws) h = absurd (not_less h)
  same (truth b) (table qs) h = absurd (not_less h)
  same (int i) null h = absurd (not_greater h)
  same (int i) (truth c) h = absurd (not_greater h)
  same (int i) (int j) h = ap int (exact_signed i j h)
  same (int i) (text u) h = absurd (not_less h)
  same (int i) (file m e o) h = absurd (not_less h)
  same (int i) (list ws) h = absurd (not_less h)
  same (int i) (table qs) h = absurd (not_less h)
  same (text t) null h = absurd (not_greater h)
  same (text t) (truth c) h = absurd (not_greater h)
  same (text t) (int j) h = absurd (not_greater h)
  same (text t) (text u) h = ap text (exact_bytes t u h)
  same (text t) (file m e o) h = absurd (not_less h)
  same (text t) (list ws) h = absurd (not_less h)
  same (text t) (table qs) h = absurd (not_less h)
  same (file n d l) null h = absurd (not_greater h)
  same (file n d l) (truth c) h = absurd (not_greater h)
  same (file n d l) (int j) h = absurd (not_greater h)
  same (file n d l) (text u) h = absurd (not_greater h)
  same (file n d l) (file m e o) h = λ k. file (exact_bytes n m (first_part _ _ h) k) (exact_bytes d e (first_part _ _ (second_part _ _ h)) k) (exact_unsigned l o (second_part _ _ (second_part _ _ h)) k)
  same (file n d l) (list ws) h = absurd (not_less h)
  same (file n d l) (table qs) h = absurd (not_less h)
  same (list vs) null h = absurd (not_greater h)
  same (list vs) (truth c) h = absurd (not_greater h)
  same (list vs) (int j) h = absurd (not_greater h)
  same (list vs) (text u) h = absurd (not_greater h)
  same (list vs) (file m e o) h = absurd (not_greater h)
  same (list vs) (list ws) h = ap list (same_items vs ws h)
  same (list vs) (table qs) h = absurd (not_less h)
  same (table ps) null h = absurd (not_greater h)
  same (table ps) (truth c) h = absurd (not_greater h)
  same (table ps) (int j) h = absurd (not_greater h)
  same (table ps) (text u) h = absurd (not_greater h)
  same (table ps) (file m e o) h = absurd (not_greater h)
  same (table ps) (list ws) h = absurd (not_greater h)
  same (table ps) (table qs) h = ap table (same_pairs ps qs h)

  same_items : (vs ws : Plains) → items_cmp vs ws ≡ Equal → vs ≡ ws
  same_items no_items no_items h = refl
  same_items no_items (item w ws) h = absurd (not_less h)
  same_items (item v vs) no_items h = absurd (not_greater h)
  same_items (item v vs) (item w ws) h = λ k. item (same v w (first_part _ _ h) k) (same_items vs ws (second_part (value_cmp v w) _ h) k)

  same_pairs : (ps qs : PlainPairs) → pairs_cmp ps qs ≡ Equal → ps ≡ qs
  same_pairs no_pairs no_pairs h = refl
  same_pairs no_pairs (pair l w qs) h = absurd (not_less h)
  same_pairs (pair k v ps) no_pairs h = absurd (not_greater h)
  same_pairs (pair k v ps) (pair l w qs) h =
      λ j. pair (exact_bytes k l (first_part _ _ h) j) (same v w (first_part _ _ (second_part _ _ h)) j) (same_pairs ps qs (second_part (value_cmp v w) _ (second_part _ _ h)) j)

pub value_cmp_exact : CmpEqualImpliesEq value_cmp
value_cmp_exact = same

pub same_by_eq : (a b : Value) → eq_by_cmp (on plain_of value_cmp) a b ≡ true → plain_of a ≡ plain_of b
same_by_eq a b = tells_apart value_cmp_exact (plain_of a) (plain_of b)
