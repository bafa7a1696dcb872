-- The rests at each key, and the group of a key.
use Rattle.std.proofs.Common.{◌≡◌, ℕ, zero, suc, min, List, [], ◌∷◌, ◌++◌, map, length, Bool, true, false, cond, refl, ap, sym, ◌∙◌, arith, inl, inr}
use Rattle.std.specs.Prelude.{Option, Some, unwrap_or}
use Rattle.std.specs.List.{insert, range_with_len}
use Rattle.std.specs.Ordering.{eq_by_cmp}
use Rattle.std.specs.declared.cmp.Ordering.{Ordering}
use Rattle.std.specs.declared.cmp.Ordering.TheVariants.{Less, Equal, Greater}
use Rattle.std.specs.BTreeMap.{insert_entry, is_at}
use Rattle.std.specs.Map.{lookup, remove_entry}
use Rattle.std.proofs.lemmas.Bool.{cases_Bool}
use Rattle.std.proofs.lemmas.Cmp.{tied_itself}
use Rattle.std.proofs.lemmas.List.{map-append}
use Rattle.nf_value.specs.Plain.{Plain, list, plains_of}
use Rattle.nf_value.specs.View.{plain_of}
use Rattle.nf_value.specs.Order.{value_cmp, value_cmp_total}
use Rattle.nf_value.specs.Identity.{value_cmp_exact}
use Rattle.nf_value.specs.declared.value.Value.{Value}
use Rattle.nf_value.specs.declared.value.Value.TheVariants as v
use Rattle.nf_opjoin.specs.Entered.{by_order}
use Rattle.nf_opjoin.specs.Grouped.{column, width, listed, group_of}
use Rattle.nf_opjoin.specs.Held.{is_key, held_at}
use Rattle.nf_opjoin.proofs.Members.{same_value}

abbrev Entries : Type 0
Entries = List (Value × List Plain)

-- the rests at a key after one more is put in
both_apart : {A : Type 0} (a b : Bool) (x y z : A) → (a ≡ true → b ≡ true → ⊥) → cond a x (cond b y z) ≡ cond b y (cond a x z)
both_apart true true x y z h = absurd (h refl refl)
both_apart true false x y z h = refl
both_apart false b x y z h = refl

one_over : {A : Type 0} (b : Bool) (x y z : A) → cond b x z ≡ cond b x (cond b y z)
one_over true x y z = refl
one_over false x y z = refl

held_inserted : (k : Plain) (key : Value) (v : List Plain) (es : Entries) → held_at k (insert_entry by_order es key v) ≡ cond (is_key k key) (Some v) (held_at k es)
held_inserted k key v [] = refl
held_inserted k key v (e ∷ es) = by (held_inserted k key v es) (by_order key e.0) refl
  where
    by : held_at k (insert_entry by_order es key v) ≡ cond (is_key k key) (Some v) (held_at k es) → (o : Ordering) → by_order key e.0 ≡ o → held_at k (insert_entry by_order (e ∷ es) key v) ≡ cond (is_key k key) (Some v) (held_at k (e ∷ es))
    by later Less h = rw h refl
    by later Equal h = (
        let same : plain_of key ≡ plain_of e.0 = value_cmp_exact (plain_of key) (plain_of e.0) h in
        let b : is_key k key ≡ is_key k e.0 = ap (eq_by_cmp value_cmp k) same in
        rw h (one_over (is_key k e.0) (Some v) (Some e.1) (held_at k es) ∙ ap {B = Option (List Plain)} (λ c. cond c (Some v) (held_at k (e ∷ es))) (sym b)))
    by later Greater h = (
        let apart : is_key k e.0 ≡ true → is_key k key ≡ true → ⊥ = λ s t. (
        let one : k ≡ plain_of e.0 = same_value k (plain_of e.0) s in
        let two : k ≡ plain_of key = same_value k (plain_of key) t in
        let both : value_cmp (plain_of key) (plain_of e.0) ≡ Equal = (λ i. value_cmp ((sym two ∙ one) i) (plain_of e.0)) ∙ tied_itself value_cmp_total (plain_of e.0) in
        absurd (let z : Greater ≡ Equal = sym h ∙ both in cc)) in
        rw h (ap {B = Option (List Plain)} (λ o. cond (is_key k e.0) (Some e.1) o) later ∙ both_apart (is_key k e.0) (is_key k key) (Some e.1) (Some v) (held_at k es) apart))

held_removed : (k : Plain) (key : Value) → is_key k key ≡ false → (es : Entries) → held_at k (remove_entry (is_at (by_order key)) es) ≡ held_at k es
held_removed k key h [] = refl
held_removed k key h (e ∷ es) = elim (cases_Bool (is_at (by_order key) e.0)) [
  | inl t ↦ (
      let same : plain_of key ≡ plain_of e.0 = same_value (plain_of key) (plain_of e.0) t in
      let no : is_key k e.0 ≡ false = ap (eq_by_cmp value_cmp k) (sym same) ∙ h in
      rw t (sym (ap {B = Option (List Plain)} (λ b. cond b (Some e.1) (held_at k es)) no)))
  | inr f ↦ rw f (ap {B = Option (List Plain)} (λ o. cond (is_key k e.0) (Some e.1) o) (held_removed k key h es))
]

-- a rest that is put to those with its key
pub held_more : (k : Plain) (key : Value) (old mid new : Entries) (before : Option (List Plain)) (rests : List Plain) (r : Plain) → before ≡ lookup (is_at (by_order key)) old → mid ≡ remove_entry (is_at (by_order key)) old → rests ≡ unwrap_or before [] ++ r ∷ []
    → new ≡ insert_entry by_order mid key rests → held_at k new ≡ cond (is_key k key) (Some (unwrap_or (held_at k old) [] ++ r ∷ [])) (held_at k old)
held_more k key old mid new before rests r was left all is =
    ap (held_at k) (is ∙ ap (λ es. insert_entry by_order es key rests) left) ∙ held_inserted k key rests (remove_entry (is_at (by_order key)) old) ∙ elim (cases_Bool (is_key k key)) [
      | inl t ↦ (
          let same : k ≡ plain_of key = same_value k (plain_of key) t in
          let found : before ≡ held_at k old = was ∙ ap (λ z. lookup (λ (q : Value). eq_by_cmp value_cmp z (plain_of q)) old) (sym same) in
          ap {B = Option (List Plain)} (λ b. cond b (Some rests) (held_at k (remove_entry (is_at (by_order key)) old))) t ∙ ap Some (all ∙ ap (λ o. unwrap_or o [] ++ r ∷ []) found)
          ∙ sym (ap {B = Option (List Plain)} (λ b. cond b (Some (unwrap_or (held_at k old) [] ++ r ∷ [])) (held_at k old)) t))
      | inr f ↦ ap {B = Option (List Plain)} (λ b. cond b (Some rests) (held_at k (remove_entry (is_at (by_order key)) old))) f ∙ held_removed k key f old
          ∙ sym (ap {B = Option (List Plain)} (λ b. cond b (Some (unwrap_or (held_at k old) [] ++ r ∷ [])) (held_at k old)) f)
    ]

pub rest_put : (before : Option (List Plain)) (empty rests made : List Plain) (none items new : List Value) (r : List Plain) → none ≡ [] → empty ≡ map plain_of none → rests ≡ unwrap_or before empty → map plain_of items ≡ rests → new ≡ items ++ v.List r ∷ []
    → made ≡ map plain_of new → made ≡ unwrap_or before [] ++ list (plains_of r) ∷ []
rest_put before empty rests made none items new r nothing bare was are put is =
    is ∙ ap (map plain_of) put ∙ map-append plain_of items (v.List r ∷ []) ∙ ap (λ vs. vs ++ list (plains_of r) ∷ []) (are ∙ was ∙ ap (unwrap_or before) (bare ∙ ap (map plain_of) nothing))

-- a group in memory
insert_capped : {A : Type 0} (xs : List A) (n m : ℕ) (v : A) → m ≡ min n (length xs) → insert xs m v ≡ insert xs n v
insert_capped [] zero zero v h = refl
insert_capped [] zero (suc m) v h = absurd (omega arith)
insert_capped [] (suc n) zero v h = refl
insert_capped [] (suc n) (suc m) v h = absurd (omega arith)
insert_capped (x ∷ xs) zero zero v h = refl
insert_capped (x ∷ xs) zero (suc m) v h = absurd (omega arith)
insert_capped (x ∷ xs) (suc n) zero v h = absurd (omega arith)
insert_capped (x ∷ xs) (suc n) (suc m) v h = ap (λ ys. x ∷ ys) (insert_capped xs n m v (omega arith))

map-insert : (xs : List Value) (n : ℕ) (v : Value) → map plain_of (insert xs n v) ≡ insert (map plain_of xs) n (plain_of v)
map-insert [] zero v = refl
map-insert [] (suc n) v = refl
map-insert (x ∷ xs) zero v = refl
map-insert (x ∷ xs) (suc n) v = ap (λ ys. plain_of x ∷ ys) (map-insert xs n v)

map_twice : (f : List Plain → Plain) (g : ℕ → List Plain) (js : List ℕ) → map f (map g js) ≡ map (λ j. f (g j)) js
map_twice f g [] = refl
map_twice f g (j ∷ js) = ap (λ vs. f (g j) ∷ vs) (map_twice f g js)

pub group_listed : (n m : ℕ) (sort : Bool) (key : Value) (rs : List Plain) (columns : List (List Plain)) (items new : List Value) (all : List Plain) → columns ≡ map (column rs) (range_with_len 0 (width rs)) → map plain_of items ≡ map (listed sort) columns
    → m ≡ min n (length items) → new ≡ insert items m key → all ≡ map plain_of new → list (plains_of all) ≡ group_of n sort (plain_of key) rs
group_listed n m sort key rs columns items new all cut are at put is =
    ap (λ vs. list (plains_of vs))
    (is ∙ ap (map plain_of) (put ∙ insert_capped items n m key at) ∙ map-insert items n key
    ∙ ap (λ vs. insert vs n (plain_of key)) (are ∙ ap (map (listed sort)) cut ∙ map_twice (listed sort) (column rs) (range_with_len 0 (width rs))))
