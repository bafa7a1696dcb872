-- What `unique` remembers of the items so far.
use Rattle.std.proofs.Common.{◌≡◌, ℕ, ◌+◌, List, [], ◌∷◌, Bool, true, false, cond, not, refl, ap, sym, ◌∙◌, subst, arith, inl, inr}
use Rattle.std.specs.Prelude.{◌==◌, nat_lt, Ok, is_ok}
use Rattle.std.specs.declared.cmp.Ordering.{Ordering}
use Rattle.std.specs.Ordering.{on, eq_by_cmp}
use Rattle.std.specs.BTreeSet.{contains, Updates}
use Rattle.std.proofs.lemmas.Bool.{cases_Bool}
use Rattle.std.proofs.lemmas.Bool.Decides.{nat_tests}
use Rattle.nf_value.specs.Plain.{Plain}
use Rattle.nf_value.specs.View.{plain_of}
use Rattle.nf_value.specs.Order.{value_cmp}
use Rattle.nf_value.specs.declared.value.Value.{Value}
use Rattle.nf_bag.specs.Bag.{count}
use Rattle.nf_opstream.specs.Push.{Push}
use Rattle.nf_opstream.specs.Fault.{too_deep}
use Rattle.nf_opstream.specs.Operator.{IsOperator}
use Rattle.nf_opstream.specs.Promise.{emits_of, HasEmitted, HasFaulted}
use Rattle.nf_opstream.specs.Alone.{is_too_deep}
use Rattle.nf_opstream.specs.Rows.{unique_row, items_in}
use Rattle.nf_opstream.specs.Seen.{IsUniqueAfter}
use Rattle.nf_opstream.specs.declared.unique.UniqueState.{UniqueState}
use Rattle.nf_opstream.proofs.Tally.{one_if, passes, count_is_passes}
use Rattle.nf_opstream.proofs.Distinct.{is, news, gives_news}
use Rattle.nf_opstream.proofs.Promised.{has_emitted, has_faulted}

abbrev by_order : Value → Value → Ordering
by_order = on plain_of value_cmp

zero_or_more : (n : ℕ) (b : Bool) → nat_lt 0 n ≡ b → (n == 0) ≡ not b
zero_or_more n true h = grind (arith, nat_tests)
zero_or_more n false h = grind (arith, nat_tests)

turned : (b c : Bool) → b ≡ not c → c ≡ not b
turned true true h = h
turned true false h = refl
turned false true h = refl
turned false false h = h

-- the set takes an item exactly if it is new
no_equals : (p : List Push) (s : UniqueState) → IsUniqueAfter p s → (copy item : Value) (b : Bool) → copy ≡ item → b ≡ not (contains by_order s.seen copy) → (count (plain_of item) (items_in p) == 0) ≡ b
no_equals p s after copy item b same h =
    let k : contains by_order s.seen copy ≡ not b = turned b (contains by_order s.seen copy) h in
    let n = count (plain_of item) (items_in p) in
    let lt : nat_lt 0 n ≡ not b = ap (λ v. nat_lt 0 (count (plain_of v) (items_in p))) (sym same) ∙ sym (after.seen copy) ∙ k in
    zero_or_more n (not b) lt ∙ twice b
  where
    twice : (b : Bool) → not (not b) ≡ b
    twice true = refl
    twice false = refl

pub gives_again : (p : List Push) (s : UniqueState) → IsOperator unique_row → IsUniqueAfter p s → (x : Push) (copy item : Value) → x.item ≡ plain_of item → is_too_deep x.item ≡ false → copy ≡ item → false ≡ not (contains by_order s.seen copy)
    → (es : List (ℕ × Value)) → es ≡ [] → HasEmitted unique_row p x (emits_of es)
gives_again p s law after x copy item is shallow same h es none =
    let k : (count x.item (items_in p) == 0) ≡ false = ap (λ v. count v (items_in p) == 0) is ∙ no_equals p s after copy item false same h in
    let e : news p x ≡ [] = rw k refl in
    has_emitted unique_row law p after.fine x (emits_of es) (gives_news p x shallow ∙ ap Ok e ∙ ap (λ z. Ok (emits_of z)) (sym none))

pub gives_first : (p : List Push) (s : UniqueState) → IsOperator unique_row → IsUniqueAfter p s → (x : Push) (copy item : Value) → x.item ≡ plain_of item → is_too_deep x.item ≡ false → copy ≡ item → true ≡ not (contains by_order s.seen copy)
    → (es : List (ℕ × Value)) → es ≡ (0, item) ∷ [] → HasEmitted unique_row p x (emits_of es)
gives_first p s law after x copy item is shallow same h es one =
    let k : (count x.item (items_in p) == 0) ≡ true = ap (λ v. count v (items_in p) == 0) is ∙ no_equals p s after copy item true same h in
    let e : news p x ≡ (0, plain_of item) ∷ [] = rw (k, is) refl in
    has_emitted unique_row law p after.fine x (emits_of es) (gives_news p x shallow ∙ ap Ok e ∙ ap (λ z. Ok (emits_of z)) (sym one))

pub gives_deep : (p : List Push) (s : UniqueState) → IsOperator unique_row → IsUniqueAfter p s → (x : Push) → is_too_deep x.item ≡ true → HasFaulted unique_row p x (too_deep x.item)
gives_deep p s law after x deep = has_faulted unique_row law p after.fine x (too_deep x.item) (rw deep refl)

seen_more : (item v : Plain) (vs : List Plain) (b : Bool) → b ≡ nat_lt 0 (count v vs) → cond (eq_by_cmp value_cmp item v) true b ≡ nat_lt 0 (count v (item ∷ vs))
seen_more item v vs b h = elim (cases_Bool (eq_by_cmp value_cmp item v)) [
  | inl e ↦ (let m = count_is_passes (is v) (item ∷ vs) ∙ ap (λ t. one_if t + passes (is v) vs) e in
      ap (λ t. cond t true b) e ∙ some (passes (is v) vs) ∙ ap (nat_lt 0) (sym m))
  | inr e ↦ (let m = count_is_passes (is v) (item ∷ vs) ∙ ap (λ t. one_if t + passes (is v) vs) e ∙ plus_none (passes (is v) vs) ∙ sym (count_is_passes (is v) vs) in
      ap (λ t. cond t true b) e ∙ h ∙ ap (nat_lt 0) (sym m))
]
  where
    some : (n : ℕ) → true ≡ nat_lt 0 (1 + n)
    some n = grind (arith, nat_tests)

    plus_none : (n : ℕ) → 0 + n ≡ n
    plus_none n = omega arith

pub after_one_more : (p : List Push) (s t : UniqueState) → IsUniqueAfter p s → (x : Push) (copy item : Value) → x.item ≡ plain_of item → is_too_deep x.item ≡ false → copy ≡ item → Updates by_order s.seen t.seen copy true → IsUniqueAfter (x ∷ p) t
after_one_more p s t after x copy item is shallow same updates = record {
  fine = (ap is_ok (gives_news p x shallow), after.fine);
  seen = λ v. (let e : plain_of copy ≡ x.item = ap plain_of same ∙ sym is in updates.0 v ∙ subst (λ z. cond (eq_by_cmp value_cmp z (plain_of v)) true (contains by_order s.seen v) ≡ nat_lt 0 (count (plain_of v) (x.item ∷ items_in p))) (sym e) (seen_more x.item (plain_of v) (items_in p) (contains by_order s.seen v) (after.seen v)));
}
