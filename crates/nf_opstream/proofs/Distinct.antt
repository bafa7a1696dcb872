-- `unique`: each distinct item once, as items come.
use Rattle.std.proofs.Common.{◌≡◌, ℕ, ◌+◌, ◌<◌, ◌≤◌, min, List, [], ◌∷◌, ◌++◌, map, filter, Bool, true, false, cond, not, refl, ap, sym, ◌∙◌, subst, arith, inl, inr, append-nil}
use Rattle.std.specs.Prelude.{◌==◌, Result, Ok, Err, is_ok}
use Rattle.std.specs.Ordering.{eq_by_cmp}
use Rattle.std.proofs.lemmas.Bool.{cases_Bool, true≢false}
use Rattle.std.proofs.lemmas.Bool.Decides.{nat_tests}
use Rattle.nf_value.specs.Plain.{Plain}
use Rattle.nf_value.specs.Order.{value_cmp}
use Rattle.nf_bag.specs.Bag.{count, IsSubBag, IsSameBag}
use Rattle.nf_bag.specs.Sorted.{distinct_of}
use Rattle.nf_opstream.specs.Push.{Push, IsWithin, IsSameInput}
use Rattle.nf_opstream.specs.Fault.{Fault, too_deep}
use Rattle.nf_opstream.specs.Operator.{to_out, oks, emitted, AreFine, IsOperator}
use Rattle.nf_opstream.specs.Alone.{is_too_deep}
use Rattle.nf_opstream.specs.Rows.{unique_row, items_in}
use Rattle.nf_opstream.proofs.Tally.{one_if, passes, Sub, Same, tally-append, sub_map, same_map, sub_filter, same_filter, count_is_passes}
use Rattle.nf_opstream.proofs.Members.{In, contains}
use Rattle.nf_opstream.proofs.Pushes.{within_sub, input_same, in_input, same_bag, same_from, none_of_same}

abbrev pub is : Plain → Plain → Bool
is v x = eq_by_cmp value_cmp x v

abbrev pub shallow : Plain → Bool
shallow v = not (is_too_deep v)

fault_is : (b : Bool) (v : Plain) (es : List (ℕ × Plain)) (f : Fault) → ◌≡◌ {A = Result (List (ℕ × Plain)) Fault} (cond b (Err (too_deep v)) (Ok es)) (Err f) → (b ≡ true) × (too_deep v ≡ f)
fault_is true v es f h = (refl, cc)
fault_is false v es f h = absurd (cc)

ok_is : (b : Bool) (v : Plain) (es : List (ℕ × Plain)) → is_ok {T = List (ℕ × Plain)} {E = Fault} (cond b (Err (too_deep v)) (Ok es)) ≡ true → b ≡ false
ok_is true v es h = absurd (true≢false (sym h))
ok_is false v es h = refl

-- what one more item emits
abbrev pub news : List Push → Push → List (ℕ × Plain)
news p x = cond (count x.item (items_in p) == 0) ((0, x.item) ∷ []) []

fine_item : (p : List Push) (x : Push) → AreFine unique_row (x ∷ p) → is_too_deep x.item ≡ false
fine_item p x h = ok_is (is_too_deep x.item) x.item (news p x) h.0

pub gives_news : (p : List Push) (x : Push) → is_too_deep x.item ≡ false → unique_row.gives p x ≡ Ok (news p x)
gives_news p x h = rw h refl

fine_shallow : (p : List Push) → AreFine unique_row p → filter shallow (items_in p) ≡ items_in p
fine_shallow [] h = refl
fine_shallow (x ∷ p) h = rw (fine_item p x h) (ap (λ vs. x.item ∷ vs) (fine_shallow p h.1))

fine_deep : (p : List Push) → AreFine unique_row p → filter is_too_deep (items_in p) ≡ []
fine_deep [] h = refl
fine_deep (x ∷ p) h = rw (fine_item p x h) (fine_deep p h.1)

one_more : (b : Bool) (c n e : ℕ) → (b ≡ true → c ≡ n) → e ≡ min c 1 → e + cond (n == 0) (one_if b + 0) 0 ≡ min (one_if b + c) 1
one_more true c n e same h = elim (cases_Bool (n == 0)) [
  | inl k ↦ rw k (let z : n ≡ 0 = grind (arith, nat_tests) in let s = same refl in omega arith)
  | inr k ↦ rw k (let z : 0 < n = not_none n k in let s = same refl in omega arith)
]
  where
    not_none : (n : ℕ) → (n == 0) ≡ false → 0 < n
    not_none n k = grind (arith, nat_tests)
one_more false c n e same h = elim (cases_Bool (n == 0)) [
  | inl k ↦ rw k (omega arith)
  | inr k ↦ rw k (omega arith)
]

passes_news : (v : Plain) (p : List Push) (x : Push) → passes (is v) (to_out 0 (news p x)) ≡ cond (count x.item (items_in p) == 0) (one_if (is v x.item) + 0) 0
passes_news v p x = elim (cases_Bool (count x.item (items_in p) == 0)) [ inl k ↦ rw k refl | inr k ↦ rw k refl ]

emitted_once : (v : Plain) (p : List Push) → AreFine unique_row p → passes (is v) (emitted unique_row p 0) ≡ min (passes (is v) (items_in p)) 1
emitted_once v [] h = refl
emitted_once v (x ∷ p) h =
    let e = passes (is v) (emitted unique_row p 0) in
    let last = to_out 0 (news p x) in
    let gives : to_out 0 (oks (unique_row.gives p x)) ≡ last = ap (λ r. to_out 0 (oks r)) (gives_news p x (fine_item p x h)) in
    let n = count x.item (items_in p) in
    let c = passes (is v) (items_in p) in
    let same : is v x.item ≡ true → c ≡ n = λ k. ap (λ w. passes (is w) (items_in p)) (sym (same_from x.item v k)) ∙ sym (count_is_passes (is x.item) (items_in p)) in
    ap (λ es. passes (is v) (emitted unique_row p 0 ++ es)) gives ∙ tally-append (λ y. one_if (is v y)) (emitted unique_row p 0) last ∙ ap (λ m. e + m) (passes_news v p x)
    ∙ one_more (is v x.item) c n e same (emitted_once v p h.1)

-- nothing goes to another output
nothing_else : (out : ℕ) (p : List Push) → (out == 0) ≡ false → AreFine unique_row p → emitted unique_row p out ≡ []
nothing_else out [] k h = refl
nothing_else out (x ∷ p) k h =
    let gives = ap (λ r. to_out out (oks r)) (gives_news p x (fine_item p x h)) in
    (λ i. nothing_else out p k h.1 i ++ gives i) ∙ none (count x.item (items_in p) == 0)
  where
    turned : (0 == out) ≡ false
    turned = grind (arith, nat_tests)

    none : (b : Bool) → to_out out (cond b ((0, x.item) ∷ []) []) ≡ []
    none true = rw turned refl
    none false = refl

in_deep : (x : Push) (q : List Push) → In x q → is_too_deep x.item ≡ true → In (too_deep x.item) (map too_deep (filter is_too_deep (items_in q)))
in_deep x [] h k = absurd h
in_deep x (y ∷ q) h k = elim h [
  | inl e ↦ (let d : is_too_deep y.item ≡ true = ap (λ (z : Push). is_too_deep z.item) (sym e) ∙ k in rw d (inl (ap (λ (z : Push). too_deep z.item) e)))
  | inr m ↦ elim (cases_Bool (is_too_deep y.item)) [ inl d ↦ rw d (inr (in_deep x q m k)) | inr d ↦ rw d (in_deep x q m k) ]
]

items_same : {p q : List Push} → IsSameInput p q → Same (items_in p) (items_in q)
items_same s = same_map (λ (x : Push). x.item) (input_same s)

module _ (number_once : (v : Plain) (a : List Plain) → count v (distinct_of a) ≡ min (count v a) 1) (by_bag : (a b : List Plain) → IsSameBag a b → distinct_of a ≡ distinct_of b) where
  unique_sound : (p q : List Push) (out : ℕ) → AreFine unique_row p → IsWithin p q → IsSubBag (emitted unique_row p out) (unique_row.items q out)
  unique_sound p q out fine w = elim (cases_Bool (out == 0)) [
    | inl k ↦ (let z : out ≡ 0 = grind (arith, nat_tests) in rw z (record { at = λ v. at_first v }))
    | inr k ↦ rw (nothing_else out p k fine) (record { at = λ v. omega arith })
  ]
    where
      at_first : (v : Plain) → count v (emitted unique_row p 0) ≤ count v (distinct_of (filter shallow (items_in q)))
      at_first v =
          let sub : Sub (filter shallow (items_in p)) (filter shallow (items_in q)) = sub_filter shallow (sub_map (λ (x : Push). x.item) (within_sub w)) in
          omega (
            arith,
            count_is_passes (is v) (emitted unique_row p 0),
            emitted_once v p fine,
            ap (passes (is v)) (fine_shallow p fine),
            sub.at (is v),
            number_once v (filter shallow (items_in q)),
            count_is_passes (is v) (filter shallow (items_in q)),
          )

  unique_whole : (p q : List Push) (out : ℕ) → AreFine unique_row p → IsSameInput p q → IsSameBag (emitted unique_row p out) (unique_row.items q out)
  unique_whole p q out fine s = elim (cases_Bool (out == 0)) [
    | inl k ↦ (let z : out ≡ 0 = grind (arith, nat_tests) in rw z (record { at = λ v. at_first v }))
    | inr k ↦ rw (k, nothing_else out p k fine) (record { at = λ v. refl })
  ]
    where
      at_first : (v : Plain) → count v (emitted unique_row p 0) ≡ count v (distinct_of (filter shallow (items_in q)))
      at_first v =
          let same : Same (filter shallow (items_in p)) (filter shallow (items_in q)) = same_filter shallow (items_same s) in
          omega (
            arith,
            count_is_passes (is v) (emitted unique_row p 0),
            emitted_once v p fine,
            ap (passes (is v)) (fine_shallow p fine),
            same.at (is v),
            number_once v (filter shallow (items_in q)),
            count_is_passes (is v) (filter shallow (items_in q)),
          )

  pub unique_law : IsOperator unique_row
  unique_law = record {
    items_by_bag = λ p q out s. (
        let e : distinct_of (filter shallow (items_in p)) ≡ distinct_of (filter shallow (items_in q)) = by_bag (filter shallow (items_in p)) (filter shallow (items_in q)) (same_bag (same_filter shallow (items_same s))) in
        record { at = λ v. ap (λ vs. count v (cond (out == 0) vs [])) e });
    faults_by_bag = λ p q test s. (
        let same = same_map too_deep (same_filter is_too_deep (items_same s)) in
        count_is_passes test (unique_row.faults p) ∙ same.at test ∙ sym (count_is_passes test (unique_row.faults q)));
    sound = unique_sound;
    whole = λ p q es out fine e s. (
        let z : [] ≡ es = cc in
        rw (← z) (rw (append-nil (emitted unique_row p out)) (unique_whole p q out fine s)));
    faultless = λ p q es fine e s. none_of_same (unique_row.faults p) (unique_row.faults q) (same_map too_deep (same_filter is_too_deep (items_same s))) (ap (map too_deep) (fine_deep p fine));
    push_fault = λ p q x f fine e w. (
        let is = fault_is (is_too_deep x.item) x.item (news p x) f e in
        contains f (unique_row.faults q) (subst (λ g. In g (unique_row.faults q)) is.1 (in_deep x q (in_input x p q w) is.0)));
    close_fault = λ p q f fine e s. cc;
  }
