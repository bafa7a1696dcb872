-- An operator that pairs items meets `IsOperator`.
use Rattle.std.proofs.Common.{◌≡◌, ℕ, ◌+◌, ◌≤◌, List, [], ◌∷◌, ◌++◌, Bool, true, false, cond, refl, ap, sym, ◌∙◌, subst, arith, ◌⊎◌, inl, inr}
use Rattle.std.specs.Prelude.{nat_lt, sum_by, count_by, map, filter, Ok, Err, is_ok}
use Rattle.std.specs.List.{flat_map}
use Rattle.std.specs.Ordering.{eq_by_cmp}
use Rattle.std.proofs.lemmas.Bool.{cases_Bool, true≢false}
use Rattle.std.proofs.lemmas.Bool.Decides.{nat_tests}
use Rattle.std.proofs.lemmas.List.Sums.{sum_by-cons}
use Rattle.nf_value.specs.Plain.{Plain}
use Rattle.nf_value.specs.Order.{value_cmp}
use Rattle.nf_bag.specs.Bag.{count}
use Rattle.nf_opstream.specs.Push.{Push, IsWithin, IsSameInput}
use Rattle.nf_opstream.specs.Fault.{Fault, too_deep}
use Rattle.nf_opstream.specs.Operator.{to_out, oks, errs, emitted, AreFine, IsOperator}
use Rattle.nf_opstream.specs.Alone.{is_too_deep, judged}
use Rattle.nf_opjoin.specs.Pairing.{Due, and_then, gathered, given, shown, deep_faults, Matching, twins, first_of_its_kind, repeats, pairs_of, pair_faults, pairing, IsMatching}
use Rattle.nf_opjoin.proofs.Sums.{Sums, Within, sum_by-plus, sum_alike, sum_less, count_by-append, count_by-flat_map, flat_alike, sent, sent-append}
use Rattle.nf_opjoin.proofs.Members.{In, contains, in_left, in_right, in_flat_map, in_input}

-- answers one after another
record Parts (r s : Due) : Type 0 where
  first : is_ok r ≡ true
  then_ok : is_ok s ≡ true
  all : oks (and_then r s) ≡ oks r ++ oks s

parts : (r s : Due) → is_ok (and_then r s) ≡ true → Parts r s
parts (Ok es) (Ok fs) h = record { first = refl; then_ok = refl; all = refl }
parts (Ok es) (Err f) h = absurd (true≢false (sym h))
parts (Err f) s h = absurd (true≢false (sym h))

fault_part : (r s : Due) (f : Fault) → and_then r s ≡ Err f → (r ≡ Err f) ⊎ (s ≡ Err f)
fault_part (Ok es) (Ok fs) f h = absurd (cc)
fault_part (Ok es) (Err g) f h = inr h
fault_part (Err g) s f h = inl h

no_errs : (r : Due) → is_ok r ≡ true → errs r ≡ []
no_errs (Ok es) h = refl
no_errs (Err g) h = absurd (true≢false (sym h))

in_errs : (r : Due) (f : Fault) → r ≡ Err f → In f (errs r)
in_errs r f e = subst (λ z. In f (errs z)) (sym e) (inl refl)

-- of values that are all given none is too deep, and each is shown
judged_shallow : (v : Plain) → is_ok (judged ((0, v) ∷ [])) ≡ true → is_too_deep v ≡ false
judged_shallow v h = elim (cases_Bool (is_too_deep v)) [
  | inl d ↦ absurd (let k : is_ok (judged ((0, v) ∷ [])) ≡ false = rw d refl in true≢false (sym h ∙ k))
  | inr d ↦ d
]

none_deep : (vs : List Plain) → is_ok (given vs) ≡ true → filter is_too_deep vs ≡ []
none_deep [] h = refl
none_deep (v ∷ vs) h =
    let c = parts (judged ((0, v) ∷ [])) (given vs) h in
    let d = judged_shallow v c.first in
    rw d (none_deep vs c.then_ok)

all_shown : (vs : List Plain) → is_ok (given vs) ≡ true → oks (given vs) ≡ shown vs
all_shown [] h = refl
all_shown (v ∷ vs) h =
    let c = parts (judged ((0, v) ∷ [])) (given vs) h in
    let d = judged_shallow v c.first in
    let one : oks (judged ((0, v) ∷ [])) ≡ (0, v) ∷ [] = rw d refl in
    let all : (0, v) ∷ shown vs ≡ shown (v ∷ vs) = rw d refl in
    c.all ∙ (λ i. one i ++ all_shown vs c.then_ok i) ∙ all

-- a fault of what is given is that of a value that is too deep
given_fault : (vs : List Plain) (f : Fault) → given vs ≡ Err f → In f (deep_faults vs)
given_fault [] f e = absurd (cc)
given_fault (v ∷ vs) f e = elim (fault_part (judged ((0, v) ∷ [])) (given vs) f e) [
  | inl k ↦ elim (cases_Bool (is_too_deep v)) [
    | inl d ↦ (
        let j : judged ((0, v) ∷ []) ≡ Err (too_deep v) = rw d refl in
        let is : f ≡ too_deep v = cc in
        rw d (inl is))
    | inr d ↦ absurd (
        let j : judged ((0, v) ∷ []) ≡ Ok ((0, v) ∷ []) = rw d refl in
        let z : ◌≡◌ {A = Due} (Ok ((0, v) ∷ [])) (Err f) = sym j ∙ k in
        cc)
  ]
  | inr k ↦ elim (cases_Bool (is_too_deep v)) [
    | inl d ↦ rw d (inr (given_fault vs f k))
    | inr d ↦ rw d (given_fault vs f k)
  ]
]

-- the sum of what is gathered
gathered_sent : (h : Push → Due) (p : List Push) (v : Plain) (out : ℕ) → is_ok (gathered h p) ≡ true → sent v out (oks (gathered h p)) ≡ sum_by (λ y. sent v out (oks (h y))) p
gathered_sent h [] v out k = refl
gathered_sent h (y ∷ p) v out k =
    let c = parts (gathered h p) (h y) k in
    omega (arith, ap (sent v out) c.all, sent-append v out (oks (gathered h p)) (oks (h y)), gathered_sent h p v out c.first, sum_by-cons (λ z. sent v out (oks (h z))) y p)

-- a fault of what is gathered
record Culprit (h : Push → Due) (p : List Push) (f : Fault) : Type 0 where
  push : Push
  among : In push p
  is : h push ≡ Err f

culprit : (h : Push → Due) (p : List Push) (f : Fault) → gathered h p ≡ Err f → Culprit h p f
culprit h [] f e = absurd (cc)
culprit h (y ∷ p) f e = elim (fault_part (gathered h p) (h y) f e) [
  | inl k ↦ (let c = culprit h p f k in record { push = c.push; among = inr c.among; is = c.is })
  | inr k ↦ record { push = y; among = inl refl; is = k }
]

-- if all together is fine, each part is
each_fine : (h : Push → Due) (p : List Push) → is_ok (gathered h p) ≡ true → (y : Push) → In y p → is_ok (h y) ≡ true
each_fine h [] k y i = absurd i
each_fine h (z ∷ p) k y i =
    let c = parts (gathered h p) (h z) k in
    elim i [ inl e ↦ ap (λ w. is_ok (h w)) e ∙ c.then_ok | inr m ↦ each_fine h p c.first y m ]

none_at_all : {A B : Type 0} (h : A → List B) (q : List A) → ((x : A) → In x q → h x ≡ []) → flat_map h q ≡ []
none_at_all h [] k = refl
none_at_all h (x ∷ q) k = (λ i. k x (inl refl) i ++ none_at_all h q (λ y m. k y (inr m)) i)

pub sends : Matching → Plain → ℕ → List Push → Push → ℕ
sends m v out q x = sum_by (λ y. sent v out (oks (m.pair x y))) q

-- how often a value is among the pairs of two inputs
pub matched : Matching → Plain → ℕ → List Push → List Push → ℕ
matched m v out p q = sum_by (sends m v out q) p

module _ (m : Matching) (law : IsMatching m) where
  abbrev steps : List Push → Push → Due
  steps p x = and_then (first_of_its_kind m p x) (and_then (gathered (m.pair x) p) (gathered (λ y. m.pair y x) p))

  kept : (p : List Push) (x : Push) → oks (first_of_its_kind m p x) ≡ []
  kept p x = by (nat_lt 0 (twins m x p))
    where
      by : (b : Bool) → oks (cond b (Err (m.repeated x)) (Ok [])) ≡ []
      by true = refl
      by false = refl

  record Gives (p : List Push) (x : Push) : Type 0 where
    judged : is_ok (m.judge x) ≡ true
    alone : is_ok (first_of_its_kind m p x) ≡ true
    first : is_ok (gathered (m.pair x) p) ≡ true
    second : is_ok (gathered (λ y. m.pair y x) p) ≡ true
    sum : (v : Plain) (out : ℕ) → sent v out (oks ((pairing m).gives p x)) ≡ sends m v out p x + sum_by (λ y. sent v out (oks (m.pair y x))) p

  gives : (p : List Push) (x : Push) → is_ok ((pairing m).gives p x) ≡ true → Gives p x
  unfolding sends
  gives p x h =
      let c = gathered (m.pair x) p in
      let d = gathered (λ y. m.pair y x) p in
      let b = first_of_its_kind m p x in
      let one = parts (m.judge x) (and_then b (and_then c d)) h in
      let two = parts b (and_then c d) one.then_ok in
      let three = parts c d two.then_ok in
      let all : oks ((pairing m).gives p x) ≡ oks c ++ oks d = one.all ∙ (λ i. law.quiet x i ++ two.all i) ∙ (λ i. kept p x i ++ three.all i) in
      record {
        judged = one.first;
        alone = two.first;
        first = three.first;
        second = three.then_ok;
        sum = λ v out. ap (sent v out) all ∙ sent-append v out (oks c) (oks d) ∙ (λ i. gathered_sent (m.pair x) p v out three.first i + gathered_sent (λ y. m.pair y x) p v out three.then_ok i);
      }

  -- one more push
  matched_more : (v : Plain) (out : ℕ) (p : List Push) (x : Push) → matched m v out (x ∷ p) (x ∷ p) ≡ matched m v out p p + (sends m v out p x + sum_by (λ y. sent v out (oks (m.pair y x))) p)
  unfolding matched sends
  matched_more v out p x =
      let none : sent v out (oks (m.pair x x)) ≡ 0 = ap (λ r. sent v out (oks r)) (law.no_self x) in
      let f : Push → ℕ = λ z. sent v out (oks (m.pair z x)) in
      let g : Push → ℕ = sends m v out p in
      omega (
        arith,
        none,
        sum_by-cons (sends m v out (x ∷ p)) x p,
        sum_by-cons (λ y. sent v out (oks (m.pair x y))) x p,
        sum_alike (sends m v out (x ∷ p)) (λ z. f z + g z) (λ z. sum_by-cons (λ y. sent v out (oks (m.pair z y))) x p) p,
        sum_by-plus f g p,
      )

  emitted_sum : (v : Plain) (out : ℕ) (p : List Push) → AreFine (pairing m) p → count v (emitted (pairing m) p out) ≡ matched m v out p p
  unfolding matched
  emitted_sum v out [] h = refl
  emitted_sum v out (x ∷ p) h =
      omega (arith, emitted_sum v out p h.1, count_by-append (λ y. eq_by_cmp value_cmp y v) (emitted (pairing m) p out) (to_out out (oks ((pairing m).gives p x))), (gives p x h.0).sum v out, matched_more v out p x)

  all_pairs_sum : (v : Plain) (out : ℕ) (q : List Push) → count v (flat_map (λ x. pairs_of m q x out) q) ≡ matched m v out q q
  unfolding matched sends
  all_pairs_sum v out q =
      count_by-flat_map (λ y. eq_by_cmp value_cmp y v) (λ x. pairs_of m q x out) q
      ∙ sum_alike (λ x. count v (pairs_of m q x out)) (sends m v out q) (λ x. count_by-flat_map (λ y. eq_by_cmp value_cmp y v) (λ y. to_out out (oks (m.pair x y))) q) q

  items_sum : (v : Plain) (out : ℕ) (q : List Push) → count v ((pairing m).items q out) ≡ matched m v out q q + sent v out (shown (m.left_over q))
  items_sum v out q = omega (arith, count_by-append (λ y. eq_by_cmp value_cmp y v) (flat_map (λ x. pairs_of m q x out) q) (to_out out (shown (m.left_over q))), all_pairs_sum v out q)

  matched_less : Within → (v : Plain) (out : ℕ) (p q : List Push) → IsWithin p q → matched m v out p p ≤ matched m v out q q
  unfolding matched sends
  matched_less within v out p q w =
      omega (arith, sum_less (sends m v out p) (sends m v out q) (λ x. within (λ y. sent v out (oks (m.pair x y))) p q w) p, within (sends m v out q) p q w)

  matched_alike : Sums → (v : Plain) (out : ℕ) (p q : List Push) → IsSameInput p q → matched m v out p p ≡ matched m v out q q
  unfolding matched sends
  matched_alike sums v out p q s =
      sum_alike (sends m v out p) (sends m v out q) (λ x. sums (λ y. sent v out (oks (m.pair x y))) p q s) p ∙ sums (sends m v out q) p q s

  -- a push that was fine had no twin before it, and is an item that may be paired
  pub fresh : (p : List Push) (x : Push) → AreFine (pairing m) (x ∷ p) → twins m x p ≡ 0
  fresh p x h = by (twins m x p) (nat_lt 0 (twins m x p)) refl (gives p x h.0).alone
    where
      by : (n : ℕ) (b : Bool) → nat_lt 0 n ≡ b → is_ok {T = List (ℕ × Plain)} {E = Fault} (cond b (Err (m.repeated x)) (Ok [])) ≡ true → n ≡ 0
      by n true e k = absurd (true≢false (sym k))
      by n false e k = grind (arith, nat_tests)

  pub judge_fine : (p : List Push) (x : Push) → AreFine (pairing m) (x ∷ p) → is_ok (m.judge x) ≡ true
  judge_fine p x h = (gives p x h.0).judged

  -- if no push had a fault, no item has two twins
  few_twins : (p : List Push) → AreFine (pairing m) p → (z : Push) → twins m z p ≤ 1
  few_twins [] h z = omega arith
  few_twins (x ∷ p) h z = elim (cases_Bool (m.twin z x)) [
    | inl e ↦ (
        let none : twins m x p ≡ 0 = fresh p x h in
        let same : twins m z p ≡ twins m x p = sum_alike (λ y. cond (m.twin z y) 1 0) (λ y. cond (m.twin x y) 1 0) (λ y. ap {B = ℕ} (λ b. cond b 1 0) (law.alike z x y e)) p in
        omega (arith, sum_by-cons (λ y. cond (m.twin z y) 1 0) x p, ap {B = ℕ} (λ b. cond b 1 0) e))
    | inr e ↦ omega (arith, sum_by-cons (λ y. cond (m.twin z y) 1 0) x p, ap {B = ℕ} (λ b. cond b 1 0) e, few_twins p h.1 z)
  ]

  twins_alike : Sums → (x : Push) (p q : List Push) → IsSameInput p q → twins m x p ≡ twins m x q
  twins_alike sums x p q s = sums (λ y. cond (m.twin x y) 1 0) p q s

  repeats_alike : Sums → (p q : List Push) → IsSameInput p q → (x : Push) → repeats m p x ≡ repeats m q x
  repeats_alike sums p q s x = ap {B = List Fault} (λ n. cond (nat_lt 1 n) (m.repeated x ∷ []) []) (twins_alike sums x p q s)

  faults_alike : Sums → (p q : List Push) (test : Fault → Bool) → IsSameInput p q → count_by test ((pairing m).faults p) ≡ count_by test ((pairing m).faults q)
  faults_alike sums p q test s =
      let judged = λ (x : Push). errs (m.judge x) in
      let a = flat_alike sums test judged judged (λ x. refl) p q s in
      let b = flat_alike sums test (repeats m p) (repeats m q) (λ x. ap (count_by test) (repeats_alike sums p q s x)) p q s in
      let c = flat_alike sums test (pair_faults m p) (pair_faults m q) (λ x. flat_alike sums test (λ y. errs (m.pair x y)) (λ y. errs (m.pair x y)) (λ y. refl) p q s) p q s in
      let d = ap (λ vs. count_by test (deep_faults vs)) (law.by_bag p q s) in
      whole (flat_map judged p) (flat_map judged q) (flat_map (repeats m p) p) (flat_map (repeats m q) q) (flat_map (pair_faults m p) p) (flat_map (pair_faults m q) q) (deep_faults (m.left_over p)) (deep_faults (m.left_over q)) a b c d
    where
      whole : (a e b f c g d h : List Fault) → count_by test a ≡ count_by test e → count_by test b ≡ count_by test f → count_by test c ≡ count_by test g → count_by test d ≡ count_by test h
          → count_by test (a ++ (b ++ (c ++ d))) ≡ count_by test (e ++ (f ++ (g ++ h)))
      whole a e b f c g d h i j k l = omega (
        arith,
        count_by-append test a (b ++ (c ++ d)),
        count_by-append test b (c ++ d),
        count_by-append test c d,
        count_by-append test e (f ++ (g ++ h)),
        count_by-append test f (g ++ h),
        count_by-append test g h,
      )

  -- if no push had a fault, each item may be paired
  fine_gives : (p : List Push) → AreFine (pairing m) p → (x : Push) → In x p → is_ok (m.judge x) ≡ true
  fine_gives [] h x i = absurd i
  fine_gives (y ∷ p) h x i = elim i [ inl e ↦ ap (λ z. is_ok (m.judge z)) e ∙ (gives p y h.0).judged | inr k ↦ fine_gives p h.1 x k ]

  fine_pairs : (p : List Push) → AreFine (pairing m) p → (x y : Push) → In x p → In y p → is_ok (m.pair x y) ≡ true
  fine_pairs [] h x y i j = absurd i
  fine_pairs (z ∷ p) h x y i j = elim i [
    | inl e ↦ elim j [
      | inl k ↦ (let one : m.pair x y ≡ Ok [] = (λ l. m.pair (e l) (k l)) ∙ law.no_self z in ap is_ok one)
      | inr k ↦ ap (λ w. is_ok (m.pair w y)) e ∙ each_fine (m.pair z) p (gives p z h.0).first y k
    ]
    | inr e ↦ elim j [
      | inl k ↦ ap (λ w. is_ok (m.pair x w)) k ∙ each_fine (λ w. m.pair w z) p (gives p z h.0).second x e
      | inr k ↦ fine_pairs p h.1 x y e k
    ]
  ]

  one_at_most : (n : ℕ) (x : Push) → n ≤ 1 → ◌≡◌ {A = List Fault} (cond (nat_lt 1 n) (m.repeated x ∷ []) []) []
  one_at_most n x h = let e : nat_lt 1 n ≡ false = grind (arith, nat_tests) in ap {B = List Fault} (λ b. cond b (m.repeated x ∷ []) []) e

  no_faults : (p : List Push) (es : List (ℕ × Plain)) → AreFine (pairing m) p → given (m.left_over p) ≡ Ok es → (pairing m).faults p ≡ []
  no_faults p es fine e =
      let a = none_at_all (λ x. errs (m.judge x)) p (λ x i. no_errs (m.judge x) (fine_gives p fine x i)) in
      let b = none_at_all (repeats m p) p (λ x i. one_at_most (twins m x p) x (few_twins p fine x)) in
      let c = none_at_all (pair_faults m p) p (λ x i. none_at_all (λ y. errs (m.pair x y)) p (λ y j. no_errs (m.pair x y) (fine_pairs p fine x y i j))) in
      let d : deep_faults (m.left_over p) ≡ [] = ap (map too_deep) (none_deep (m.left_over p) (ap is_ok e)) in
      (λ i. a i ++ (b i ++ (c i ++ d i)))

  -- if an input has no fault, it has none in another order
  none_alike : Sums → (p q : List Push) → IsSameInput p q → (pairing m).faults p ≡ [] → (pairing m).faults q ≡ []
  none_alike sums p q s e = empty ((pairing m).faults q) (sym (faults_alike sums p q (λ f. true) s) ∙ ap (count_by (λ f. true)) e)
    where
      empty : (fs : List Fault) → count_by (λ f. true) fs ≡ 0 → fs ≡ []
      empty [] k = refl
      empty (f ∷ fs) k = absurd (omega (arith, sum_by-cons (λ (g : Fault). 1) f fs))

  -- a fault of a push is a fault of the input
  judge_fault : (q : List Push) (x : Push) (f : Fault) → In x q → m.judge x ≡ Err f → In f ((pairing m).faults q)
  judge_fault q x f i e = in_left f (flat_map (λ y. errs (m.judge y)) q) _ (in_flat_map (λ y. errs (m.judge y)) x f q i (in_errs (m.judge x) f e))

  pair_fault : (q : List Push) (x y : Push) (f : Fault) → In x q → In y q → m.pair x y ≡ Err f → In f ((pairing m).faults q)
  pair_fault q x y f i j e =
      let inner : In f (pair_faults m q x) = in_flat_map (λ z. errs (m.pair x z)) y f q j (in_errs (m.pair x y) f e) in
      in_right f (flat_map (λ z. errs (m.judge z)) q) _ (in_right f (flat_map (repeats m q) q) _ (in_left f (flat_map (pair_faults m q) q) _ (in_flat_map (pair_faults m q) x f q i inner)))

  repeat_fault : Within → (p q : List Push) (x : Push) (f : Fault) → IsWithin (x ∷ p) q → In x q → first_of_its_kind m p x ≡ Err f → In f ((pairing m).faults q)
  repeat_fault within p q x f w i e = elim (cases_Bool (nat_lt 0 (twins m x p))) [
    | inl t ↦ (
        let some : 1 ≤ twins m x p = grind (arith, nat_tests) in
        let self : m.twin x x ≡ true = has_self p some in
        let two : 2 ≤ twins m x q = omega (arith, within (λ y. cond (m.twin x y) 1 0) (x ∷ p) q w, sum_by-cons (λ y. cond (m.twin x y) 1 0) x p, ap {B = ℕ} (λ b. cond b 1 0) self) in
        let over : nat_lt 1 (twins m x q) ≡ true = grind (arith, nat_tests) in
        let is : f ≡ m.repeated x = named (nat_lt 0 (twins m x p)) t e in
        let inner : In f (repeats m q x) = subst (λ b. In f (cond b (m.repeated x ∷ []) [])) (sym over) (inl is) in
        in_right f (flat_map (λ z. errs (m.judge z)) q) _ (in_left f (flat_map (repeats m q) q) _ (in_flat_map (repeats m q) x f q i inner)))
    | inr t ↦ absurd (none (nat_lt 0 (twins m x p)) t e)
  ]
    where
      has_self : (p : List Push) → 1 ≤ twins m x p → m.twin x x ≡ true
      has_self [] h = absurd (omega arith)
      has_self (y ∷ p) h = elim (cases_Bool (m.twin x y)) [
        | inl t ↦ law.itself x y t
        | inr t ↦ has_self p (omega (arith, sum_by-cons (λ z. cond (m.twin x z) 1 0) y p, ap {B = ℕ} (λ b. cond b 1 0) t))
      ]

      named : (b : Bool) → b ≡ true → ◌≡◌ {A = Due} (cond b (Err (m.repeated x)) (Ok [])) (Err f) → f ≡ m.repeated x
      named true h k = cc
      named false h k = absurd (true≢false (sym h))

      none : (b : Bool) → b ≡ false → ◌≡◌ {A = Due} (cond b (Err (m.repeated x)) (Ok [])) (Err f) → ⊥
      none true h k = true≢false h
      none false h k = cc

  push_fault : Within → (p q : List Push) (x : Push) (f : Fault) → (pairing m).gives p x ≡ Err f → IsWithin (x ∷ p) q → In f ((pairing m).faults q)
  push_fault within p q x f e w =
      let here : In x q = in_input x (x ∷ p) q w (inl refl) in
      let there : (y : Push) → In y p → In y q = λ y i. in_input y (x ∷ p) q w (inr i) in
      elim (fault_part (m.judge x) (steps p x) f e) [
        | inl k ↦ judge_fault q x f here k
        | inr k ↦ elim (fault_part (first_of_its_kind m p x) (and_then (gathered (m.pair x) p) (gathered (λ y. m.pair y x) p)) f k) [
          | inl l ↦ repeat_fault within p q x f w here l
          | inr l ↦ elim (fault_part (gathered (m.pair x) p) (gathered (λ y. m.pair y x) p) f l) [
            | inl n ↦ (let c = culprit (m.pair x) p f n in pair_fault q x c.push f here (there c.push c.among) c.is)
            | inr n ↦ (let c = culprit (λ y. m.pair y x) p f n in pair_fault q c.push x f (there c.push c.among) here c.is)
          ]
        ]
      ]

  last_fault : (q : List Push) (f : Fault) → given (m.left_over q) ≡ Err f → In f ((pairing m).faults q)
  last_fault q f e = in_right f (flat_map (λ z. errs (m.judge z)) q) _ (in_right f (flat_map (repeats m q) q) _ (in_right f (flat_map (pair_faults m q) q) _ (given_fault (m.left_over q) f e)))

  pub pairing_law : Sums → Within → IsOperator (pairing m)
  pairing_law sums within = record {
    items_by_bag = λ p q out s. record { at = λ v. omega (arith, items_sum v out p, items_sum v out q, matched_alike sums v out p q s, ap (λ vs. sent v out (shown vs)) (law.by_bag p q s)) };
    faults_by_bag = λ p q test s. faults_alike sums p q test s;
    sound = λ p q out fine w. record { at = λ v. omega (arith, emitted_sum v out p fine, items_sum v out q, matched_less within v out p q w) };
    whole = λ p q es out fine e s. record {
      at = λ v. omega (
        arith,
        emitted_sum v out p fine,
        items_sum v out q,
        matched_alike sums v out p q s,
        ap (sent v out) (ap oks (sym e) ∙ all_shown (m.left_over p) (ap is_ok e) ∙ ap shown (law.by_bag p q s)),
        count_by-append (λ y. eq_by_cmp value_cmp y v) (emitted (pairing m) p out) (to_out out es),
      );
    };
    faultless = λ p q es fine e s. none_alike sums p q s (no_faults p es fine e);
    push_fault = λ p q x f fine e w. contains f ((pairing m).faults q) (push_fault within p q x f e w);
    close_fault = λ p q f fine e s. contains f ((pairing m).faults q) (last_fault q f (ap given (sym (law.by_bag p q s)) ∙ e));
  }
