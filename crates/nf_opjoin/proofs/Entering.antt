-- What `join` emits for one more item, and at the close.
use Rattle.std.proofs.Common.{◌≡◌, ℕ, ◌+◌, ◌≤◌, List, [], ◌∷◌, ◌++◌, Bool, true, false, cond, not, ◌&&◌, ◌||◌, refl, ap, sym, ◌∙◌, subst, arith, inl, inr}
use Rattle.std.specs.Prelude.{◌==◌, nat_lt, sum_by, count_by, unwrap_or, Option, Some, None, is_some, is_ok, Ok, Err}
use Rattle.std.specs.Ordering.{eq_by_cmp}
use Rattle.std.proofs.lemmas.Bool.{cases_Bool, true≢false}
use Rattle.std.proofs.lemmas.Bool.Decides.{nat_tests}
use Rattle.std.proofs.lemmas.List.Sums.{sum_by-cons}
use Rattle.nf_value.specs.Plain.{Plain, null}
use Rattle.nf_value.specs.Order.{value_cmp}
use Rattle.nf_bag.specs.Bag.{count}
use Rattle.nf_opstream.specs.Push.{Push}
use Rattle.nf_opstream.specs.Fault.{Fault, not_a_tuple, duplicate_key}
use Rattle.nf_opstream.specs.Operator.{AreFine}
use Rattle.nf_opjoin.specs.Pairing.{Due, and_then, gathered, twins, first_of_its_kind, IsMatching}
use Rattle.nf_opjoin.specs.Tuples.{key_at, key_or_null, rest_at, has_key, same_key, is_left, meets}
use Rattle.nf_opjoin.specs.Combined.{tuple, joined}
use Rattle.nf_opjoin.specs.Joined.{same_side, partners, padded, lonely, all_lonely, join, join_row}
use Rattle.nf_opjoin.specs.Entered.{met, entered}
use Rattle.nf_opjoin.specs.After.{on_side, has, found, weight, is_matched}
use Rattle.nf_opjoin.proofs.Sums.{sum_alike, sum_by-plus, count_by-flat_map}
use Rattle.nf_opjoin.proofs.Members.{In, value_itself}
use Rattle.nf_opjoin.proofs.Listing.{then_nothing, nothing_then}
use Rattle.nf_opjoin.proofs.Joins.{not_met, keys_same, both}
use Rattle.nf_opjoin.proofs.Pairs.{fresh, judge_fine}

-- tests
pub and_true : (b : Bool) → (b && true) ≡ b
and_true true = refl
and_true false = refl

pub and_false : (b : Bool) → (b && false) ≡ false
and_false true = refl
and_false false = refl

or_false : (b : Bool) → (b || false) ≡ b
or_false true = refl
or_false false = refl

pub and_comm : (a b : Bool) → (a && b) ≡ (b && a)
and_comm true true = refl
and_comm true false = refl
and_comm false true = refl
and_comm false false = refl

pub key_turned : (o p : Option Plain) → same_key o p ≡ same_key p o
key_turned o p = elim (cases_Bool (same_key o p)) [
  | inl e ↦ (let s = keys_same o p e in (λ i. same_key (s i) (sym s i)))
  | inr e ↦ elim (cases_Bool (same_key p o)) [
    | inl k ↦ (let s = keys_same p o k in (λ i. same_key (sym s i) (s i)))
    | inr k ↦ e ∙ sym k
  ]
]

pub side_is : (b : Bool) (y : Push) → on_side b y ≡ true → is_left y ≡ b
side_is true y h = h
side_is false y h = turned (is_left y) h
  where
    turned : (a : Bool) → not a ≡ true → a ≡ false
    turned true k = absurd (true≢false (sym k))
    turned false k = refl

pub on_own : (b : Bool) (x : Push) → is_left x ≡ b → on_side b x ≡ true
on_own true x h = h
on_own false x h = ap not h

pub on_other : (b : Bool) (x : Push) → is_left x ≡ b → on_side (not b) x ≡ false
on_other true x h = ap not h
on_other false x h = h

is_none : {A : Type 0} (o : Option A) → is_some o ≡ false → o ≡ None
is_none None h = refl
is_none (Some a) h = absurd (true≢false h)

-- how often a key is there
any_there : (n : ℕ) (b : Bool) (k : Plain) (p : List Push) → nat_lt 0 (count_by (has n b k) p) ≡ is_some (found n b p k)
any_there n b k [] = refl
any_there n b k (y ∷ p) = elim (cases_Bool (has n b k y)) [
  | inl e ↦ (let one : 1 ≤ count_by (has n b k) (y ∷ p) = omega (arith, sum_by-cons (λ z. cond (has n b k z) 1 0) y p, ap {B = ℕ} (λ t. cond t 1 0) e) in
      some (count_by (has n b k) (y ∷ p)) one ∙ sym (ap {B = Bool} (λ t. is_some (cond t (Some (rest_at n y.item)) (found n b p k))) e))
  | inr e ↦ (let same : count_by (has n b k) (y ∷ p) ≡ count_by (has n b k) p = omega (arith, sum_by-cons (λ z. cond (has n b k z) 1 0) y p, ap {B = ℕ} (λ t. cond t 1 0) e) in
      ap (nat_lt 0) same ∙ any_there n b k p ∙ sym (ap {B = Bool} (λ t. is_some (cond t (Some (rest_at n y.item)) (found n b p k))) e))
]
  where
    some : (m : ℕ) → 1 ≤ m → nat_lt 0 m ≡ true
    some m h = grind (arith, nat_tests)

module _ (n : ℕ) (wanted : Bool) (law : IsMatching (join n wanted)) where
  twins_there : (x : Push) (k : Plain) → key_at n x.item ≡ Some k → (p : List Push) → nat_lt 0 (twins (join n wanted) x p) ≡ is_some (found n (is_left x) p k)
  twins_there x k e p = ap (λ o. nat_lt 0 (count_by (λ y. same_side x y && same_key o (key_at n y.item)) p)) e ∙ any_there n (is_left x) k p

  -- an item that was pushed had a new key
  new_key : (x : Push) (k : Plain) → key_at n x.item ≡ Some k → (p : List Push) → AreFine (join_row n wanted) (x ∷ p) → found n (is_left x) p k ≡ None
  new_key x k e p fine = is_none (found n (is_left x) p k) (sym (twins_there x k e p) ∙ ap (nat_lt 0) (fresh (join n wanted) law p x fine))

  gathered_met : (b first : Bool) (k : Plain) (r : List Plain) (h : Push → Due) → ((y : Push) → h y ≡ cond (has n b k y) (met first k r (Some (rest_at n y.item))) (Ok [])) → (p : List Push) → AreFine (join_row n wanted) p → gathered h p ≡ met first k r (found n b p k)
  gathered_met b first k r h is [] fine = refl
  gathered_met b first k r h is (y ∷ p) fine = elim (cases_Bool (has n b k y)) [
    | inl e ↦ (
        let t = both (on_side b y) (same_key (Some k) (key_at n y.item)) e in
        let key : key_at n y.item ≡ Some k = sym (keys_same (Some k) (key_at n y.item) t.1) in
        let none : found n b p k ≡ None = subst (λ c. found n c p k ≡ None) (side_is b y t.0) (new_key y k key p fine) in
        (λ i. and_then ((gathered_met b first k r h is p fine.1 ∙ ap (met first k r) none) i) ((is y ∙ ap {B = Due} (λ c. cond c (met first k r (Some (rest_at n y.item))) (Ok [])) e) i))
        ∙ nothing_then (met first k r (Some (rest_at n y.item))) ∙ sym (ap (λ c. met first k r (cond c (Some (rest_at n y.item)) (found n b p k))) e))
    | inr e ↦ (λ i. and_then (gathered_met b first k r h is p fine.1 i) ((is y ∙ ap {B = Due} (λ c. cond c (met first k r (Some (rest_at n y.item))) (Ok [])) e) i))
        ∙ then_nothing (met first k r (found n b p k)) ∙ sym (ap (λ c. met first k r (cond c (Some (rest_at n y.item)) (found n b p k))) e)
  ]

  gathered_none : (h : Push → Due) → ((y : Push) → h y ≡ Ok []) → (p : List Push) → gathered h p ≡ Ok []
  gathered_none h is [] = refl
  gathered_none h is (y ∷ p) = (λ i. and_then (gathered_none h is p i) (is y i))

  module _ (x : Push) (k : Plain) (r : List Plain) (key : key_at n x.item ≡ Some k) (rest : rest_at n x.item ≡ r) where
    left_pair : is_left x ≡ true → (y : Push) → joined n x y ≡ cond (has n false k y) (met true k r (Some (rest_at n y.item))) (Ok [])
    left_pair l y = (λ i. cond ((l i && not (is_left y)) && same_key (key i) (key_at n y.item)) (tuple (unwrap_or (key i) null ∷ (rest i ++ rest_at n y.item))) (Ok []))

    right_pair : is_left x ≡ false → (y : Push) → joined n y x ≡ cond (has n true k y) (met false k r (Some (rest_at n y.item))) (Ok [])
    right_pair l y = elim (cases_Bool (has n true k y)) [
      | inl e ↦ (
          let t = both (on_side true y) (same_key (Some k) (key_at n y.item)) e in
          let own : key_at n y.item ≡ Some k = sym (keys_same (Some k) (key_at n y.item) t.1) in
          (λ i. cond ((t.0 i && not (l i)) && same_key (own i) (key i)) (tuple (unwrap_or (own i) null ∷ (rest_at n y.item ++ rest i))) (Ok []))
          ∙ ap {B = Due} (λ c. cond c (tuple (k ∷ (rest_at n y.item ++ r))) (Ok [])) (value_itself k) ∙ sym (ap {B = Due} (λ c. cond c (met false k r (Some (rest_at n y.item))) (Ok [])) e))
      | inr e ↦ (
          let no : meets n y x ≡ false = (λ i. (is_left y && not (l i)) && same_key (key_at n y.item) (key i)) ∙ (λ i. and_true (is_left y) i && key_turned (key_at n y.item) (Some k) i) ∙ e in
          ap {B = Due} (λ c. cond c (tuple (key_or_null n y.item ∷ (rest_at n y.item ++ rest_at n x.item))) (Ok [])) no ∙ sym (ap {B = Due} (λ c. cond c (met false k r (Some (rest_at n y.item))) (Ok [])) e))
    ]

    pairs_are : (b : Bool) → is_left x ≡ b → (p : List Push) → AreFine (join_row n wanted) p → and_then (gathered (joined n x) p) (gathered (λ y. joined n y x) p) ≡ met b k r (found n (not b) p k)
    pairs_are true l p fine =
        (λ i. and_then (gathered_met false true k r (joined n x) (left_pair l) p fine i) (gathered_none (λ y. joined n y x) (λ y. not_met n y x (ap (λ c. is_left y && not c) l ∙ and_false (is_left y))) p i))
        ∙ then_nothing (met true k r (found n false p k))
    pairs_are false l p fine =
        (λ i. and_then (gathered_none (joined n x) (λ y. not_met n x y (ap (λ c. c && not (is_left y)) l)) p i) (gathered_met true false k r (λ y. joined n y x) (right_pair l) p fine i))
        ∙ nothing_then (met false k r (found n true p k))

    unless : (c : Bool) (f : Fault) (d : Due) → and_then (Ok []) (and_then (cond c (Err f) (Ok [])) d) ≡ cond c (Err f) d
    unless true f d = refl
    unless false f d = nothing_then (and_then (Ok []) d) ∙ nothing_then d

    -- the maps give what is due
    pub entered_due : (b : Bool) → is_left x ≡ b → (p : List Push) → AreFine (join_row n wanted) p → entered b k r (found n b p k) (found n (not b) p k) ≡ (join_row n wanted).gives p x
    entered_due b l p fine =
        let own : nat_lt 0 (twins (join n wanted) x p) ≡ is_some (found n b p k) = twins_there x k key p ∙ ap (λ c. is_some (found n c p k)) l in
        sym ((λ i. and_then (has_key (key i) x.item) (and_then (cond (own i) (Err (duplicate_key (unwrap_or (key i) null))) (Ok [])) (pairs_are b l p fine i)))
        ∙ unless (is_some (found n b p k)) (duplicate_key k) (met b k r (found n (not b) p k)))

    -- what is found then
    pub has_own : (b : Bool) → is_left x ≡ b → (q : Plain) → has n b q x ≡ eq_by_cmp value_cmp k q
    has_own b l q = (λ i. on_own b x l i && same_key (Some q) (key i)) ∙ key_turned (Some q) (Some k)

    pub has_other : (b : Bool) → is_left x ≡ b → (q : Plain) → has n (not b) q x ≡ false
    has_other b l q = ap (λ c. c && same_key (Some q) (key_at n x.item)) (on_other b x l)

    pub weight_own : (b : Bool) → is_left x ≡ b → (f : Plain → List Plain → ℕ) → weight n b f x ≡ f k r
    weight_own b l f = (λ i. cond (on_own b x l i) (f (unwrap_or (key i) null) (rest i)) 0)

    pub weight_other : (b : Bool) → is_left x ≡ b → (f : Plain → List Plain → ℕ) → weight n (not b) f x ≡ 0
    weight_other b l f = ap {B = ℕ} (λ c. cond c (f (key_or_null n x.item) (rest_at n x.item)) 0) (on_other b x l)

    -- how many partners there are
    partner_is : (b : Bool) → is_left x ≡ b → (y : Push) → (meets n x y || meets n y x) ≡ has n (not b) k y
    partner_is true l y =
        (λ i. ((l i && not (is_left y)) && same_key (key i) (key_at n y.item)) || ((is_left y && not (l i)) && same_key (key_at n y.item) (key i)))
        ∙ ap (λ c. (not (is_left y) && same_key (Some k) (key_at n y.item)) || (c && same_key (key_at n y.item) (Some k))) (and_false (is_left y)) ∙ or_false (not (is_left y) && same_key (Some k) (key_at n y.item))
    partner_is false l y =
        (λ i. ((l i && not (is_left y)) && same_key (key i) (key_at n y.item)) || ((is_left y && not (l i)) && same_key (key_at n y.item) (key i))) ∙ (λ i. and_true (is_left y) i && key_turned (key_at n y.item) (Some k) i)

    some_partner : (b : Bool) → is_left x ≡ b → (p : List Push) → nat_lt 0 (partners n p x) ≡ is_some (found n (not b) p k)
    some_partner b l p = ap (nat_lt 0) (sum_alike (λ y. cond (meets n x y || meets n y x) 1 0) (λ y. cond (has n (not b) k y) 1 0) (λ y. ap {B = ℕ} (λ c. cond c 1 0) (partner_is b l y)) p) ∙ any_there n (not b) k p

    own_found : (p : List Push) → In x p → is_some (found n (is_left x) p k) ≡ true
    own_found [] i = absurd i
    own_found (y ∷ p) i = elim (cases_Bool (has n (is_left x) k y)) [
      | inl e ↦ ap {B = Bool} (λ t. is_some (cond t (Some (rest_at n y.item)) (found n (is_left x) p k))) e
      | inr e ↦ elim i [
        | inl s ↦ absurd (true≢false (sym (ap (λ z. has n (is_left x) k z) (sym s) ∙ has_own (is_left x) refl k ∙ value_itself k) ∙ e))
        | inr m ↦ ap {B = Bool} (λ t. is_some (cond t (Some (rest_at n y.item)) (found n (is_left x) p k))) e ∙ own_found p m
      ]
    ]

    either : (m : Bool) (c : ℕ) (v w : Plain) → nat_lt 0 c ≡ m → ◌≡◌ {A = List Plain} (cond m [] (v ∷ [])) (cond (c == 0) (v ∷ []) [])
    either true c v w h = let z : (c == 0) ≡ false = grind (arith, nat_tests) in sym (ap {B = List Plain} (λ t. cond t (v ∷ []) []) z)
    either false c v w h = let z : (c == 0) ≡ true = grind (arith, nat_tests) in sym (ap {B = List Plain} (λ t. cond t (v ∷ []) []) z)

    -- an item is left over exactly if its key has no partner
    pub lonely_is : (b : Bool) → is_left x ≡ b → (p : List Push) → In x p → cond (is_matched n p k) [] (padded b k r ∷ []) ≡ lonely n p x
    lonely_is b l p i =
        let mine : is_some (found n b p k) ≡ true = ap (λ c. is_some (found n c p k)) (sym l) ∙ own_found p i in
        let all : is_matched n p k ≡ is_some (found n (not b) p k) = by b mine in
        ap {B = List Plain} (λ c. cond c [] (padded b k r ∷ [])) (all ∙ sym (some_partner b l p)) ∙ either (nat_lt 0 (partners n p x)) (partners n p x) (padded b k r) null refl
        ∙ sym (λ j. cond (is_some (key j) && (partners n p x == 0)) (padded (l j) (unwrap_or (key j) null) (rest j) ∷ []) [])
      where
        by : (b : Bool) → is_some (found n b p k) ≡ true → is_matched n p k ≡ is_some (found n (not b) p k)
        by true h = ap (λ c. c && is_some (found n false p k)) h
        by false h = ap (λ c. is_some (found n true p k) && c) h ∙ and_true (is_some (found n true p k))

  -- an item that is no tuple
  pub stray_due : (x : Push) → key_at n x.item ≡ None → (p : List Push) → (join_row n wanted).gives p x ≡ Err (not_a_tuple x.item)
  stray_due x e p = ap (λ o. and_then (has_key o x.item) (and_then (first_of_its_kind (join n wanted) p x) (and_then (gathered (joined n x) p) (gathered (λ y. joined n y x) p)))) e

  -- an item that was pushed has a key
  record HasKey (x : Push) : Type 0 where
    key : Plain
    is : key_at n x.item ≡ Some key

  key_of : (o : Option Plain) (v : Plain) → is_ok (has_key o v) ≡ true → (k : Plain) × (o ≡ Some k)
  key_of (Some k) v h = (k, refl)
  key_of None v h = absurd (true≢false (sym h))

  keys_there : (p : List Push) → AreFine (join_row n wanted) p → (x : Push) → In x p → HasKey x
  keys_there [] fine x i = absurd i
  keys_there (y ∷ p) fine x i = elim i [
    | inl e ↦ (let k = key_of (key_at n y.item) y.item (judge_fine (join n wanted) law p y fine) in record { key = k.0; is = ap (λ (z : Push). key_at n z.item) e ∙ k.1 })
    | inr m ↦ keys_there p fine.1 x m
  ]

  sum_among : (f g : Push → ℕ) (q : List Push) → ((x : Push) → In x q → f x ≡ g x) → sum_by f q ≡ sum_by g q
  sum_among f g [] h = refl
  sum_among f g (x ∷ q) h = omega (arith, h x (inl refl), sum_among f g q (λ y m. h y (inr m)), sum_by-cons f x q, sum_by-cons g x q)

  -- what is left over on each side
  abbrev pub left_over_on : Plain → List Push → Bool → Plain → List Plain → ℕ
  left_over_on v p b k r = count v (cond (is_matched n p k) [] (padded b k r ∷ []))

  pub leftovers : (v : Plain) (p : List Push) → AreFine (join_row n wanted) p → sum_by (weight n true (left_over_on v p true)) p + sum_by (weight n false (left_over_on v p false)) p ≡ count v (all_lonely n p)
  leftovers v p fine =
      sym (sum_by-plus (weight n true (left_over_on v p true)) (weight n false (left_over_on v p false)) p)
      ∙ sum_among (λ x. weight n true (left_over_on v p true) x + weight n false (left_over_on v p false) x) (λ x. count v (lonely n p x)) p one
      ∙ sym (count_by-flat_map (λ y. eq_by_cmp value_cmp y v) (lonely n p) p)
    where
      one : (x : Push) → In x p → weight n true (left_over_on v p true) x + weight n false (left_over_on v p false) x ≡ count v (lonely n p x)
      one x i = (
          let h = keys_there p fine x i in
          elim (cases_Bool (is_left x)) [
            | inl l ↦ omega (arith, weight_own x h.key (rest_at n x.item) h.is refl true l (left_over_on v p true), weight_other x h.key (rest_at n x.item) h.is refl true l (left_over_on v p false), ap (count v) (lonely_is x h.key (rest_at n x.item) h.is refl true l p i))
            | inr l ↦ omega (arith, weight_own x h.key (rest_at n x.item) h.is refl false l (left_over_on v p false), weight_other x h.key (rest_at n x.item) h.is refl false l (left_over_on v p true), ap (count v) (lonely_is x h.key (rest_at n x.item) h.is refl false l p i))
          ])
