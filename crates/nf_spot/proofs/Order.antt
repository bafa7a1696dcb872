-- What an exchange of two places keeps.
use Rattle.std.proofs.Common.{◌≡◌, ℕ, ◌+◌, ◌<◌, ◌≤◌, List, length, get_or, set, Bool, true, false, refl, ap, sym, ◌∙◌, subst, arith, inl, inr, length-set}
use Rattle.std.specs.Prelude.{◌==◌, ◌&&◌, nat_lt, if◌then◌else◌, MatchBool}
use Rattle.std.proofs.lemmas.Bool.{cases_eq, cases_lt, true≢false}
use Rattle.std.proofs.lemmas.Bool.Decides.{nat_tests}
use Rattle.std.proofs.lemmas.List.{get_or-set_same, get_or-set_other}
use Rattle.nf_spot.specs.Order.{IsOrder, moved}

-- a fact of what stands at k after two writes
by_place : (xs : List ℕ) (i j a b k : ℕ) → i < length xs → j < length xs → (P : ℕ → Type 0) → (k ≡ j → P b) → ((k ≡ j → ⊥) → k ≡ i → P a)
    → ((k ≡ j → ⊥) → (k ≡ i → ⊥) → P (get_or xs k 0)) → P (get_or (set (set xs i a) j b) k 0)
by_place xs i j a b k li lj P first second third =
    let l : j < length (set xs i a) = (let e = length-set xs i a in omega arith) in
    elim (cases_eq k j) [
      | inl e ↦ subst P (sym (subst (λ m. get_or (set (set xs i a) j b) m 0 ≡ b) (sym e) (get_or-set_same (set xs i a) j b 0 l))) (first e)
      | inr n ↦ subst P (sym (get_or-set_other (set xs i a) j k b 0 n)) (elim (cases_eq k i) [
        | inl e ↦ subst P (sym (subst (λ m. get_or (set xs i a) m 0 ≡ a) (sym e) (get_or-set_same xs i a 0 li))) (second n e)
        | inr m ↦ subst P (sym (get_or-set_other xs i k a 0 m)) (third n m)
      ])
    ]

module _ (o p : List ℕ) (number place : ℕ) (h : IsOrder o p) (ln : number < length o) (lp : place < length o) where
  pub at_below : get_or p number 0 < length o
  at_below = h.place_below number ln

  pub other_below : get_or o place 0 < length p
  other_below = let e = h.same in let l = h.number_below place lp in omega arith

  number_in : number < length p
  number_in = let e = h.same in omega arith

  len_o : length (set (set o (get_or p number 0) (get_or o place 0)) place number) ≡ length o
  len_o = length-set (set o (get_or p number 0) (get_or o place 0)) place number ∙ length-set o (get_or p number 0) (get_or o place 0)

  len_p : length (set (set p (get_or o place 0) (get_or p number 0)) number place) ≡ length p
  len_p = length-set (set p (get_or o place 0) (get_or p number 0)) number place ∙ length-set p (get_or o place 0) (get_or p number 0)

  -- the two are one
  one_place : get_or p number 0 ≡ place → get_or o place 0 ≡ number
  one_place e = subst (λ m. get_or o m 0 ≡ number) e (h.number_at number ln)

  one_number : get_or o place 0 ≡ number → get_or p number 0 ≡ place
  one_number e = subst (λ m. get_or p m 0 ≡ place) e (h.place_of place lp)

  pub moved_place : (x : ℕ) → x < length o → get_or (set (set p (get_or o place 0) (get_or p number 0)) number place) x 0 ≡ moved o p number place x
  moved_place x l = by_place p (get_or o place 0) number (get_or p number 0) place x other_below number_in (λ v. v ≡ moved o p number place x)
      (λ e. let t : (x == number) ≡ true = grind (arith, nat_tests) in rw t refl)
      (λ n e. let t : (x == number) ≡ false = grind (arith, nat_tests) in let u : (x == get_or o place 0) ≡ true = grind (arith, nat_tests) in rw (t, u) refl)
      (λ n m. let t : (x == number) ≡ false = grind (arith, nat_tests) in let u : (x == get_or o place 0) ≡ false = grind (arith, nat_tests) in rw (t, u) refl)

  pub exchanged : IsOrder (set (set o (get_or p number 0) (get_or o place 0)) place number) (set (set p (get_or o place 0) (get_or p number 0)) number place)
  exchanged =
      let other = get_or o place 0 in
      let at = get_or p number 0 in
      let o2 = set (set o at other) place number in
      let p2 = set (set p other at) number place in
      record {
        same = len_p ∙ h.same ∙ sym len_o;
        place_below = λ x l. (let lx : x < length o = (let e = len_o in omega arith) in rw len_o (by_place p other number at place x other_below number_in (λ v. v < length o) (λ e. lp) (λ n e. at_below) (λ n m. h.place_below x lx)));
        number_at = λ x l. (let lx : x < length o = (let e = len_o in omega arith) in by_place p other number at place x other_below number_in (λ v. get_or o2 v 0 ≡ x)
            (λ e. get_or-set_same (set o at other) place number 0 (let f = length-set o at other in omega arith) ∙ sym e)
            (λ n e. by_place o at place other number at at_below lp (λ v. v ≡ x) (λ f. absurd (n (e ∙ one_place f))) (λ k f. sym e) (λ k m. absurd (m refl)))
            (λ n m. by_place o at place other number (get_or p x 0) at_below lp (λ v. v ≡ x)
            (λ f. absurd (m (sym (h.number_at x lx) ∙ ap (λ r. get_or o r 0) f)))
            (λ k f. absurd (n (sym (h.number_at x lx) ∙ ap (λ r. get_or o r 0) f ∙ h.number_at number ln)))
            (λ k f. h.number_at x lx)));
        number_below = λ k l. (let lk : k < length o = (let e = len_o in omega arith) in rw len_o (by_place o at place other number k at_below lp (λ v. v < length o) (λ e. ln) (λ n e. h.number_below place lp) (λ n m. h.number_below k lk)));
        place_of = λ k l. (let lk : k < length o = (let e = len_o in omega arith) in by_place o at place other number k at_below lp (λ v. get_or p2 v 0 ≡ k)
            (λ e. get_or-set_same (set p other at) number place 0 (let f = length-set p other at in let g = number_in in omega arith) ∙ sym e)
            (λ n e. by_place p other number at place other other_below number_in (λ v. v ≡ k) (λ f. absurd (n (e ∙ one_number f))) (λ m f. sym e) (λ m f. absurd (f refl)))
            (λ n m. by_place p other number at place (get_or o k 0) other_below number_in (λ v. v ≡ k)
            (λ f. absurd (m (sym (h.place_of k lk) ∙ ap (λ r. get_or p r 0) f)))
            (λ q f. absurd (n (sym (h.place_of k lk) ∙ ap (λ r. get_or p r 0) f ∙ h.place_of place lp)))
            (λ q f. h.place_of k lk)));
      }

-- ---- what a set has after an exchange

-- whether a set whose first c places are its own has x
abbrev in_first : List ℕ → ℕ → ℕ → ℕ → Bool
in_first p len c x = nat_lt x len && nat_lt (get_or p x 0) c

same_test : (len x v c d : ℕ) → (x < len → v < c → v < d) → (x < len → v < d → v < c) → (nat_lt x len && nat_lt v c) ≡ (nat_lt x len && nat_lt v d)
same_test len x v c d f g = elim (cases_lt x len) [
  | inl l ↦ (let t : nat_lt x len ≡ true = grind (arith, nat_tests) in rw t (elim (cases_lt v c) [
    | inl a ↦ (let p : v < d = f l a in let s : nat_lt v c ≡ true = grind (arith, nat_tests) in let u : nat_lt v d ≡ true = grind (arith, nat_tests) in s ∙ sym u)
    | inr b ↦ elim (cases_lt v d) [
      | inl a ↦ absurd (let q = g l a in omega arith)
      | inr e ↦ (let s : nat_lt v c ≡ false = grind (arith, nat_tests) in let u : nat_lt v d ≡ false = grind (arith, nat_tests) in s ∙ sym u)
    ]
  ]))
  | inr m ↦ (let t : nat_lt x len ≡ false = grind (arith, nat_tests) in rw t refl)
]

is_in : (len x v c : ℕ) → x < len → v < c → (nat_lt x len && nat_lt v c) ≡ true
is_in len x v c l m = let a : nat_lt x len ≡ true = grind (arith, nat_tests) in let b : nat_lt v c ≡ true = grind (arith, nat_tests) in rw (a, b) refl

isnt_in : (len x v c : ℕ) → c ≤ v → (nat_lt x len && nat_lt v c) ≡ false
isnt_in len x v c m = let b : nat_lt v c ≡ false = grind (arith, nat_tests) in rw b (elim (nat_lt x len) as (λ t. (t && false) ≡ false) [ true ↦ refl | false ↦ refl ])

past : (len x v c : ℕ) → len ≤ x → (nat_lt x len && nat_lt v c) ≡ false
past len x v c m = let b : nat_lt x len ≡ false = grind (arith, nat_tests) in rw b refl

module _ (o p o2 p2 : List ℕ) (number place c : ℕ) (h : IsOrder o p) (ln : number < length o) (lp : place < length o) (same : length o2 ≡ length o)
    (at : (x : ℕ) → x < length o → get_or p2 x 0 ≡ moved o p number place x) where
  -- the place of a number that didn't move
  unmoved : (x : ℕ) → x < length o → (x ≡ number → ⊥) → (x ≡ get_or o place 0 → ⊥) → get_or p2 x 0 ≡ get_or p x 0
  unmoved x l n m = let t : (x == number) ≡ false = grind (arith, nat_tests) in let u : (x == get_or o place 0) ≡ false = grind (arith, nat_tests) in at x l ∙ rw (t, u) refl

  moved_here : get_or p2 number 0 ≡ place
  moved_here = let t : (number == number) ≡ true = grind (arith, nat_tests) in at number ln ∙ rw t refl

  moved_there : (x : ℕ) → x < length o → (x ≡ number → ⊥) → x ≡ get_or o place 0 → get_or p2 x 0 ≡ get_or p number 0
  moved_there x l n e = let t : (x == number) ≡ false = grind (arith, nat_tests) in let u : (x == get_or o place 0) ≡ true = grind (arith, nat_tests) in at x l ∙ rw (t, u) refl

  -- the number that stood at the place stands below c exactly if the place does
  other_at : (x : ℕ) → x ≡ get_or o place 0 → get_or p x 0 ≡ place
  other_at x e = ap (λ r. get_or p r 0) e ∙ h.place_of place lp

  not_place : (x : ℕ) → x < length o → (x ≡ get_or o place 0 → ⊥) → get_or p x 0 ≡ place → ⊥
  not_place x l n e = n (sym (h.number_at x l) ∙ ap (λ r. get_or o r 0) e)

  at_other : (x : ℕ) → (x ≡ number → ⊥) → x ≡ get_or o place 0 → get_or p number 0 ≡ place → ⊥
  at_other x n e f = n (e ∙ subst (λ m. get_or o m 0 ≡ number) f (h.number_at number ln))

  pub inserted : place ≡ c → c ≤ get_or p number 0 → (x : ℕ) → (nat_lt x (length o2) && nat_lt (get_or p2 x 0) (c + 1)) ≡ (if x == number then true else (nat_lt x (length o) && nat_lt (get_or p x 0) c))
  inserted pc out x = rw same (elim (cases_lt x (length o)) [
    | inl l ↦ elim (cases_eq x number) [
      | inl e ↦ (let t : (x == number) ≡ true = grind (arith, nat_tests) in let f : get_or p2 x 0 ≡ place = ap (λ r. get_or p2 r 0) e ∙ moved_here in rw t (is_in (length o) x (get_or p2 x 0) (c + 1) l (omega arith)))
      | inr n ↦ (let t : (x == number) ≡ false = grind (arith, nat_tests) in rw t (elim (cases_eq x (get_or o place 0)) [
        | inl e ↦ (let f = moved_there x l n e in let g = other_at x e in let q = at_other x n e in isnt_in (length o) x (get_or p2 x 0) (c + 1) (omega arith) ∙ sym (isnt_in (length o) x (get_or p x 0) c (omega arith)))
        | inr m ↦ (let f = unmoved x l n m in let q = not_place x l m in rw f (same_test (length o) x (get_or p x 0) (c + 1) c (λ _ b. omega arith) (λ _ b. omega arith)))
      ]))
    ]
    | inr b ↦ (let t : (x == number) ≡ false = grind (arith, nat_tests) in rw t (past (length o) x (get_or p2 x 0) (c + 1) b ∙ sym (past (length o) x (get_or p x 0) c b)))
  ])

  pub removed : place + 1 ≡ c → get_or p number 0 < c → (x : ℕ) → (nat_lt x (length o2) && nat_lt (get_or p2 x 0) place) ≡ (if x == number then false else (nat_lt x (length o) && nat_lt (get_or p x 0) c))
  removed pc inside x = rw same (elim (cases_lt x (length o)) [
    | inl l ↦ elim (cases_eq x number) [
      | inl e ↦ (let t : (x == number) ≡ true = grind (arith, nat_tests) in let f : get_or p2 x 0 ≡ place = ap (λ r. get_or p2 r 0) e ∙ moved_here in rw t (isnt_in (length o) x (get_or p2 x 0) place (omega arith)))
      | inr n ↦ (let t : (x == number) ≡ false = grind (arith, nat_tests) in rw t (elim (cases_eq x (get_or o place 0)) [
        | inl e ↦ (let f = moved_there x l n e in let g = other_at x e in let q = at_other x n e in is_in (length o) x (get_or p2 x 0) place l (omega arith) ∙ sym (is_in (length o) x (get_or p x 0) c l (omega arith)))
        | inr m ↦ (let f = unmoved x l n m in let q = not_place x l m in rw f (same_test (length o) x (get_or p x 0) place c (λ _ b. omega arith) (λ _ b. omega arith)))
      ]))
    ]
    | inr b ↦ (let t : (x == number) ≡ false = grind (arith, nat_tests) in rw t (past (length o) x (get_or p2 x 0) place b ∙ sym (past (length o) x (get_or p x 0) c b)))
  ])

-- a set whose first places are all has all; else the number at the next place isn't in it
pub full_or_not : (o p : List ℕ) (c : ℕ) → IsOrder o p → c ≤ length o → MatchBool (c == length o) ((x : ℕ) → x < length o → (nat_lt x (length o) && nat_lt (get_or p x 0) c) ≡ true)
    ((x : ℕ) × (x < length o) × ((nat_lt x (length o) && nat_lt (get_or p x 0) c) ≡ false))
full_or_not o p c h le = elim (cases_eq c (length o)) [
  | inl e ↦ (let t : (c == length o) ≡ true = grind (arith, nat_tests) in rw t (λ x l. (let b = h.place_below x l in is_in (length o) x (get_or p x 0) c l (omega arith))))
  | inr n ↦ (let t : (c == length o) ≡ false = grind (arith, nat_tests) in let l : c < length o = omega arith in
      rw t (get_or o c 0, h.number_below c l, (let e = h.place_of c l in isnt_in (length o) (get_or o c 0) (get_or p (get_or o c 0) 0) c (omega arith))))
]

pub not_in : (len x v c : ℕ) → x < len → (nat_lt x len && nat_lt v c) ≡ false → c ≤ v
not_in len x v c l e = elim (cases_lt v c) [
  | inl m ↦ absurd (true≢false (sym (is_in len x v c l m) ∙ e))
  | inr m ↦ m
]

-- the same of what the code read: o1 and p1 are the lists that it lent
pub inserted_in : (o p o1 p1 o2 p2 : List ℕ) (number c : ℕ) → IsOrder o p → number < length o → (nat_lt number (length o) && nat_lt (get_or p number 0) c) ≡ false → length o2 ≡ length o1
    → ((x : ℕ) → x < length o1 → get_or p2 x 0 ≡ moved o1 p1 number c x) → o1 ≡ o → p1 ≡ p → (x : ℕ) → (nat_lt x (length o2) && nat_lt (get_or p2 x 0) (c + 1)) ≡ (if x == number then true else (nat_lt x (length o) && nat_lt (get_or p x 0) c))
inserted_in o p o1 p1 o2 p2 number c h ln out len mo eo ep =
    let above : c ≤ get_or p number 0 = not_in (length o) number (get_or p number 0) c ln out in
    let lc : c < length o = (let a = h.place_below number ln in omega arith) in
    inserted o p o2 p2 number c c h ln lc (len ∙ ap length eo) (λ x l. (let m : x < length o1 = (let e = ap length eo in omega arith) in mo x m ∙ (λ i. moved (eo i) (ep i) number c x))) refl above
