-- Takes by the numbers of their tickets.
use Rattle.std.proofs.Common.{◌≡◌, ℕ, zero, suc, ◌+◌, ◌<◌, ◌≤◌, List, [], ◌∷◌, ◌++◌, map, length, get_or, set, Bool, true, false, refl, ap, sym, ◌∙◌, subst, arith, inl, inr}
use Rattle.std.specs.Prelude.{◌==◌, if◌then◌else◌, Option, Some, None}
use Rattle.std.proofs.lemmas.Bool.{cases_Bool}
use Rattle.std.proofs.lemmas.Bool.Decides.{nat_tests}
use Rattle.nf_graph.specs.Rules.{last_attempt}
use Rattle.nf_trace.specs.declared.task.TaskStatus.{TaskStatus}
use Rattle.nf_traced.specs.declared.taken.Taken.{Taken}
use Rattle.nf_traced.specs.Reading.{AreFew, IsNumbered, moved, noted}

-- ---- one take

if_ticket : (b : Bool) (x y : Taken) → y.ticket ≡ x.ticket → (if b then y else x).ticket ≡ x.ticket
if_ticket true x y e = e
if_ticket false x y e = refl

pub noted_ticket : (t : ℕ) (again : Bool) (st : TaskStatus) (x : Taken) → (noted t again st x).ticket ≡ x.ticket
noted_ticket t again st x = if_ticket (t == x.ticket) x (moved again st x) refl

pub noted_own : (t : ℕ) (again : Bool) (st : TaskStatus) (x : Taken) → (t == x.ticket) ≡ true → noted t again st x ≡ moved again st x
noted_own t again st x e = ap (λ b. if b then moved again st x else x) e

pub noted_other : (t : ℕ) (again : Bool) (st : TaskStatus) (x : Taken) → (t == x.ticket) ≡ false → noted t again st x ≡ x
noted_other t again st x e = ap (λ b. if b then moved again st x else x) e

-- ---- their numbers

pub numbered_noted : (t : ℕ) (again : Bool) (st : TaskStatus) (i : ℕ) (xs : List Taken) → IsNumbered i xs → IsNumbered i (map (noted t again st) xs)
numbered_noted t again st i [] h = tt
numbered_noted t again st i (x ∷ xs) h = (noted_ticket t again st x ∙ h.0, numbered_noted t again st (suc i) xs h.1)

pub numbered_more : (i : ℕ) (xs : List Taken) (x : Taken) → IsNumbered i xs → x.ticket ≡ i + length xs → IsNumbered i (xs ++ x ∷ [])
numbered_more i [] x h e = (omega (arith, e), tt)
numbered_more i (y ∷ ys) x h e = (h.0, numbered_more (suc i) ys x h.1 (omega (arith, e)))

-- a ticket before these
pub noted_later : (t : ℕ) (again : Bool) (st : TaskStatus) (i : ℕ) (xs : List Taken) → IsNumbered i xs → t < i → map (noted t again st) xs ≡ xs
noted_later t again st i [] h l = refl
noted_later t again st i (x ∷ xs) h l =
    let is : x.ticket ≡ i = h.0 in
    let apart : (t == x.ticket) ≡ false = grind (arith, nat_tests) in
    ap (λ y. y ∷ map (noted t again st) xs) (noted_other t again st x apart)
    ∙ ap (λ ys. x ∷ ys) (noted_later t again st (suc i) xs h.1 (omega (arith, l)))

-- a ticket after these
pub noted_past : (t : ℕ) (again : Bool) (st : TaskStatus) (i : ℕ) (xs : List Taken) → IsNumbered i xs → i + length xs ≤ t → map (noted t again st) xs ≡ xs
noted_past t again st i [] h l = refl
noted_past t again st i (x ∷ xs) h l =
    let is : x.ticket ≡ i = h.0 in
    let past : i < t = omega (arith, l) in
    let apart : (t == x.ticket) ≡ false = grind (arith, nat_tests) in
    ap (λ y. y ∷ map (noted t again st) xs) (noted_other t again st x apart)
    ∙ ap (λ ys. x ∷ ys) (noted_past t again st (suc i) xs h.1 (omega (arith, l)))

-- a ticket among these stands at its place
pub set_noted : (t : ℕ) (again : Bool) (st : TaskStatus) (i : ℕ) (xs : List Taken) (place : ℕ) (x : Taken) → IsNumbered i xs → t ≡ i + place → place < length xs
    → x ≡ get_or xs place x → set xs place (moved again st x) ≡ map (noted t again st) xs
set_noted t again st i [] place x h e l g = absurd (omega (arith, l))
set_noted t again st i (z ∷ zs) zero x h e l g =
    let is : z.ticket ≡ i = h.0 in
    let own : (t == z.ticket) ≡ true = grind (arith, nat_tests) in
    ap (λ y. moved again st y ∷ zs) g
    ∙ ap (λ y. y ∷ zs) (sym (noted_own t again st z own))
    ∙ ap (λ ys. noted t again st z ∷ ys) (sym (noted_later t again st (suc i) zs h.1 (omega (arith, e))))
set_noted t again st i (z ∷ zs) (suc p) x h e l g =
    let is : z.ticket ≡ i = h.0 in
    let past : i < t = omega (arith, e) in
    let apart : (t == z.ticket) ≡ false = grind (arith, nat_tests) in
    ap (λ ys. z ∷ ys) (set_noted t again st (suc i) zs p x h.1 (omega (arith, e)) (omega (arith, l)) g)
    ∙ ap (λ y. y ∷ map (noted t again st) zs) (sym (noted_other t again st z apart))

-- ---- the attempt that a ticket reached

abbrev pub reached_at : ℕ → List Taken → Option ℕ
reached_at t [] = None
reached_at t (x ∷ xs) = if t == x.ticket then Some x.reached else reached_at t xs

pub reached_past : (t i : ℕ) (xs : List Taken) → IsNumbered i xs → i + length xs ≤ t → reached_at t xs ≡ None
reached_past t i [] h l = refl
reached_past t i (x ∷ xs) h l =
    let is : x.ticket ≡ i = h.0 in
    let past : i < t = omega (arith, l) in
    let apart : (t == x.ticket) ≡ false = grind (arith, nat_tests) in
    ap (λ b. if b then Some x.reached else reached_at t xs) apart ∙ reached_past t (suc i) xs h.1 (omega (arith, l))

pub reached_left : (t : ℕ) (xs ys : List Taken) (v : ℕ) → reached_at t xs ≡ Some v → reached_at t (xs ++ ys) ≡ Some v
reached_left t [] ys v h = absurd cc
reached_left t (x ∷ xs) ys v h = elim (cases_Bool (t == x.ticket)) [
  | inl e ↦ ap (λ b. if b then Some x.reached else reached_at t (xs ++ ys)) e ∙ ap (λ b. if b then Some x.reached else reached_at t xs) (sym e) ∙ h
  | inr f ↦ ap (λ b. if b then Some x.reached else reached_at t (xs ++ ys)) f
      ∙ reached_left t xs ys v (ap (λ b. if b then Some x.reached else reached_at t xs) (sym f) ∙ h)
]

pub reached_new : (t : ℕ) (xs : List Taken) (x : Taken) → reached_at t xs ≡ None → x.ticket ≡ t → reached_at t (xs ++ x ∷ []) ≡ Some x.reached
reached_new t [] x h e = let own : (t == x.ticket) ≡ true = grind (arith, nat_tests) in ap (λ b. if b then Some x.reached else None) own
reached_new t (y ∷ ys) x h e = elim (cases_Bool (t == y.ticket)) [
  | inl own ↦ absurd (let a : Some y.reached ≡ None = ap (λ b. if b then Some y.reached else reached_at t ys) (sym own) ∙ h in cc)
  | inr f ↦ ap (λ b. if b then Some y.reached else reached_at t (ys ++ x ∷ [])) f
      ∙ reached_new t ys x (ap (λ b. if b then Some y.reached else reached_at t ys) (sym f) ∙ h) e
]

-- another ticket's is as before
pub reached_other : (t u : ℕ) (again : Bool) (st : TaskStatus) (xs : List Taken) → (u ≡ t → ⊥) → reached_at u (map (noted t again st) xs) ≡ reached_at u xs
reached_other t u again st [] ne = refl
reached_other t u again st (x ∷ xs) ne = elim (cases_Bool (t == x.ticket)) [
  | inl e ↦ (let is : t ≡ x.ticket = grind (arith, nat_tests) in
      let no : (u == x.ticket) ≡ false = grind (arith, nat_tests) in
      ap (λ y. reached_at u (y ∷ map (noted t again st) xs)) (noted_own t again st x e)
      ∙ ap (λ b. if b then Some (moved again st x).reached else reached_at u (map (noted t again st) xs)) no
      ∙ reached_other t u again st xs ne
      ∙ ap (λ b. if b then Some x.reached else reached_at u xs) (sym no))
  | inr f ↦ ap (λ y. reached_at u (y ∷ map (noted t again st) xs)) (noted_other t again st x f)
      ∙ ap (λ (o : Option ℕ). if u == x.ticket then Some x.reached else o) (reached_other t u again st xs ne)
]

pub reached_own : (t : ℕ) (again : Bool) (st : TaskStatus) (xs : List Taken) (v : ℕ) → reached_at t xs ≡ Some v
    → reached_at t (map (noted t again st) xs) ≡ Some (if again then v + 1 else v)
reached_own t again st [] v h = absurd cc
reached_own t again st (x ∷ xs) v h = elim (cases_Bool (t == x.ticket)) [
  | inl e ↦ (let a : Some x.reached ≡ Some v = ap (λ b. if b then Some x.reached else reached_at t xs) (sym e) ∙ h in
      let same : x.reached ≡ v = cc in
      ap (λ y. reached_at t (y ∷ map (noted t again st) xs)) (noted_own t again st x e)
      ∙ ap (λ b. if b then Some (moved again st x).reached else reached_at t (map (noted t again st) xs)) e
      ∙ ap (λ n. Some (if again then n + 1 else n)) same)
  | inr f ↦ ap (λ y. reached_at t (y ∷ map (noted t again st) xs)) (noted_other t again st x f)
      ∙ ap (λ b. if b then Some x.reached else reached_at t (map (noted t again st) xs)) f
      ∙ reached_own t again st xs v (ap (λ b. if b then Some x.reached else reached_at t xs) (sym f) ∙ h)
]

-- ---- no task has too many

pub few_more : (xs : List Taken) (x : Taken) → AreFew xs → x.reached ≤ last_attempt → AreFew (xs ++ x ∷ [])
few_more [] x h l = (l, tt)
few_more (y ∷ ys) x h l = (h.0, few_more ys x h.1 l)

pub few_same : (t : ℕ) (st : TaskStatus) (xs : List Taken) → AreFew xs → AreFew (map (noted t false st) xs)
few_same t st [] h = tt
few_same t st (x ∷ xs) h = (one (t == x.ticket), few_same t st xs h.1)
  where
    one : (b : Bool) → (if b then moved false st x else x).reached ≤ last_attempt
    one true = h.0
    one false = h.0

pub few_again : (t : ℕ) (st : TaskStatus) (i : ℕ) (xs : List Taken) (v : ℕ) → IsNumbered i xs → reached_at t xs ≡ Some v → v < last_attempt → AreFew xs → AreFew (map (noted t true st) xs)
few_again t st i [] v n h l few = tt
few_again t st i (x ∷ xs) v n h l few = elim (cases_Bool (t == x.ticket)) [
  | inl e ↦ (let a : Some x.reached ≡ Some v = ap (λ b. if b then Some x.reached else reached_at t xs) (sym e) ∙ h in
      let same : x.reached ≡ v = cc in
      let is : x.ticket ≡ i = n.0 in
      let before : t < suc i = grind (arith, nat_tests) in
      let rest : map (noted t true st) xs ≡ xs = noted_later t true st (suc i) xs n.1 before in
      let most : (moved true st x).reached ≤ last_attempt = omega (arith, same, l) in
      (subst (λ (z : Taken). z.reached ≤ last_attempt) (sym (noted_own t true st x e)) most, subst AreFew (sym rest) few.1))
  | inr f ↦ (subst (λ (z : Taken). z.reached ≤ last_attempt) (sym (noted_other t true st x f)) few.0, few_again t st (suc i) xs v n.1 (ap (λ b. if b then Some x.reached else reached_at t xs) (sym f) ∙ h) l few.1)
]
