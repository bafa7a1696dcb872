-- Lists of tickets, by their numbers.
use Rattle.std.proofs.Common.{◌≡◌, ℕ, suc, ◌≤◌, List, [], ◌∷◌, length, true, false, refl, ap, sym, ◌∙◌, subst, arith, inl, inr}
use Rattle.std.specs.Prelude.{◌==◌, if◌then◌else◌}
use Rattle.std.specs.declared.option.Option.{Option}
use Rattle.std.specs.declared.option.Option.TheVariants.{None, Some}
use Rattle.std.proofs.lemmas.Bool.{cases_Bool, cases_eq}
use Rattle.std.proofs.lemmas.Bool.Decides.{nat_tests}
use Rattle.nf_machine.proofs.Tally.{passes, one_if}
use Rattle.nf_machine.specs.State.{Ticket}
use Rattle.nf_machine.specs.Step.{ticket_at, without, with_ticket}

abbrev pub or_ticket : Option Ticket → Option Ticket → Option Ticket
or_ticket None o = o
or_ticket (Some k) o = Some k

pub or_none : (o : Option Ticket) → or_ticket o None ≡ o
or_none None = refl
or_none (Some k) = refl

abbrev pub if_number : ℕ → Ticket → Option Ticket
if_number t k = if k.number == t then Some k else None

pub number_yes : (t : ℕ) (k : Ticket) → k.number ≡ t → if_number t k ≡ Some k
number_yes t k h = let e : (k.number == t) ≡ true = grind (arith, nat_tests) in rw e refl

pub number_no : (t : ℕ) (k : Ticket) → (k.number ≡ t → ⊥) → if_number t k ≡ None
number_no t k h = let e : (k.number == t) ≡ false = grind (arith, nat_tests) in rw e refl

pub found_number : (t : ℕ) (ks : List Ticket) (k : Ticket) → ticket_at t ks ≡ Some k → k.number ≡ t
found_number t [] k h = absurd cc
found_number t (u ∷ us) k h = elim (cases_Bool (u.number == t)) [
  | inl e ↦ (let a : Some u ≡ Some k = (rw e at h) in let b : u ≡ k = cc in let q : u.number ≡ t = grind (arith, nat_tests) in sym (ap (λ (z : Ticket). z.number) b) ∙ q)
  | inr e ↦ (let a : ticket_at t us ≡ Some k = (rw e at h) in found_number t us k a)
]

pub at_with : (t : ℕ) (ks : List Ticket) (k : Ticket) → ticket_at t (with_ticket k ks) ≡ or_ticket (ticket_at t ks) (if_number t k)
at_with t [] k = refl
at_with t (u ∷ us) k = elim (cases_Bool (u.number == t)) [
  | inl e ↦ rw e refl
  | inr e ↦ rw e (at_with t us k)
]

pub at_without_other : (t u : ℕ) (ks : List Ticket) → (u ≡ t → ⊥) → ticket_at u (without t ks) ≡ ticket_at u ks
at_without_other t u [] n = refl
at_without_other t u (k ∷ ks) n = elim (cases_Bool (k.number == t)) [
  | inl e ↦ (let q : k.number ≡ t = grind (arith, nat_tests) in let f : (k.number == u) ≡ false = grind (arith, nat_tests) in rw (e, f) refl)
  | inr e ↦ rw e (ap (λ r. if k.number == u then Some k else r) (at_without_other t u ks n))
]

none_from_zero : (t : ℕ) (ks : List Ticket) → passes (λ k. k.number == t) ks ≡ 0 → ticket_at t ks ≡ None
none_from_zero t [] h = refl
none_from_zero t (k ∷ ks) h = elim (cases_Bool (k.number == t)) [
  | inl e ↦ absurd (let f : one_if (k.number == t) ≡ 1 = ap one_if e in omega arith)
  | inr e ↦ (let f : one_if (k.number == t) ≡ 0 = ap one_if e in rw e (none_from_zero t ks (omega arith)))
]

pub zero_from_none : (t : ℕ) (ks : List Ticket) → ticket_at t ks ≡ None → passes (λ k. k.number == t) ks ≡ 0
zero_from_none t [] h = refl
zero_from_none t (k ∷ ks) h = elim (cases_Bool (k.number == t)) [
  | inl e ↦ absurd (let a : Some k ≡ None = (rw e at h) in cc)
  | inr e ↦ (let f : one_if (k.number == t) ≡ 0 = ap one_if e in let a : ticket_at t ks ≡ None = (rw e at h) in let g = zero_from_none t ks a in omega arith)
]

pub at_without_same : (t : ℕ) (ks : List Ticket) → passes (λ k. k.number == t) ks ≤ 1 → ticket_at t (without t ks) ≡ None
at_without_same t [] h = refl
at_without_same t (k ∷ ks) h = elim (cases_Bool (k.number == t)) [
  | inl e ↦ (let f : one_if (k.number == t) ≡ 1 = ap one_if e in rw e (none_from_zero t ks (omega arith)))
  | inr e ↦ (let f : one_if (k.number == t) ≡ 0 = ap one_if e in rw (e, e) (at_without_same t ks (omega arith)))
]

pub length_without : (t : ℕ) (ks : List Ticket) (k : Ticket) → ticket_at t ks ≡ Some k → length ks ≡ suc (length (without t ks))
length_without t [] k h = absurd cc
length_without t (u ∷ us) k h = elim (cases_Bool (u.number == t)) [
  | inl e ↦ rw e refl
  | inr e ↦ (let a : ticket_at t us ≡ Some k = (rw e at h) in rw e (ap suc (length_without t us k a)))
]

-- a fact of each ticket that is found
pub found_without : (t u : ℕ) (ks : List Ticket) (k : Ticket) → passes (λ z. z.number == t) ks ≤ 1 → ticket_at u (without t ks) ≡ Some k → ticket_at u ks ≡ Some k
found_without t u ks k once h = elim (cases_eq u t) [
  | inl e ↦ absurd (let a : ticket_at u (without t ks) ≡ None = subst (λ m. ticket_at m (without t ks) ≡ None) (sym e) (at_without_same t ks once) in let b : None ≡ Some k = sym a ∙ h in cc)
  | inr n ↦ sym (at_without_other t u ks n) ∙ h
]
