-- Tickets in flight.
use Rattle.std.proofs.Common.{◌≡◌, ℕ, ◌+◌, List, [], ◌∷◌, Bool, true, false, ◌&&◌, refl, ap, sym, ◌∙◌, subst, arith, inl, inr}
use Rattle.std.specs.Prelude.{◌==◌, Some}
use Rattle.std.specs.List.{AllByRecursion}
use Rattle.std.proofs.lemmas.Bool.{cases_Bool}
use Rattle.std.proofs.lemmas.Bool.Decides.{nat_tests}
use Rattle.nf_job.specs.declared.report.Report.{Report}
use Rattle.nf_opstream.proofs.Tally.{tally, one_if, passes, tally-append}
use Rattle.nf_machine.specs.State.{Take, Ticket}
use Rattle.nf_machine.specs.Step.{ticket_at, without, with_ticket}
use Rattle.nf_machine.proofs.Good.{flying}
use Rattle.nf_machine.proofs.Frame.{SameFlight}

pub found_tally : (f : Ticket → ℕ) (t : ℕ) (ts : List Ticket) (k : Ticket) → ticket_at t ts ≡ Some k → tally f ts ≡ f k + tally f (without t ts)
found_tally f t [] k h = cc
found_tally f t (u ∷ us) k h = elim (cases_Bool (u.number == t)) [
  | inl e ↦ (let a : Some u ≡ Some k = (rw e at h) in let b : u ≡ k = cc in rw e (ap (λ (z : Ticket). f z + tally f us) b))
  | inr e ↦ (let a : ticket_at t us ≡ Some k = (rw e at h) in rw e (omega (arith, found_tally f t us k a)))
]

pub found_each : (P : Ticket → Type 0) (t : ℕ) (ts : List Ticket) (k : Ticket) → ticket_at t ts ≡ Some k → AllByRecursion P ts → P k
found_each P t [] k h each = absurd cc
found_each P t (u ∷ us) k h each = elim (cases_Bool (u.number == t)) [
  | inl e ↦ (let a : Some u ≡ Some k = (rw e at h) in let b : u ≡ k = cc in subst P b each.0)
  | inr e ↦ (let a : ticket_at t us ≡ Some k = (rw e at h) in found_each P t us k a each.1)
]

pub without_each : (P : Ticket → Type 0) (t : ℕ) (ts : List Ticket) → AllByRecursion P ts → AllByRecursion P (without t ts)
without_each P t [] each = tt
without_each P t (u ∷ us) each = elim (cases_Bool (u.number == t)) [
  | inl e ↦ rw e each.1
  | inr e ↦ rw e (each.0, without_each P t us each.1)
]

eq_self : (n : ℕ) → (n == n) ≡ true
eq_self n = grind (arith, nat_tests)

eq_not : (m n : ℕ) → (n ≡ m → ⊥) → (m == n) ≡ false
eq_not m n h = grind (arith, nat_tests)

-- a ticket more, and one less
pub flying_more : (p : Take → Bool) (k : Ticket) (ts : List Ticket) → flying k.node p (with_ticket k ts) ≡ one_if (p k.take) + flying k.node p ts
flying_more p k ts = tally-append (λ u. one_if ((u.node == k.node) && p u.take)) ts (k ∷ []) ∙ rw (eq_self k.node) (omega arith)

pub flying_less : (p : Take → Bool) (t : ℕ) (ts : List Ticket) (k : Ticket) → ticket_at t ts ≡ Some k → flying k.node p ts ≡ one_if (p k.take) + flying k.node p (without t ts)
flying_less p t ts k h = found_tally (λ u. one_if ((u.node == k.node) && p u.take)) t ts k h ∙ rw (eq_self k.node) refl

pub same_more : (k : Ticket) (ts : List Ticket) (j : ℕ) → (j ≡ k.node → ⊥) → SameFlight j ts (with_ticket k ts)
same_more k ts j h = record { at = λ p. tally-append (λ u. one_if ((u.node == j) && p u.take)) ts (k ∷ []) ∙ rw (eq_not k.node j h) (omega arith) }

pub same_less : (t : ℕ) (ts : List Ticket) (k : Ticket) → ticket_at t ts ≡ Some k → (j : ℕ) → (j ≡ k.node → ⊥) → SameFlight j ts (without t ts)
same_less t ts k e j h = record { at = λ p. sym (found_tally (λ u. one_if ((u.node == j) && p u.take)) t ts k e ∙ rw (eq_not k.node j h) (omega arith)) }

pub same_as : (j : ℕ) (ts : List Ticket) → SameFlight j ts ts
same_as j ts = record { at = λ p. refl }

pub same_on : {j : ℕ} {ts us vs : List Ticket} → SameFlight j ts us → SameFlight j us vs → SameFlight j ts vs
same_on a b = record { at = λ p. b.at p ∙ a.at p }

-- a node of a ticket in flight has one
pub none_in_flight : (t : ℕ) (ts : List Ticket) (k : Ticket) → ticket_at t ts ≡ Some k → passes (λ u. u.node == k.node) ts ≡ 0 → ⊥
none_in_flight t ts k e h = let a = found_tally (λ u. one_if (u.node == k.node)) t ts k e in let b : one_if (k.node == k.node) ≡ 1 = rw (eq_self k.node) refl in omega (arith, a)

-- a ticket comes back with another start or other reports
pub same_back : (t : ℕ) (ts : List Ticket) (k : Ticket) (told : List Report) (started : Bool) → ticket_at t ts ≡ Some k → (j : ℕ) → SameFlight j ts (with_ticket (record k { told = told; started = started }) (without t ts))
same_back t ts k told started e j = record { at = λ p. (let f : Ticket → ℕ = λ u. one_if ((u.node == j) && p u.take) in let a = tally-append f (without t ts) (record k { told = told; started = started } ∷ []) in let b = found_tally f t ts k e in omega (arith, a, b)) }

pub each_with : (P : Ticket → Type 0) (ts : List Ticket) (k : Ticket) → AllByRecursion P ts → P k → AllByRecursion P (with_ticket k ts)
each_with P [] k h x = (x, tt)
each_with P (t ∷ ts) k h x = (h.0, each_with P ts k h.1 x)
