-- The tickets that are out, event by event.
use Rattle.std.proofs.Common.{◌≡◌, ℕ, ◌+◌, ◌≤◌, List, [], ◌∷◌, ◌++◌, true, refl, ap, sym, ◌∙◌, arith, inl, inr}
use Rattle.std.specs.Prelude.{Option, Some, None, ◌==◌, count_by}
use Rattle.std.specs.List.{AllByRecursion}
use Rattle.std.proofs.lemmas.Bool.{cases_Bool}
use Rattle.std.proofs.lemmas.Bool.Decides.{nat_tests}
use Rattle.nf_opstream.proofs.Tally.{passes, one_if, count_is_passes, tally-append}
use Rattle.nf_machine.specs.State as machine
use Rattle.nf_machine.specs.Step.{ticket_at, without, with_ticket}
use Rattle.nf_machine.proofs.Tickets.{found_tally}
use Rattle.nf_flight.specs.declared.ticket.Ticket.{Ticket}
use Rattle.nf_flight.specs.Ticket.{number_of}
use Rattle.nf_flight.proofs.Tickets.{at_with, at_without_other, found_number, if_number, or_ticket}
use Rattle.nf_flow.specs.Seen.{Seen, state_of}
use Rattle.nf_flow.specs.Questions.{IsFlying}
use Rattle.nf_locked.specs.Out.{AllOut, AreOut, flying, tallies, tally}

-- ---- lists of lists

pub all_on : {P Q : Ticket → Type 0} → ((t : Ticket) → P t → Q t) → (ts : List Ticket) → AllByRecursion P ts → AllByRecursion Q ts
all_on f [] h = tt
all_on f (t ∷ ts) h = (f t h.0, all_on f ts h.1)

pub all_out : {P Q : Ticket → Type 0} → ((t : Ticket) → P t → Q t) → (out : List (List Ticket)) → AllOut P out → AllOut Q out
all_out f [] h = tt
all_out f (ts ∷ out) h = (all_on f ts h.0, all_out f out h.1)

both_on : (P Q : Ticket → Type 0) (ts : List Ticket) → AllByRecursion P ts → AllByRecursion Q ts → AllByRecursion (λ t. P t × Q t) ts
both_on P Q [] h k = tt
both_on P Q (t ∷ ts) h k = ((h.0, k.0), both_on P Q ts h.1 k.1)

both_out : (P Q : Ticket → Type 0) (out : List (List Ticket)) → AllOut P out → AllOut Q out → AllOut (λ t. P t × Q t) out
both_out P Q [] h k = tt
both_out P Q (ts ∷ out) h k = (both_on P Q ts h.0 k.0, both_out P Q out h.1 k.1)

-- a number that isn't among them is no ticket's
none_on : (n : ℕ) (ts : List Ticket) → passes (λ u. number_of u == n) ts ≡ 0 → AllByRecursion (λ u. number_of u ≡ n → ⊥) ts
none_on n [] h = tt
none_on n (t ∷ ts) h = elim (cases_Bool (number_of t == n)) [
  | inl e ↦ absurd (let f : one_if (number_of t == n) ≡ 1 = ap one_if e in omega (arith, h, f))
  | inr e ↦ (let f : one_if (number_of t == n) ≡ 0 = ap one_if e in (λ same. grind (arith, nat_tests, e, same), none_on n ts (omega (arith, h, f))))
]

none_out : (n : ℕ) (out : List (List Ticket)) → tallies n out ≡ 0 → AllOut (λ u. number_of u ≡ n → ⊥) out
none_out n [] h = tt
none_out n (ts ∷ out) h =
    let p = count_is_passes (λ u. number_of u == n) ts in
    let s : tally n ts + tallies n out ≡ 0 = h in
    let here : passes (λ u. number_of u == n) ts ≡ 0 = omega (arith, s, p) in
    let there : tallies n out ≡ 0 = omega (arith, s) in
    (none_on n ts here, none_out n out there)

-- ---- one list changes

-- the ticket is out no more
pub record Loses (t : Ticket) (old new : List (List Ticket)) : Type 1 where
  pub each : (P : Ticket → Type 0) → AllOut P old → P t × AllOut P new
  pub same : (m : ℕ) → tallies m new + one_if (number_of t == m) ≡ tallies m old

-- the ticket is out, too
pub record Gains (t : Ticket) (old new : List (List Ticket)) : Type 1 where
  pub each : (P : Ticket → Type 0) → AllOut P old → P t → AllOut P new
  pub same : (m : ℕ) → tallies m new ≡ tallies m old + one_if (number_of t == m)

-- ---- events

-- those that leave the tickets in flight as they are
pub out_still : (z f : Seen) (out : List (List Ticket)) → (state_of f).tickets ≡ (state_of z).tickets → AreOut z out → AreOut f out
out_still z f out same a = record {
  each = all_out (λ u fly. record { ticket = fly.ticket; there = ap (ticket_at (number_of u)) same ∙ fly.there; is = fly.is }) out a.each;
  same = λ n. a.same n ∙ sym (ap (count_by (λ (k : machine.Ticket). k.number == n)) same);
}

-- another ticket is found as before
stays : (z f : Seen) (u : Ticket) → ticket_at (number_of u) (state_of f).tickets ≡ ticket_at (number_of u) (state_of z).tickets → IsFlying z u → IsFlying f u
stays z f u same fly = record { ticket = fly.ticket; there = same ∙ fly.there; is = fly.is }

-- how often a number is in flight without one that is
flying_without : (m n : ℕ) (ts : List machine.Ticket) (k : machine.Ticket) → ticket_at n ts ≡ Some k
    → count_by (λ (v : machine.Ticket). v.number == m) (without n ts) + one_if (n == m) ≡ count_by (λ (v : machine.Ticket). v.number == m) ts
flying_without m n ts k there =
    let a = found_tally (λ v. one_if (v.number == m)) n ts k there in
    let b = count_is_passes (λ (v : machine.Ticket). v.number == m) (without n ts) in
    let c = count_is_passes (λ (v : machine.Ticket). v.number == m) ts in
    let d : one_if (k.number == m) ≡ one_if (n == m) = ap (λ i. one_if (i == m)) (found_number n ts k there) in
    omega (arith, a, b, c, d)

flying_with : (m : ℕ) (ts : List machine.Ticket) (k : machine.Ticket)
    → count_by (λ (v : machine.Ticket). v.number == m) (ts ++ k ∷ []) ≡ count_by (λ (v : machine.Ticket). v.number == m) ts + one_if (k.number == m)
flying_with m ts k =
    let a = count_is_passes (λ (v : machine.Ticket). v.number == m) (ts ++ k ∷ []) in
    let b = count_is_passes (λ (v : machine.Ticket). v.number == m) ts in
    let c = tally-append (λ (v : machine.Ticket). one_if (v.number == m)) ts (k ∷ []) in
    omega (arith, a, b, c)

or_found : (o p : Option machine.Ticket) (k : machine.Ticket) → o ≡ Some k → or_ticket o p ≡ o
or_found None p k h = absurd (cc)
or_found (Some u) p k h = refl

module _ (z f : Seen) (t : Ticket) (old mid : List (List Ticket)) (a : AreOut z old) (loses : Loses t old mid)
    (once : count_by (λ (v : machine.Ticket). v.number == number_of t) (state_of z).tickets ≤ 1) where
  fly : IsFlying z t
  fly = (loses.each (IsFlying z) a.each).0

  -- its number isn't among those that are out still
  apart : AllOut (λ u. number_of u ≡ number_of t → ⊥) mid
  apart =
      let s = loses.same (number_of t) in
      let r : (number_of t == number_of t) ≡ true = grind (arith, nat_tests) in
      let e : one_if (number_of t == number_of t) ≡ 1 = ap one_if r in
      let o = a.same (number_of t) in
      none_out (number_of t) mid (omega (arith, s, e, o, once))

  others : AllOut (λ u. IsFlying z u × (number_of u ≡ number_of t → ⊥)) mid
  others = both_out (IsFlying z) (λ u. number_of u ≡ number_of t → ⊥) mid (loses.each (IsFlying z) a.each).1 apart

  -- the ticket's event ends it
  pub out_left : (state_of f).tickets ≡ without (number_of t) (state_of z).tickets → AreOut f mid
  out_left is = record {
    each = all_out (λ u h. stays z f u (ap (ticket_at (number_of u)) is ∙ at_without_other (number_of t) (number_of u) (state_of z).tickets h.1) h.0) mid others;
    same = λ m. (
        let s = loses.same m in
        let o = a.same m in
        let w = flying_without m (number_of t) (state_of z).tickets fly.ticket fly.there in
        let q = ap (count_by (λ (v : machine.Ticket). v.number == m)) is in
        omega (arith, s, o, w, q));
  }

  -- the ticket, changed, stays in flight, and out
  pub out_kept : (u : Ticket) (k : machine.Ticket) (new : List (List Ticket)) → (state_of f).tickets ≡ with_ticket k (without (number_of t) (state_of z).tickets)
      → k.number ≡ number_of t → number_of u ≡ number_of t → IsFlying f u → Gains u mid new → AreOut f new
  out_kept u k new is number same flies gains = record {
    each = gains.each (IsFlying f) (all_out (λ w h. stays z f w (found w h) h.0) mid others) flies;
    same = λ m. (
        let s = loses.same m in
        let g = gains.same m in
        let o = a.same m in
        let w = flying_without m (number_of t) (state_of z).tickets fly.ticket fly.there in
        let q : flying m f ≡ count_by (λ (v : machine.Ticket). v.number == m) (without (number_of t) (state_of z).tickets ++ k ∷ []) = ap (count_by (λ (v : machine.Ticket). v.number == m)) is in
        let b = flying_with m (without (number_of t) (state_of z).tickets) k in
        let c : one_if (k.number == m) ≡ one_if (number_of t == m) = ap (λ i. one_if (i == m)) number in
        let d : one_if (number_of u == m) ≡ one_if (number_of t == m) = ap (λ i. one_if (i == m)) same in
        omega (arith, s, g, o, w, q, b, c, d));
  } where
    found : (w : Ticket) → IsFlying z w × (number_of w ≡ number_of t → ⊥) → ticket_at (number_of w) (state_of f).tickets ≡ ticket_at (number_of w) (state_of z).tickets
    found w h =
        ap (ticket_at (number_of w)) is
        ∙ (at_with (number_of w) (without (number_of t) (state_of z).tickets) k
        ∙ (ap (λ o. or_ticket o (if_number (number_of w) k)) (at_without_other (number_of t) (number_of w) (state_of z).tickets h.1)
        ∙ (or_found (ticket_at (number_of w) (state_of z).tickets) (if_number (number_of w) k) h.0.ticket h.0.there)))

-- a Take: a ticket whose number wasn't in flight is out
pub out_more : (z f : Seen) (t : Ticket) (k : machine.Ticket) (old new : List (List Ticket)) → AreOut z old → (state_of f).tickets ≡ with_ticket k (state_of z).tickets → number_of t ≡ k.number
    → IsFlying f t → Gains t old new → AreOut f new
out_more z f t k old new a is number flies gains = record {
  each = gains.each (IsFlying f) (all_out (λ w fly. stays z f w (found w fly) fly) old a.each) flies;
  same = λ m. (
      let g = gains.same m in
      let o = a.same m in
      let q : flying m f ≡ count_by (λ (v : machine.Ticket). v.number == m) ((state_of z).tickets ++ k ∷ []) = ap (count_by (λ (v : machine.Ticket). v.number == m)) is in
      let b = flying_with m (state_of z).tickets k in
      let d : one_if (number_of t == m) ≡ one_if (k.number == m) = ap (λ i. one_if (i == m)) number in
      omega (arith, g, o, q, b, d));
} where
  found : (w : Ticket) → IsFlying z w → ticket_at (number_of w) (state_of f).tickets ≡ ticket_at (number_of w) (state_of z).tickets
  found w fly =
      ap (ticket_at (number_of w)) is
      ∙ (at_with (number_of w) (state_of z).tickets k ∙ or_found (ticket_at (number_of w) (state_of z).tickets) (if_number (number_of w) k) fly.ticket fly.there)
