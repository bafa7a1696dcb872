-- Tickets that are left out are given up, one after another.
use Rattle.std.proofs.Common.{◌≡◌, ℕ, ◌+◌, List, [], ◌∷◌, true, cond, refl, ap, sym, subst, ◌∙◌, arith, map}
use Rattle.std.specs.Prelude.{◌==◌, None, count_by, is_some}
use Rattle.std.proofs.lemmas.Bool.Decides.{nat_tests}
use Rattle.nf_opstream.proofs.Tally.{one_if, count_is_passes}
use Rattle.nf_graph.specs.Rules.{Rules}
use Rattle.nf_machine.specs.declared.event.Event.TheVariants as e
use Rattle.nf_machine.specs.State as machine
use Rattle.nf_machine.specs.History.{IsHistory}
use Rattle.nf_flight.specs.declared.ticket.Ticket.{Ticket}
use Rattle.nf_flight.specs.Ticket.{number_of}
use Rattle.nf_flow.specs.Seen.{Seen, plain_of, events_of, state_of}
use Rattle.nf_flow.specs.Questions.{IsFlying}
use Rattle.nf_machine.specs.Legal.{AbortIsLegal}
use Rattle.nf_core.specs.Calls.{GivesUp, MayGiveUp}
use Rattle.nf_core.specs.Opening.{Opening}
use Rattle.nf_core.proofs.Seens.{in_flight}
use Rattle.nf_serial.specs.Serial.{IsIdle, is_start}
use Rattle.nf_serial.proofs.Turns.{tickets_grown}
use Rattle.nf_locked.specs.Out.{AreOut, flying, tallies, tally}
use Rattle.nf_locked.specs.Locked.{is_failure, is_lanes}
use Rattle.nf_locked.proofs.Frees.{counted, innocent, once_flying}
use Rattle.nf_locked.proofs.Returns.{Loses, out_left}
use Rattle.nf_locked.proofs.Steps.{abort_left}
use Rattle.nf_pool.specs.Sweep.{AreAmongOut, IsSwept}

pub unswept : (z : Seen) (out : List (List Ticket)) → AreOut z out → IsSwept z z out
unswept z out a = record { out = a; starts = refl; failures = refl }

-- a lane's list was swept
pub swept_then : {y z f : Seen} {ts : List Ticket} {rest : List (List Ticket)} → IsSwept y z (ts ∷ rest) → ((others : List (List Ticket)) → AreOut z (ts ∷ others) → IsSwept z f others) → IsSwept y f rest
swept_then {rest = rest} w law = let v = law rest w.out in record { out = v.out; starts = v.starts ∙ w.starts; failures = v.failures ∙ w.failures }

pub among_out : {y z : Seen} {ts : List Ticket} {rest : List (List Ticket)} → IsSwept y z (ts ∷ rest) → AreAmongOut z ts
among_out {rest = rest} w = record { others = rest; out = w.out }

pub list_ends : {y z : Seen} {rest : List (List Ticket)} → IsSwept y z ([] ∷ rest) → IsSwept y z rest
list_ends {y} {z} {rest} w = record {
  out = record { each = w.out.each.1; same = λ n. (let a : tally n [] + tallies n rest ≡ flying n z = w.out.same n in omega (arith, a)) };
  starts = w.starts;
  failures = w.failures;
}

pub first_flies : {y z : Seen} {t : Ticket} {ts : List Ticket} {rest : List (List Ticket)} → IsSwept y z ((t ∷ ts) ∷ rest) → IsFlying z t
first_flies w = w.out.each.0.0

pub swept_on : (R : Rules) {y z f : Seen} {t : Ticket} {ts : List Ticket} {rest : List (List Ticket)} → IsSwept y z ((t ∷ ts) ∷ rest) → IsHistory (plain_of z) R (events_of z) → GivesUp z t f → IsSwept y f (ts ∷ rest)
swept_on R {y} {z} {f} {t} {ts} {rest} w lawful up = record {
  out = out_left z f t ((t ∷ ts) ∷ rest) (ts ∷ rest) w.out loses (once_flying R z (number_of t) lawful)
      (tickets_grown z f (e.Abort (number_of t) up.cause) up.is ∙ abort_left (plain_of z) (state_of z) (number_of t) fly.ticket fly.there _);
  starts = (let a = counted is_start z f (e.Abort (number_of t) up.cause) up.is in let b = w.starts in omega (arith, a, b));
  failures = (
      let a = counted is_failure z f (e.Abort (number_of t) up.cause) up.is in
      let b = w.failures in
      let q : ◌≡◌ {A = ℕ} (cond (is_lanes up.cause) 1 0) 0 = rw (innocent up.cause up.innocent) refl in
      omega (arith, a, b, q));
} where
  fly : IsFlying z t
  fly = w.out.each.0.0

  loses : Loses t ((t ∷ ts) ∷ rest) (ts ∷ rest)
  loses = record {
    each = λ P all. (all.0.0, (all.0.1, all.1));
    same = λ m. (
        let a = count_is_passes (λ u. number_of u == m) ts in
        let b = count_is_passes (λ u. number_of u == m) (t ∷ ts) in
        omega (arith, a, b));
  }

-- where nothing is out, nothing is in flight
none_left : (ks : List machine.Ticket) → ((n : ℕ) → 0 ≡ count_by (λ (k : machine.Ticket). k.number == n) ks) → ks ≡ []
none_left [] h = refl
none_left (k ∷ ks) h = absurd (
    let a = h k.number in
    let p = count_is_passes (λ (v : machine.Ticket). v.number == k.number) (k ∷ ks) in
    let r : (k.number == k.number) ≡ true = grind (arith, nat_tests) in
    let f : one_if (k.number == k.number) ≡ 1 = ap one_if r in
    omega (arith, a, p, f))

pub all_swept : {y z : Seen} → IsSwept y z [] → IsIdle z
all_swept {y} {z} w = none_left (state_of z).tickets w.out.same

-- ---- what a loop has left

pub rest_first : {y z : Seen} (t : Ticket) (ts left : List Ticket) (rest : List (List Ticket)) → left ≡ t ∷ ts → IsSwept y z (left ∷ rest) → IsSwept y z ((t ∷ ts) ∷ rest)
rest_first {y} {z} t ts left rest is w = subst (λ (us : List Ticket). IsSwept y z (us ∷ rest)) is w

pub rest_none : {y z : Seen} (left : List Ticket) (rest : List (List Ticket)) → left ≡ [] → IsSwept y z (left ∷ rest) → IsSwept y z ([] ∷ rest)
rest_none {y} {z} left rest is w = subst (λ (us : List Ticket). IsSwept y z (us ∷ rest)) is w

pub lists_first : {V : Type 0} (f : V → List Ticket) {y z : Seen} (v : V) (vs left : List V) → left ≡ v ∷ vs → IsSwept y z (map f left) → IsSwept y z (f v ∷ map f vs)
lists_first {V} f {y} {z} v vs left is w = subst (λ (us : List V). IsSwept y z (map f us)) is w

pub lists_none : {V : Type 0} (f : V → List Ticket) {y z : Seen} (left : List V) → left ≡ [] → IsSwept y z (map f left) → IsSwept y z []
lists_none {V} f {y} {z} left is w = subst (λ (us : List V). IsSwept y z (map f us)) is w

pub unswept_as : (z : Seen) (ts left : List Ticket) (others : List (List Ticket)) → left ≡ ts → AreOut z (ts ∷ others) → IsSwept z z (left ∷ others)
unswept_as z ts left others same a = subst (λ (us : List Ticket). IsSwept z z (us ∷ others)) (sym same) (unswept z (ts ∷ others) a)

pub lists_unswept : {V : Type 0} (f : V → List Ticket) (z : Seen) (vs left : List V) → left ≡ vs → AreOut z (map f vs) → IsSwept z z (map f left)
lists_unswept {V} f z vs left same a = subst (λ (us : List V). IsSwept z z (map f us)) (sym same) (unswept z (map f vs) a)

-- ---- a ticket that is given up

-- in a run that is stopped it needs no cause
pub stopped_legal : (F : Opening) (z : Seen) (t : Ticket) → IsFlying z t → is_some (state_of z).stop ≡ true → MayGiveUp F.rules z t None
stopped_legal F z t f stopped = in_flight (state_of z) (number_of t) f.ticket (λ k. AbortIsLegal (plain_of z) F.rules (state_of z) k None) f.there stopped
