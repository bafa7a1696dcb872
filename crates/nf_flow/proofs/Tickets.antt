-- Tickets come and go.
use Rattle.std.proofs.Common.{◌≡◌, ℕ, List, [], ◌∷◌, length, Bool, true, refl, ap, sym, ◌∙◌, subst, arith, inl, inr}
use Rattle.std.specs.Prelude.{◌==◌, Option, Some, None, count_by, option_map, if◌then◌else◌}
use Rattle.std.proofs.lemmas.Bool.{cases_Bool}
use Rattle.std.proofs.lemmas.List.{length_push, get_or_past}
use Rattle.nf_opstream.proofs.Tally.{one_if, count_is_passes, tally-append}
use Rattle.nf_job.specs.declared.report.Report.{Report}
use Rattle.nf_graph.specs.Node.{PlainNode}
use Rattle.nf_graph.specs.Rules.{Outs}
use Rattle.nf_machine.specs.declared.event.Cause.{Cause}
use Rattle.nf_machine.specs.Event.{PlainStop, start, abort, finish}
use Rattle.nf_machine.specs.State.{Ticket, State}
use Rattle.nf_machine.specs.Step.{ticket_at, without, with_ticket, or_stop, do_finish, at_ticket, step}
use Rattle.nf_machine.proofs.Tickets.{found_tally}
use Rattle.nf_flight.specs.declared.flight.Flight.{Flight}
use Rattle.nf_flight.specs.declared.flights.Flights.{Flights}
use Rattle.nf_flight.specs.Flights.{IsFlights, flight_at, flight_of}
use Rattle.nf_flight.proofs.Tickets.{at_with, length_without, number_yes, or_ticket}

-- the ticket stays in flight, otherwise than it was
pub length_back : (t : ℕ) (ts : List Ticket) (k w : Ticket) → ticket_at t ts ≡ Some k → length (with_ticket w (without t ts)) ≡ length ts
length_back t ts k w e = let a = length_without t ts k e in let b = length_push (without t ts) w in omega arith

pub count_back : (t : ℕ) (ts : List Ticket) (k w : Ticket) → ticket_at t ts ≡ Some k → w.node ≡ k.node → (i : ℕ) → count_by (λ (u : Ticket). u.node == i) (with_ticket w (without t ts)) ≡ count_by (λ (u : Ticket). u.node == i) ts
count_back t ts k w e n i =
    let f : Ticket → Bool = λ u. u.node == i in
    let a = count_is_passes f ts in let b = count_is_passes f (with_ticket w (without t ts)) in
    let c = found_tally (λ u. one_if (f u)) t ts k e in let d = tally-append (λ u. one_if (f u)) (without t ts) (w ∷ []) in
    let g : one_if (w.node == i) ≡ one_if (k.node == i) = ap (λ m. one_if (m == i)) n in omega (arith, a, b, c, d, g)

-- ---- the next ticket's number is free

pub none_next : (next : ℕ) (ts : List Ticket) (f : Flights) → IsFlights next ts f → ticket_at next ts ≡ None
none_next next ts f h = by (ticket_at next ts) (sym (h.each next) ∙ past)
  where
    none : Option Flight
    none = None

    past : flight_at f next ≡ none
    past = subst (λ n. flight_at f n ≡ none) h.next_is (get_or_past f.takes.items (length f.takes.items) none (omega arith))

    by : (o : Option Ticket) → option_map flight_of o ≡ none → o ≡ None
    by None e = refl
    by (Some k) e = absurd cc

pub found_new : (t : ℕ) (ts : List Ticket) (k : Ticket) → ticket_at t ts ≡ None → k.number ≡ t → ticket_at t (with_ticket k ts) ≡ Some k
found_new t ts k n e = at_with t ts k ∙ ap (λ o. or_ticket o (if k.number == t then Some k else None)) n ∙ number_yes t k e

pub new_left : (t : ℕ) (ts : List Ticket) (k : Ticket) → ticket_at t ts ≡ None → k.number ≡ t → without t (with_ticket k ts) ≡ ts
new_left t [] k n e = let y = number_yes t k e in elim (cases_Bool (k.number == t)) [ inl a ↦ rw a refl | inr a ↦ absurd (let b : None ≡ Some k = rw a at y in cc) ]
new_left t (u ∷ us) k n e = elim (cases_Bool (u.number == t)) [
  | inl a ↦ absurd (let b : Some u ≡ None = (rw a at n) in cc)
  | inr a ↦ (let b : ticket_at t us ≡ None = (rw a at n) in rw a (ap (λ vs. u ∷ vs) (new_left t us k b e)))
]

-- ---- what events on tickets do

module _ (g : List PlainNode) (s : State) (t : ℕ) (k : Ticket) (e : ticket_at t s.tickets ≡ Some k) where
  pub step_start : (cause : Cause) → step g s (start t cause) ≡ record s { tickets = with_ticket (record k { started = true }) (without t s.tickets) }
  step_start cause = ap (λ o. at_ticket s t o (λ s' k. record s' { tickets = with_ticket (record k { started = true }) (s'.tickets) })) e

  pub step_abort : (cause : Option PlainStop) → step g s (abort t cause) ≡ record s { tickets = without t s.tickets; gone = k ∷ s.gone; stop = or_stop s.stop cause }
  step_abort cause = ap (λ o. at_ticket s t o (λ s' k. record s' { gone = k ∷ s'.gone; stop = or_stop (s'.stop) cause })) e

  pub step_finish : (r : Report) (outs : Outs) → step g s (finish t r outs) ≡ do_finish (record s { tickets = without t s.tickets }) k r outs
  step_finish r outs = ap (λ o. at_ticket s t o (λ s' k. do_finish s' k r outs)) e
