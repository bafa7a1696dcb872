-- Which tickets an event leaves in flight.
use Rattle.std.proofs.Common.{◌≡◌, ◌≢◌, ℕ, List, [], ◌∷◌, ◌++◌, Bool, true, false, cond, ap, sym, ◌∙◌, subst}
use Rattle.std.specs.Prelude.{◌+◌, nat_lt, option_map, Option, Some, None, Result, Ok, Err}
use Rattle.nf_value.specs.Plain.{Plain}
use Rattle.nf_value.specs.declared.fault.EvalFault.{EvalFault}
use Rattle.nf_opstream.specs.Push.{Push}
use Rattle.nf_job.specs.declared.report.Report.{Report}
use Rattle.nf_job.specs.declared.emitted.Outputs.TheVariants.{Emits, Ignored, Failed, Again}
use Rattle.nf_graph.specs.Node.{PlainNode, node_at}
use Rattle.nf_graph.specs.Meaning.{cost, put}
use Rattle.nf_graph.specs.Rules.{Outs}
use Rattle.nf_machine.specs.declared.event.Event.{Event}
use Rattle.nf_machine.specs.declared.event.Event.TheVariants as e
use Rattle.nf_machine.specs.Event.{place_of, answer_of, charge_stop, stop_of}
use Rattle.nf_machine.specs.State as machine
use Rattle.nf_machine.specs.State.{Spot, State}
use Rattle.nf_machine.specs.Step.{Given, step, passed_on, limit, next_item, ticket_at, take_at, without, with_ticket, at_ticket, or_stop, do_pass, do_give, do_finish, do_close, give_push, op_gives, op_ends, push_with}
use Rattle.nf_flight.specs.declared.ticket.Ticket.{Ticket}
use Rattle.nf_flight.specs.Ticket.{number_of}
use Rattle.nf_flight.proofs.Tickets.{at_with, at_without_other, or_ticket, if_number}
use Rattle.nf_flow.specs.Seen.{Seen, plain_of, state_of, event_in, grown}
use Rattle.nf_flow.specs.Questions.{IsFlying}
use Rattle.nf_flow.proofs.Growth.{state_grown}
use Rattle.nf_steps.specs.Run.{Stay, ticket_of}

-- what is found in a list is found in a longer one
pub found_with : (n : ℕ) (ks : List machine.Ticket) (k u : machine.Ticket) → ticket_at n ks ≡ Some k → ticket_at n (with_ticket u ks) ≡ Some k
found_with n ks k u there = at_with n ks u ∙ ap (λ o. or_ticket o (if_number n u)) there

pub found_without : (n t : ℕ) (ks : List machine.Ticket) (k : machine.Ticket) → (n ≡ t → ⊥) → ticket_at n ks ≡ Some k → ticket_at n (without t ks) ≡ Some k
found_without n t ks k other there = at_without_other t n ks other ∙ there

module _ (n : ℕ) (k : machine.Ticket) where
  -- the ticket of this number is in flight
  abbrev Has : State → Type 0
  Has s = ticket_at n s.tickets ≡ Some k

  pass_has : (s : State) (i p : ℕ) (x : Plain) → Has s → Has (do_pass s i p x)
  pass_has s i p x h = by (nat_lt limit (s.charge + cost x))
    where
      sp : Spot
      sp = passed_on (s.spots i) p

      by : (b : Bool) → Has (cond b
          (record s { spots = put s.spots i sp; charge = s.charge + cost x; stop = Some (charge_stop (s.charge + cost x)) })
          (record s { spots = put s.spots i (record sp { waiting = put sp.waiting p (sp.waiting p ++ x ∷ []) }); charge = s.charge + cost x }))
      by true = h
      by false = h

  push_has : (s : State) (i : ℕ) (x : Push) (given : Given) → Has s → Has (give_push s i x given)
  push_has s i x (Ok es) h = h
  push_has s i x (Err f) h = h

  close_has : (s : State) (i : ℕ) (given : Given) → Has s → Has (do_close s i given)
  close_has s i (Ok es) h = h
  close_has s i (Err f) h = h

  give_has : (g : List PlainNode) (s : State) (u : machine.Ticket) (a : Result Plain EvalFault) → Has s → Has (do_give g s u a)
  give_has g s u (Ok a) h = push_has s u.node (push_with u.take a) (op_gives (node_at g u.node).kind (s.spots u.node).pushed (push_with u.take a)) h
  give_has g s u (Err f) h = h

  finish_has : (s : State) (u : machine.Ticket) (r : Report) (outs : Outs) → Has s → Has (do_finish s u r outs)
  finish_has s u r (Ok Again) h = found_with n s.tickets k (record u { told = u.told ++ r ∷ []; started = false }) h
  finish_has s u r (Ok (Emits vs)) h = h
  finish_has s u r (Ok Ignored) h = h
  finish_has s u r (Ok (Failed f)) h = h
  finish_has s u r (Err f) h = h

  -- what is done to another ticket
  other_has : (s : State) (t : ℕ) (f : State → machine.Ticket → State) → (n ≡ t → ⊥) → ((u : machine.Ticket) → Has (record s { tickets = without t s.tickets }) → Has (f (record s { tickets = without t s.tickets }) u))
      → Has s → Has (at_ticket s t (ticket_at t s.tickets) f)
  other_has s t f other keeps h = by (ticket_at t s.tickets)
    where
      by : (o : Option machine.Ticket) → Has (at_ticket s t o f)
      by None = h
      by (Some u) = keeps u (found_without n t s.tickets k other h)

apart : (n t : ℕ) → Some t ≢ Some n → n ≡ t → ⊥
apart n t other e = other (ap Some (sym e))

module _ (g : List PlainNode) (s : State) (n : ℕ) (k : machine.Ticket) (h : ticket_at n s.tickets ≡ Some k) where
  started_has : (t : ℕ) → (n ≡ t → ⊥) → ticket_at n (at_ticket s t (ticket_at t s.tickets) (λ s' u. record s' { tickets = with_ticket (record u { started = true }) s'.tickets })).tickets ≡ Some k
  started_has t other = other_has n k s t (λ s' u. record s' { tickets = with_ticket (record u { started = true }) s'.tickets }) other (λ u w. found_with n (without t s.tickets) k (record u { started = true }) w) h

pub event_has : (z : Seen) (x : Event) (n : ℕ) (k : machine.Ticket) → ticket_of x ≢ Some n → ticket_at n (state_of z).tickets ≡ Some k → ticket_at n (step (plain_of z) (state_of z) (event_in z x)).tickets ≡ Some k
event_has z (e.Pass port) n k other h =
    let p = place_of (plain_of z) port in pass_has n k (state_of z) p.node p.port (next_item (plain_of z) (state_of z) p.node p.port) h
event_has z (e.Take node port place ticket m) n k other h =
    let s = state_of z in found_with n s.tickets k (record { number = s.next; node = node; take = take_at (plain_of z) s node port place; told = []; started = false }) h
event_has z (e.Give t answer) n k other h = other_has n k (state_of z) t (λ s' u. do_give (plain_of z) s' u (answer_of answer)) (apart n t other) (λ u w. give_has n k (plain_of z) (record (state_of z) { tickets = without t (state_of z).tickets }) u (answer_of answer) w) h
event_has z (e.Start t cause) n k other h = started_has (plain_of z) (state_of z) n k h t (apart n t other)
event_has z (e.Reuse t r outs) n k other h = other_has n k (state_of z) t (λ s' u. do_finish s' u r outs) (apart n t other) (λ u w. finish_has n k (record (state_of z) { tickets = without t (state_of z).tickets }) u r outs w) h
event_has z (e.Finish t r outs) n k other h = other_has n k (state_of z) t (λ s' u. do_finish s' u r outs) (apart n t other) (λ u w. finish_has n k (record (state_of z) { tickets = without t (state_of z).tickets }) u r outs w) h
event_has z (e.Close node) n k other h = close_has n k (state_of z) node (op_ends (node_at (plain_of z) node).kind ((state_of z).spots node).pushed) h
event_has z (e.Abort t cause) n k other h = other_has n k (state_of z) t (λ s' u. record s' { gone = u ∷ s'.gone; stop = or_stop s'.stop (option_map stop_of cause) }) (apart n t other) (λ u w. w) h
event_has z e.Halt n k other h = h

pub others_stay : (z : Seen) (x : Event) → Stay z (ticket_of x) (grown z x)
others_stay z x t f other = record {
  ticket = f.ticket;
  there = ap (λ (s : State). ticket_at (number_of t) s.tickets) (state_grown z x) ∙ event_has z x (number_of t) f.ticket other f.there;
  is = f.is;
}

pub halted_stay : (z u : Seen) → u ≡ grown z e.Halt → Stay z None u
halted_stay z u is t f other = subst (λ y. IsFlying y t) (sym is) (others_stay z e.Halt t f other)
