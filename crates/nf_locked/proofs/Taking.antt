-- The ticket of a Take.
use Rattle.std.proofs.Common.{◌≡◌, ℕ, List, [], false, cond, refl, ap, sym, ◌∙◌, subst, arith, ◌⊎◌, inl, inr, length}
use Rattle.std.specs.Prelude.{Option, Some, None, ◌==◌}
use Rattle.nf_value.specs.Plain.{Plain}
use Rattle.nf_opstream.proofs.Tally.{passes}
use Rattle.nf_graph.specs.declared.node.Node.{Node}
use Rattle.nf_graph.specs.Node.{node_at}
use Rattle.nf_graph.specs.Rules.{Rules}
use Rattle.nf_graph.specs.WellMade.{plain_graph}
use Rattle.nf_machine.specs.declared.event.Event.TheVariants as e
use Rattle.nf_machine.specs.declared.stop.Stop.{Stop}
use Rattle.nf_machine.specs.State as machine
use Rattle.nf_machine.specs.State.{opening}
use Rattle.nf_machine.specs.Step.{take_at, ticket_at, with_ticket, without}
use Rattle.nf_machine.specs.History.{IsHistory}
use Rattle.nf_machine.specs.Legal.{IsOperatorKind, IsProcessKind}
use Rattle.nf_flow.specs.Steps.{MayTake}
use Rattle.nf_flight.specs.declared.ticket.Ticket.{Ticket}
use Rattle.nf_flight.specs.Ticket.{number_of, node_of, attempt_of}
use Rattle.nf_flow.specs.Seen.{Seen, plain_of, events_of, state_of, grown, take_of}
use Rattle.nf_flow.specs.Questions.{IsFlying, IsTicket}
use Rattle.nf_flow.proofs.Tickets.{found_new, new_left}
use Rattle.nf_core.specs.Opening.{Opening}
use Rattle.nf_core.proofs.Orderly.{history_orderly, made, opening_orderly}
use Rattle.nf_serial.proofs.Turns.{one_input, takers, tickets_grown}
use Rattle.nf_serial.specs.Serial.{is_start}
use Rattle.nf_locked.specs.Locked.{IsFree, failures_of, is_failure, is_lanes, starts_of}
use Rattle.nf_locked.specs.Leaves.{IsTaken}
use Rattle.nf_locked.specs.Out.{AreOut}
use Rattle.nf_locked.proofs.Frees.{counted, free_step, under}
use Rattle.nf_locked.proofs.Returns.{Gains, out_more, out_still}
use Rattle.nf_locked.proofs.Steps.{abort_left, none_found}

same_found : {A : Type 0} (a b : A) → Some a ≡ Some b → a ≡ b
same_found a b h = cc

module _ (R : Rules) (z f : Seen) (node port place : ℕ) (t : Ticket) (lawful : IsHistory (plain_of z) R (events_of z)) (may : MayTake z.graph (state_of z) node port place)
    (is : f ≡ grown z (take_of z node port place)) (number : number_of t ≡ (state_of z).next) (fly : IsFlying f t) where
  abbrev k : machine.Ticket
  k = made (state_of z) node (take_at (plain_of z) (state_of z) node port place)

  took : (state_of f).tickets ≡ with_ticket k (state_of z).tickets
  took = tickets_grown z f (take_of z node port place) is

  -- its number wasn't in flight
  none : ticket_at (state_of z).next (state_of z).tickets ≡ None
  none =
      let o = history_orderly (plain_of z) R (opening (plain_of z)) (events_of z) [] lawful (opening_orderly (plain_of z)) in
      let a : passes (λ (v : machine.Ticket). v.number == (state_of z).next) (state_of z).tickets ≡ 0 = o.fresh (state_of z).next (omega arith) in
      none_found (state_of z).next (state_of z).tickets a

  found : fly.ticket ≡ k
  found = same_found fly.ticket k (
      sym fly.there
      ∙ (ap (λ n. ticket_at n (state_of f).tickets) number
      ∙ (ap (ticket_at (state_of z).next) took ∙ found_new (state_of z).next (state_of z).tickets k none refl)))

  is_k : IsTicket t k
  is_k = subst (IsTicket t) found fly.is

  pub first_taken : attempt_of t ≡ 1
  first_taken = is_k.attempt

  pub is_taken : (F : Opening) → z.graph ≡ F.graph → IsTaken F t
  is_taken F graph = record {
    first = first_taken;
    kind = by_side (takers (node_at (plain_of z) node) (node_at (plain_of z) node).kind ((state_of z).spots node) port place may.ready);
    item = λ op. (
        let here : IsOperatorKind (node_at (plain_of z) node).kind = subst IsOperatorKind (sym there) op in
        ap (λ (xs : List Plain). length xs) (is_k.inputs ∙ one_input (node_at (plain_of z) node) (node_at (plain_of z) node).kind ((state_of z).spots node) _ here));
  } where
    there : (node_at (plain_of z) node).kind ≡ (node_at (plain_graph F.graph) (node_of t)).kind
    there = ap (λ (ns : List Node). (node_at (plain_graph ns) node).kind) graph ∙ ap (λ n. (node_at (plain_graph F.graph) n).kind) (sym is_k.node)

    by_side : IsOperatorKind (node_at (plain_of z) node).kind ⊎ IsProcessKind (node_at (plain_of z) node).kind
        → IsOperatorKind (node_at (plain_graph F.graph) (node_of t)).kind ⊎ IsProcessKind (node_at (plain_graph F.graph) (node_of t)).kind
    by_side (inl op) = inl (subst IsOperatorKind there op)
    by_side (inr task) = inr (subst IsProcessKind there task)

  -- it is out
  pub free_taken : (F : Opening) (old new : List (List Ticket)) (b l : ℕ) → IsFree F (under z old b l) → length new ≡ length old → Gains t old new → IsFree F (under f new b l)
  free_taken F old new b l free len gains =
      free_step F z f (take_of z node port place) old new b l b l free is len (out_more z f t k old new free.out took number fly gains) (omega arith) (omega arith)

  -- it was given up at once
  pub free_dropped : (F : Opening) (u : Seen) (cause : Option Stop) (old : List (List Ticket)) (b l : ℕ) → IsFree F (under z old b l) → u ≡ grown f (e.Abort (number_of t) cause) → is_lanes cause ≡ false
      → IsFree F (under u old b l)
  free_dropped F u cause old b l free up innocent = record { lanes = free.lanes; out = out; begun = begun; failed = failed } where
    left : (state_of u).tickets ≡ (state_of z).tickets
    left =
        tickets_grown f u (e.Abort (number_of t) cause) up
        ∙ (abort_left (plain_of f) (state_of f) (number_of t) fly.ticket fly.there _
        ∙ (ap (λ n. without n (state_of f).tickets) number
        ∙ (ap (without (state_of z).next) took ∙ new_left (state_of z).next (state_of z).tickets k none refl)))

    out : AreOut u old
    out = out_still z u old left free.out

    begun : b ≡ starts_of u
    begun =
        let n = counted is_start z f (take_of z node port place) is in
        let m = counted is_start f u (e.Abort (number_of t) cause) up in
        let o = free.begun in
        omega (arith, n, m, o)

    failed : l ≡ failures_of u
    failed =
        let n = counted is_failure z f (take_of z node port place) is in
        let m = counted is_failure f u (e.Abort (number_of t) cause) up in
        let o = free.failed in
        let q : ◌≡◌ {A = ℕ} (cond (is_lanes cause) 1 0) 0 = rw innocent refl in
        omega (arith, n, m, o, q)
