-- The parts after a move.
use Rattle.std.proofs.Common.{◌≡◌, ℕ, suc, ◌+◌, ◌-◌, ◌<◌, ◌≤◌, List, [], ◌∷◌, ◌++◌, length, cond, Bool, true, false, refl, ap, sym, ◌∙◌, subst, arith}
use Rattle.std.specs.Prelude.{◌==◌, IsErr, nat_lt, count_by, Option, Some, None, Result, Ok, Err, is_some, IfSome}
use Rattle.std.proofs.lemmas.Bool.{true≢false}
use Rattle.nf_value.specs.Plain.{Plain}
use Rattle.nf_bag.specs.declared.fault.OpFault.{OpFault}
use Rattle.nf_opstream.specs.Fault.{Fault, fault_of}
use Rattle.nf_opstream.specs.Operator.{to_out}
use Rattle.nf_opstream.specs.Promise.{IsFault}
use Rattle.nf_graph.specs.declared.node.Node.{Node}
use Rattle.nf_graph.specs.Node.{node_at}
use Rattle.nf_graph.specs.Meaning.{cost, put}
use Rattle.nf_graph.specs.Faults.{op_fails}
use Rattle.nf_graph.specs.WellMade.{plain_graph}
use Rattle.nf_machine.specs.declared.stop.Stop.{Stop}
use Rattle.nf_machine.specs.declared.stop.Stop.TheVariants as st
use Rattle.nf_machine.specs.Event.{PlainEvent, PlainStop, charge_stop, fault_stop, memory_stop, op_stop, halt, pass, close}
use Rattle.nf_machine.specs.State.{Take, Ticket, Spot, State}
use Rattle.nf_machine.specs.Step.{limit, next_item, passed_on, do_pass, take_at, left_at, op_ends, do_close, or_stop, with_spot, with_stop, with_ticket, without, step}
use Rattle.nf_machine.specs.Legal.{CloseIsLegal}
use Rattle.nf_flight.specs.declared.ticket.Ticket as flight
use Rattle.nf_flight.specs.declared.flights.Flights.{Flights}
use Rattle.nf_flight.specs.Flights.{IsFlights, nodes_of}
use Rattle.nf_nodes.specs.Flying.{AreFlying}
use Rattle.nf_nodes.specs.Nodes.{AreNodes}
use Rattle.nf_nodes.specs.Steps.{MayTake, open_in, open_to, received, taken}
use Rattle.nf_nodes.specs.declared.nodes.Nodes.{Nodes}
use Rattle.nf_flow.specs.Questions.{IsTicket}
use Rattle.nf_flow.specs.Stopped.{IsNamedFault}
use Rattle.nf_value.specs.declared.mem.Mem.{Mem}
use Rattle.nf_flow.specs.Parts.{Happens, IsParts, Leads, Takes, Took, site, taken_ticket}
use Rattle.nf_flow.specs.declared.parts.Parts.{Parts}
use Rattle.nf_flow.proofs.Growth.{or_nothing}
use Rattle.nf_flow.proofs.Over.{one_closes, same_open}
use Rattle.nf_flow.proofs.Standing.{graph_length, node_of_close}
use Rattle.nf_flow.proofs.Tickets.{none_next, new_left}

-- what the laws of the nodes say of takes in flight
abbrev pub Unmoved : Type 0
Unmoved = (nodes : List Node) (s u : State) (c : Nodes) → AreNodes nodes s c → u.spots ≡ s.spots → u.stop ≡ s.stop
    → ((i : ℕ) → count_by (λ (k : Ticket). k.node == i) u.tickets ≡ count_by (λ (k : Ticket). k.node == i) s.tickets) → AreNodes nodes u c

-- a fault of the code that isn't want of memory is the one that is due
pub due_of : (due : Result (List (ℕ × Plain)) Fault) (f : OpFault) → IsFault due f → IsNamedFault f → (x : Fault) × (fault_of f ≡ Some x) × (due ≡ Err x)
due_of due f h t = by (fault_of f) h t
  where
    by : (o : Option Fault) → IfSome o (λ g. due ≡ Err g) → is_some o ≡ true → (x : Fault) × (o ≡ Some x) × (due ≡ Err x)
    by None h t = absurd (true≢false (sym t))
    by (Some x) h t = (x, refl, h)

-- a run that isn't stopped, and its takes in flight
pub flying : (nodes : List Node) (s : State) (p : Parts) → IsParts nodes s p → s.stop ≡ None → AreFlying nodes s p.flights
flying nodes s p h run = record { shows = subst (λ n. IsFlights n s.tickets p.flights) (h.next_is run) h.flights; nodes_are = h.count }

-- of a stopped run only the takes in flight and the open nodes are kept
pub stopped_parts : (nodes : List Node) (u : State) (q : Parts) (next : ℕ) → IsFlights next u.tickets q.flights → nodes_of q.flights ≡ length nodes → q.open_nodes ≡ open_in nodes u → (u.stop ≡ None → ⊥) → IsParts nodes u q
stopped_parts nodes u q next f n o never = record {
  next = next;
  flights = f;
  count = n;
  open_is = o;
  next_is = λ run. absurd (never run);
  nodes_are = λ run. absurd (never run);
  charge_is = λ run. absurd (never run);
}

pub some_stop : (x : PlainStop) → Some x ≡ None → ⊥
some_stop x e = cc

pub or_stopped : (why : Option PlainStop) (x : PlainStop) → or_stop why (Some x) ≡ None → ⊥
or_stopped None x e = some_stop x e
or_stopped (Some y) x e = some_stop y e

-- ---- the states after moves

-- an item's charge passes the limit
abbrev pub over : State → ℕ → ℕ → Plain → State
over s i k x = record s { spots = put s.spots i (passed_on (s.spots i) k); charge = s.charge + cost x; stop = Some (charge_stop (s.charge + cost x)) }

-- an item passes and waits
abbrev pub waits_at : Spot → ℕ → Plain → Spot
waits_at sp k x = record (passed_on sp k) { waiting = put sp.waiting k (sp.waiting k ++ x ∷ []) }

abbrev pub within : State → ℕ → ℕ → Plain → State
within s i k x = record s { spots = put s.spots i (waits_at (s.spots i) k x); charge = s.charge + cost x }

-- a node takes
abbrev pub takes_at : Spot → ℕ → Take → Spot
takes_at sp place t = record sp { waiting = left_at t.slot place sp.waiting; taken = t ∷ sp.taken }

-- a node closes
abbrev pub closes_with : Spot → List (ℕ × Plain) → Spot
closes_with sp es = record sp { closed = true; emitted = λ out. sp.emitted out ++ to_out out es }

module _ (nodes : List Node) (s : State) (p : Parts) (h : IsParts nodes s p) where
  -- want of memory
  pub halted : (q : Parts) → q.flights ≡ p.flights → q.open_nodes ≡ p.open_nodes → IsParts nodes (step (plain_graph nodes) s halt) q
  halted q ef eo =
      let u : State = record s { stop = Some memory_stop } in
      stopped_parts nodes u q h.next (subst (IsFlights h.next s.tickets) (sym ef) h.flights) (ap nodes_of ef ∙ h.count) (eo ∙ h.open_is) (some_stop memory_stop)

  -- ---- Pass

  module _ (run : s.stop ≡ None) (i k : ℕ) (x : Plain) (sum : ℕ) (item : x ≡ next_item (plain_graph nodes) s i k) (sum_is : sum ≡ p.charge + cost x) where
    charged : sum ≡ s.charge + cost x
    charged = sum_is ∙ ap (λ c. c + cost x) (h.charge_is run)

    pass_is : (b : Bool) → nat_lt limit sum ≡ b → step (plain_graph nodes) s (pass i k) ≡ cond b (over s i k x) (within s i k x)
    pass_is b e = ap (do_pass s i k) (sym item) ∙ ap (λ (t : Bool). cond t (over s i k x) (within s i k x)) (ap (nat_lt limit) (sym charged) ∙ e)

    pub passed_over : nat_lt limit sum ≡ true → Leads nodes s (step (plain_graph nodes) s (pass i k)) (Some (st.Charge sum)) p
    passed_over e = subst (λ (u : State). Leads nodes s u (Some (st.Charge sum)) p) (sym (pass_is true e)) (record {
      parts = stopped_parts nodes (over s i k x) p h.next h.flights h.count (h.open_is ∙ sym (same_open s.spots i (passed_on (s.spots i) k) (length nodes) refl)) (some_stop (charge_stop (s.charge + cost x)));
      stop_is = ap (λ (c : ℕ). Some (charge_stop c)) (sym charged) ∙ ap (λ (o : Option PlainStop). or_stop o (Some (charge_stop sum))) (sym run);
      named = tt;
    })

    pub passed_within : Unmoved → (d : Nodes) → nat_lt limit sum ≡ false → AreNodes nodes (received s (record { node = i; port = k }) x) d
        → Leads nodes s (step (plain_graph nodes) s (pass i k)) None (record p { nodes = d; charge = sum })
    passed_within unmoved d e nodes_are = subst (λ (u : State). Leads nodes s u None (record p { nodes = d; charge = sum })) (sym (pass_is false e)) (record {
      parts = record {
        next = h.next;
        flights = h.flights;
        count = h.count;
        open_is = h.open_is ∙ sym (same_open s.spots i (waits_at (s.spots i) k x) (length nodes) refl);
        next_is = h.next_is;
        nodes_are = λ r. unmoved nodes (received s (record { node = i; port = k }) x) (within s i k x) d nodes_are refl refl (λ j. refl);
        charge_is = λ r. charged;
      };
      stop_is = sym (or_nothing s.stop);
      named = tt;
    })

  -- ---- Take

  module _ (i port place : ℕ) (may : MayTake nodes s i port place) where
    pub took : (d : Nodes) (f : Flights) (t : flight.Ticket) → AreNodes nodes (taken nodes s i port place) d → IsFlights (suc h.next) (with_ticket (taken_ticket nodes s i port place) s.tickets) f → nodes_of f ≡ nodes_of p.flights
        → IsTicket t (taken_ticket nodes s i port place) → Took nodes s (site i port place) t (record p { nodes = d; flights = f })
    took d f t nodes_are flights count ticket = record {
      parts = record {
        next = suc h.next;
        flights = flights;
        count = count ∙ h.count;
        open_is = h.open_is ∙ sym (same_open s.spots i (takes_at (s.spots i) place (take_at (plain_graph nodes) s i port place)) (length nodes) refl);
        next_is = λ run. ap suc (h.next_is run);
        nodes_are = λ run. nodes_are;
        charge_is = h.charge_is;
      };
      ticket = ticket;
    }

  -- ---- Close

  module _ (i : ℕ) (legal : CloseIsLegal (plain_graph nodes) s i) where
    below : i < length nodes
    below = let a = node_of_close (plain_graph nodes) s i legal in let g = graph_length nodes in omega arith

    closes : (sp : Spot) → sp.closed ≡ true → open_to (put s.spots i sp) (length nodes) + 1 ≡ open_in nodes s
    closes sp e = (one_closes s.spots i sp (length nodes) legal.still e).0 below

    pub one_open : 1 ≤ p.open_nodes
    one_open = let a = closes (closes_with (s.spots i) []) refl in let b = h.open_is in omega (arith, a, b)

    pub closed_well : (d : Nodes) (emits : List (ℕ × Plain)) → op_ends (node_at (plain_graph nodes) i).kind (s.spots i).pushed ≡ Ok emits → AreNodes nodes (do_close s i (Ok emits)) d
        → Leads nodes s (step (plain_graph nodes) s (close i)) None (record p { nodes = d; open_nodes = p.open_nodes - 1 })
    closed_well d emits ends nodes_are = subst (λ (u : State). Leads nodes s u None (record p { nodes = d; open_nodes = p.open_nodes - 1 })) (sym (ap (do_close s i) ends)) (record {
      parts = record {
        next = h.next;
        flights = h.flights;
        count = h.count;
        open_is = (let a = closes (closes_with (s.spots i) emits) refl in let b = h.open_is in omega (arith, a, b));
        next_is = h.next_is;
        nodes_are = λ run. nodes_are;
        charge_is = h.charge_is;
      };
      stop_is = sym (or_nothing s.stop);
      named = tt;
    })

    pub closed_ill : (d : Nodes) (fault : OpFault) → IsFault (op_ends (node_at (plain_graph nodes) i).kind (s.spots i).pushed) fault → IsNamedFault fault
        → Leads nodes s (step (plain_graph nodes) s (close i)) (Some (st.Op i fault)) (record p { nodes = d; open_nodes = p.open_nodes - 1 })
    closed_ill d fault due named =
        let w = due_of (op_ends (node_at (plain_graph nodes) i).kind (s.spots i).pushed) fault due named in
        let u : State = with_stop (with_spot s i (record (s.spots i) { closed = true })) (fault_stop (op_fails i w.0)) in
        subst (λ (v : State). Leads nodes s v (Some (st.Op i fault)) (record p { nodes = d; open_nodes = p.open_nodes - 1 })) (sym (ap (do_close s i) w.2)) (record {
          parts = stopped_parts nodes u (record p { nodes = d; open_nodes = p.open_nodes - 1 }) h.next h.flights h.count
              (let a = closes (record (s.spots i) { closed = true }) refl in let b = h.open_is in omega (arith, a, b)) (or_stopped s.stop (fault_stop (op_fails i w.0)));
          stop_is = ap (λ (o : Option Fault). or_stop s.stop (Some (op_stop i o))) (sym w.1);
          named = named;
        })

-- the ticket of a Take leaves again
pub untook : (nodes : List Node) (s : State) (p q : Parts) (h : IsParts nodes s p) (i port place : ℕ) → MayTake nodes s i port place → (next : ℕ)
    → IsFlights next (without s.next (with_ticket (taken_ticket nodes s i port place) s.tickets)) q.flights → nodes_of q.flights ≡ length nodes → q.open_nodes ≡ open_in nodes s → IsParts nodes (step (plain_graph nodes) s halt) q
untook nodes s p q h i port place may next flights count still_open =
    let none = none_next s.next s.tickets p.flights (flying nodes s p h may.running).shows in
    let u : State = record s { stop = Some memory_stop } in
    stopped_parts nodes u q next (subst (λ ts. IsFlights next ts q.flights) (new_left s.next s.tickets (taken_ticket nodes s i port place) none refl) flights) count still_open (some_stop memory_stop)

-- ---- what a call answers

pub happens_err : (nodes : List Node) (s : State) (x l : PlainEvent) (r : Result (Option Stop) Mem) (p : Parts) → IsErr r → IsParts nodes (step (plain_graph nodes) s l) p → Happens nodes s x l r p
happens_err nodes s x l (Ok stop) p e h = absurd cc
happens_err nodes s x l (Err m) p e h = h

pub takes_err : (nodes : List Node) (s : State) (i port place : ℕ) (r : Result flight.Ticket Mem) (p : Parts) → IsErr r → IsParts nodes (step (plain_graph nodes) s halt) p → Takes nodes s (site i port place) r p
takes_err nodes s i port place (Ok t) p e h = absurd cc
takes_err nodes s i port place (Err m) p e h = h
