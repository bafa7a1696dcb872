-- The parts after a ticket came back.
use Rattle.std.proofs.Common.{◌≡◌, ℕ, List, [], ◌∷◌, ◌++◌, length, true, false, refl, ap, sym, ◌∙◌, subst}
use Rattle.std.specs.Prelude.{Option, Some, None, Ok, Err, is_some}
use Rattle.std.proofs.lemmas.Bool.{true≢false}
use Rattle.nf_value.specs.Plain.{Plain}
use Rattle.nf_value.specs.View.{plain_of}
use Rattle.nf_value.specs.declared.value.Value.{Value}
use Rattle.nf_value.specs.declared.fault.EvalFault.{EvalFault}
use Rattle.nf_bag.specs.declared.fault.OpFault.{OpFault}
use Rattle.nf_opstream.specs.Fault.{Fault}
use Rattle.nf_opstream.specs.Promise.{IsFault}
use Rattle.nf_opstream.specs.Push.{push_of}
use Rattle.nf_job.specs.declared.report.Report.{Report}
use Rattle.nf_job.specs.declared.fault.TaskFault.{TaskFault}
use Rattle.nf_job.specs.declared.emitted.Outputs.TheVariants.{Emits, Ignored, Failed, Again}
use Rattle.nf_graph.specs.declared.node.Node.{Node}
use Rattle.nf_graph.specs.Node.{node_at}
use Rattle.nf_graph.specs.Rules as rules
use Rattle.nf_graph.specs.Rules.{Outs}
use Rattle.nf_graph.specs.Faults.{item_fails, op_fails, task_fails}
use Rattle.nf_graph.specs.WellMade.{plain_graph}
use Rattle.nf_machine.specs.declared.event.Cause.{Cause}
use Rattle.nf_machine.specs.declared.stop.Stop.TheVariants as st
use Rattle.nf_machine.specs.Event.{PlainStop, fault_stop, memory_stop, op_stop, abort, finish, give, start}
use Rattle.nf_machine.specs.State.{Ticket, State}
use Rattle.nf_machine.specs.Step.{op_gives, pushed_on, push_with, give_push, do_give, do_finish, end_of, ended_on, ends_at, at_ticket, or_stop, with_spot, with_stop, with_ticket, ticket_at, without, step}
use Rattle.nf_flight.specs.Ticket as ticket
use Rattle.nf_flight.specs.declared.ticket.Ticket as flight
use Rattle.nf_flight.specs.Flights.{IsFlights, nodes_of}
use Rattle.nf_flight.specs.declared.flights.Flights.{Flights}
use Rattle.nf_nodes.specs.Nodes.{AreNodes}
use Rattle.nf_nodes.specs.Steps.{open_in, left, GaveOn}
use Rattle.nf_nodes.specs.declared.nodes.Nodes.{Nodes}
use Rattle.nf_flow.specs.Questions.{ComesBack, is_again}
use Rattle.nf_flow.specs.Stopped.{IsNamedFault}
use Rattle.nf_flow.specs.Parts.{IsParts, IsItem, Leads, losing}
use Rattle.nf_flow.specs.declared.parts.Parts.{Parts}
use Rattle.nf_flow.proofs.Growth.{or_nothing}
use Rattle.nf_flow.proofs.Over.{same_open}
use Rattle.nf_flow.proofs.Moving.{Unmoved, due_of, or_stopped, stopped_parts}
use Rattle.nf_flow.proofs.Tickets.{count_back, step_abort, step_finish, step_start}

module _ (nodes : List Node) (s : State) (p : Parts) (h : IsParts nodes s p) (t : ℕ) (k : Ticket) (there : ticket_at t s.tickets ≡ Some k) where
  -- the attempt starts
  pub started : Unmoved → (cause : Cause) (f : Flights) → IsFlights h.next (with_ticket (record k { started = true }) (without t s.tickets)) f → nodes_of f ≡ nodes_of p.flights
      → Leads nodes s (step (plain_graph nodes) s (start t cause)) None (record p { flights = f })
  started unmoved cause f flights count =
      let w : Ticket = record k { started = true } in
      let u : State = record s { tickets = with_ticket w (without t s.tickets) } in
      subst (λ (v : State). Leads nodes s v None (record p { flights = f })) (sym (step_start (plain_graph nodes) s t k there cause)) (record {
        parts = record {
          next = h.next;
          flights = flights;
          count = count ∙ h.count;
          open_is = h.open_is;
          next_is = h.next_is;
          nodes_are = λ run. unmoved nodes s u p.nodes (h.nodes_are run) refl refl (count_back t s.tickets k w there refl);
          charge_is = h.charge_is;
        };
        stop_is = sym (or_nothing s.stop);
        named = tt;
      })

  -- the ticket is given up
  pub given_up : (cause : Option PlainStop) (q : Parts) → IsFlights h.next (without t s.tickets) q.flights → nodes_of q.flights ≡ nodes_of p.flights → q.open_nodes ≡ p.open_nodes → (or_stop s.stop cause ≡ None → ⊥)
      → IsParts nodes (step (plain_graph nodes) s (abort t cause)) q
  given_up cause q flights count still_open never =
      let u : State = record s { tickets = without t s.tickets; gone = k ∷ s.gone; stop = or_stop s.stop cause } in
      subst (λ (v : State). IsParts nodes v q) (sym (step_abort (plain_graph nodes) s t k there cause)) (stopped_parts nodes u q h.next flights (count ∙ h.count) (still_open ∙ h.open_is) never)

  pub lost_parts : (q : Parts) → IsFlights h.next (without t s.tickets) q.flights → nodes_of q.flights ≡ nodes_of p.flights → q.open_nodes ≡ p.open_nodes → IsParts nodes (step (plain_graph nodes) s (losing t)) q
  lost_parts q flights count still_open = given_up (Some memory_stop) q flights count still_open (or_stopped s.stop memory_stop)

-- ---- Give

module _ (nodes : List Node) (s : State) (p : Parts) (h : IsParts nodes s p) (t : ℕ) (k : Ticket) (node port : ℕ) (item answer : Plain) (here : IsItem s t k node port item) where
  step_give : step (plain_graph nodes) s (give t (Ok answer)) ≡ give_push (left s t) node (push_of port item answer) (op_gives (node_at (plain_graph nodes) node).kind (s.spots node).pushed (push_of port item answer))
  step_give =
      ap (λ o. at_ticket s t o (λ s' k. do_give (plain_graph nodes) s' k (Ok answer))) here.there
      ∙ (let push : push_with k.take answer ≡ push_of port item answer = λ j. record { port = here.port_is j; item = here.item_is j; answer = answer } in
      λ j. give_push (left s t) (here.node_is j) (push j) (op_gives (node_at (plain_graph nodes) (here.node_is j)).kind (s.spots (here.node_is j)).pushed (push j)))

  pub gave_well : (d : Nodes) (f : Flights) → IsFlights h.next (without t s.tickets) f → nodes_of f ≡ nodes_of p.flights → GaveOn nodes (left s t) node (push_of port item answer) d
      → Leads nodes s (step (plain_graph nodes) s (give t (Ok answer))) None (record p { nodes = d; flights = f })
  gave_well d f flights count gave =
      let u : State = with_spot (left s t) node (pushed_on (s.spots node) (push_of port item answer) gave.emits) in
      subst (λ (v : State). Leads nodes s v None (record p { nodes = d; flights = f })) (sym (step_give ∙ ap (give_push (left s t) node (push_of port item answer)) gave.gives)) (record {
        parts = record {
          next = h.next;
          flights = flights;
          count = count ∙ h.count;
          open_is = h.open_is ∙ sym (same_open s.spots node (pushed_on (s.spots node) (push_of port item answer) gave.emits) (length nodes) refl);
          next_is = h.next_is;
          nodes_are = λ run. gave.nodes_are;
          charge_is = h.charge_is;
        };
        stop_is = sym (or_nothing s.stop);
        named = tt;
      })

  pub gave_ill : (d : Nodes) (f : Flights) (fault : OpFault) → IsFlights h.next (without t s.tickets) f → nodes_of f ≡ nodes_of p.flights
      → IsFault (op_gives (node_at (plain_graph nodes) node).kind (s.spots node).pushed (push_of port item answer)) fault → IsNamedFault fault
      → Leads nodes s (step (plain_graph nodes) s (give t (Ok answer))) (Some (st.Op node fault)) (record p { nodes = d; flights = f })
  gave_ill d f fault flights count due named =
      let w = due_of (op_gives (node_at (plain_graph nodes) node).kind (s.spots node).pushed (push_of port item answer)) fault due named in
      let u : State = with_stop (left s t) (fault_stop (op_fails node w.0)) in
      subst (λ (v : State). Leads nodes s v (Some (st.Op node fault)) (record p { nodes = d; flights = f })) (sym (step_give ∙ ap (give_push (left s t) node (push_of port item answer)) w.2)) (record {
        parts = stopped_parts nodes u (record p { nodes = d; flights = f }) h.next flights (count ∙ h.count) h.open_is (or_stopped s.stop (fault_stop (op_fails node w.0)));
        stop_is = ap (λ (o : Option Fault). or_stop s.stop (Some (op_stop node o))) (sym w.1);
        named = named;
      })

-- ---- Finish and Reuse

-- what a task that isn't tried again makes of the state without its ticket
record EndsSo (nodes : List Node) (s u : State) (fault : Option PlainStop) : Type 0 where
  tickets : u.tickets ≡ s.tickets
  open_is : open_in nodes u ≡ open_in nodes s
  next_is : u.next ≡ s.next
  charge_is : u.charge ≡ s.charge
  stop_is : u.stop ≡ or_stop s.stop fault

-- the stop by a fault that ends the run
abbrev task_stop_of : Ticket → List TaskFault → Option PlainStop
task_stop_of k [] = None
task_stop_of k (f ∷ fs) = Some (fault_stop (task_fails k.node k.take.inputs k.take.n f))

ends_so : (nodes : List Node) (s : State) (k : Ticket) (r : Report) (outs : Outs) → is_again outs ≡ false → EndsSo nodes s (do_finish s k r outs) (task_stop_of k (rules.fault_of outs))
ends_so nodes s k r (Ok (Emits vs)) e = record { tickets = refl; open_is = same_open s.spots k.node (ended_on (s.spots k.node) (end_of k r (Ok (Emits vs)))) (length nodes) refl; next_is = refl; charge_is = refl; stop_is = sym (or_nothing s.stop) }
ends_so nodes s k r (Ok Ignored) e = record { tickets = refl; open_is = same_open s.spots k.node (ended_on (s.spots k.node) (end_of k r (Ok Ignored))) (length nodes) refl; next_is = refl; charge_is = refl; stop_is = sym (or_nothing s.stop) }
ends_so nodes s k r (Ok (Failed f)) e = record { tickets = refl; open_is = same_open s.spots k.node (ended_on (s.spots k.node) (end_of k r (Ok (Failed f)))) (length nodes) refl; next_is = refl; charge_is = refl; stop_is = refl }
ends_so nodes s k r (Ok Again) e = absurd (true≢false e)
ends_so nodes s k r (Err f) e = record { tickets = refl; open_is = same_open s.spots k.node (ended_on (s.spots k.node) (end_of k r (Err f))) (length nodes) refl; next_is = refl; charge_is = refl; stop_is = refl }

-- without a fault it emits
emits_so : (s : State) (k : Ticket) (r : Report) (outs : Outs) → is_again outs ≡ false → rules.fault_of outs ≡ [] → do_finish s k r outs ≡ ends_at s k (end_of k r outs)
emits_so s k r (Ok (Emits vs)) e f = refl
emits_so s k r (Ok Ignored) e f = refl
emits_so s k r (Ok (Failed x)) e f = absurd cc
emits_so s k r (Ok Again) e f = absurd (true≢false e)
emits_so s k r (Err x) e f = absurd cc

again_is : (outs : Outs) → is_again outs ≡ true → outs ≡ Ok Again
again_is (Ok (Emits vs)) e = absurd (true≢false (sym e))
again_is (Ok Ignored) e = absurd (true≢false (sym e))
again_is (Ok (Failed x)) e = absurd (true≢false (sym e))
again_is (Ok Again) e = refl
again_is (Err x) e = absurd (true≢false (sym e))

pub comes_again : (t : flight.Ticket) (outs : Outs) (back : flight.Ticket) → is_again outs ≡ true → back ≡ ticket.next_attempt t → ComesBack t outs (Some back)
comes_again t outs back e b = (again_is outs e, b)

pub comes_not : (t : flight.Ticket) (outs : Outs) → is_again outs ≡ false → ComesBack t outs None
comes_not t outs e a = true≢false (sym (ap is_again a) ∙ e)

module _ (nodes : List Node) (s : State) (p : Parts) (h : IsParts nodes s p) (t : ℕ) (k : Ticket) (there : ticket_at t s.tickets ≡ Some k) (r : Report) (outs : Outs) where
  -- the task is tried again
  pub ended_again : Unmoved → is_again outs ≡ true → (f : Flights) → IsFlights h.next (with_ticket (record k { told = k.told ++ r ∷ []; started = false }) (without t s.tickets)) f → nodes_of f ≡ nodes_of p.flights
      → Leads nodes s (step (plain_graph nodes) s (finish t r outs)) None (record p { flights = f })
  ended_again unmoved again f flights count =
      let w : Ticket = record k { told = k.told ++ r ∷ []; started = false } in
      let u : State = record s { tickets = with_ticket w (without t s.tickets) } in
      subst (λ (v : State). Leads nodes s v None (record p { flights = f })) (sym (step_finish (plain_graph nodes) s t k there r outs ∙ ap (do_finish (left s t) k r) (again_is outs again))) (record {
        parts = record {
          next = h.next;
          flights = flights;
          count = count ∙ h.count;
          open_is = h.open_is;
          next_is = h.next_is;
          nodes_are = λ run. unmoved nodes s u p.nodes (h.nodes_are run) refl refl (count_back t s.tickets k w there refl);
          charge_is = h.charge_is;
        };
        stop_is = sym (or_nothing s.stop);
        named = tt;
      })

  module _ (last : is_again outs ≡ false) (f : Flights) (flights : IsFlights h.next (without t s.tickets) f) (count : nodes_of f ≡ nodes_of p.flights) where
    -- the parts of a run that is stopped then
    ended_parts : (u : State) (w : Option PlainStop) → EndsSo nodes (left s t) u w → (u.stop ≡ None → ⊥) → (d : Nodes) → IsParts nodes u (record p { nodes = d; flights = f })
    ended_parts u w e never d = stopped_parts nodes u (record p { nodes = d; flights = f }) h.next (subst (λ ts. IsFlights h.next ts f) (sym e.tickets) flights) (count ∙ h.count) (h.open_is ∙ sym e.open_is) never

    stop_stands : (why w : Option PlainStop) → is_some why ≡ true → or_stop why w ≡ why
    stop_stands None w e = absurd (true≢false (sym e))
    stop_stands (Some y) w e = refl

    some_not : (why : Option PlainStop) → is_some why ≡ true → why ≡ None → ⊥
    some_not None e z = true≢false (sym e)
    some_not (Some y) e z = cc

    -- in a run that is stopped already
    pub ended_late : is_some s.stop ≡ true → Leads nodes s (step (plain_graph nodes) s (finish t r outs)) None (record p { flights = f })
    ended_late stopped =
        let e = ends_so nodes (left s t) k r outs last in
        let u : State = do_finish (left s t) k r outs in
        let is = e.stop_is ∙ stop_stands s.stop (task_stop_of k (rules.fault_of outs)) stopped in
        subst (λ (v : State). Leads nodes s v None (record p { flights = f })) (sym (step_finish (plain_graph nodes) s t k there r outs)) (record {
          parts = ended_parts u (task_stop_of k (rules.fault_of outs)) e (λ z. some_not s.stop stopped (sym is ∙ z)) p.nodes;
          stop_is = is ∙ sym (or_nothing s.stop);
          named = tt;
        })

    -- by its fault
    pub ended_ill : (fault : TaskFault) (i n : ℕ) (inputs : List Plain) → rules.fault_of outs ≡ fault ∷ [] → i ≡ k.node → inputs ≡ k.take.inputs → n ≡ k.take.n
        → Leads nodes s (step (plain_graph nodes) s (finish t r outs)) (Some (st.Task i inputs n fault)) (record p { flights = f })
    ended_ill fault i n inputs is ei eins en =
        let e = ends_so nodes (left s t) k r outs last in
        let u : State = do_finish (left s t) k r outs in
        let w : PlainStop = fault_stop (task_fails k.node k.take.inputs k.take.n fault) in
        let stop : u.stop ≡ or_stop s.stop (Some w) = e.stop_is ∙ ap (λ fs. or_stop s.stop (task_stop_of k fs)) is in
        let named : Some w ≡ Some (fault_stop (task_fails i inputs n fault)) = λ j. Some (fault_stop (task_fails (sym ei j) (sym eins j) (sym en j) fault)) in
        subst (λ (v : State). Leads nodes s v (Some (st.Task i inputs n fault)) (record p { flights = f })) (sym (step_finish (plain_graph nodes) s t k there r outs)) (record {
          parts = ended_parts u (task_stop_of k (rules.fault_of outs)) e (λ z. or_stopped s.stop w (sym stop ∙ z)) p.nodes;
          stop_is = stop ∙ ap (or_stop s.stop) named;
          named = tt;
        })

    -- without a fault
    pub ended_well : (d : Nodes) → rules.fault_of outs ≡ [] → AreNodes nodes (ends_at (left s t) k (end_of k r outs)) d → Leads nodes s (step (plain_graph nodes) s (finish t r outs)) None (record p { nodes = d; flights = f })
    ended_well d fine nodes_are =
        let u : State = ends_at (left s t) k (end_of k r outs) in
        subst (λ (v : State). Leads nodes s v None (record p { nodes = d; flights = f })) (sym (step_finish (plain_graph nodes) s t k there r outs ∙ emits_so (left s t) k r outs last fine)) (record {
          parts = record {
            next = h.next;
            flights = flights;
            count = count ∙ h.count;
            open_is = h.open_is ∙ sym (same_open s.spots k.node (ended_on (s.spots k.node) (end_of k r outs)) (length nodes) refl);
            next_is = h.next_is;
            nodes_are = λ run. nodes_are;
            charge_is = h.charge_is;
          };
          stop_is = sym (or_nothing s.stop);
          named = tt;
        })

-- outputs without a fault are outputs
pub no_fault : (outs : Outs) (f : TaskFault) → [] ≡ rules.fault_of outs → outs ≡ Err f → ⊥
no_fault outs f a e = let b : ◌≡◌ {A = List TaskFault} [] (f ∷ []) = a ∙ ap rules.fault_of e in cc

-- the closure failed
pub item_failed : (nodes : List Node) (s : State) (p : Parts) (h : IsParts nodes s p) (t : ℕ) (k : Ticket) (node port : ℕ) (item : Value) (fault : EvalFault) → IsItem s t k node port (plain_of item)
    → (f : Flights) → IsFlights h.next (without t s.tickets) f → nodes_of f ≡ nodes_of p.flights → Leads nodes s (step (plain_graph nodes) s (give t (Err fault))) (Some (st.Item node item fault)) (record p { flights = f })
item_failed nodes s p h t k node port item fault here f flights count =
    let w : PlainStop = fault_stop (item_fails k.node k.take.item fault) in
    let u : State = with_stop (left s t) w in
    let is : step (plain_graph nodes) s (give t (Err fault)) ≡ u = ap (λ o. at_ticket s t o (λ s' k. do_give (plain_graph nodes) s' k (Err fault))) here.there in
    let named : Some w ≡ Some (fault_stop (item_fails node (plain_of item) fault)) = λ j. Some (fault_stop (item_fails (here.node_is j) (here.item_is j) fault)) in
    subst (λ (v : State). Leads nodes s v (Some (st.Item node item fault)) (record p { flights = f })) (sym is) (record {
      parts = stopped_parts nodes u (record p { flights = f }) h.next flights (count ∙ h.count) h.open_is (or_stopped s.stop w);
      stop_is = ap (or_stop s.stop) named;
      named = tt;
    })
