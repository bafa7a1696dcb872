-- What contracts see of a run after an event.
use Rattle.std.proofs.Common.{◌≡◌, ℕ, zero, suc, ◌+◌, ◌*◌, ◌<◌, ◌≤◌, List, [], ◌∷◌, ◌++◌, length, get_or, Bool, true, false, cond, refl, ap, sym, ◌∙◌, subst, arith}
use Rattle.std.specs.Prelude.{◌==◌, Option, Some, None, Result, is_some, is_none, option_map, vec_capacity, IfSome}
use Rattle.std.proofs.lemmas.Bool.{true≢false}
use Rattle.std.proofs.lemmas.List.{get_or_default, length_push}
use Rattle.nf_value.specs.Plain.{Plain}
use Rattle.nf_value.specs.declared.value.Value.{Value}
use Rattle.nf_value.specs.declared.fault.EvalFault.{EvalFault}
use Rattle.nf_opstream.proofs.Tally.{count_is_passes}
use Rattle.nf_job.specs.declared.report.Report.{Report}
use Rattle.nf_graph.specs.declared.node.Node.{Node}
use Rattle.nf_graph.specs.Node.{PlainNode, node_at}
use Rattle.nf_graph.specs.Rules.{Rules, Outs}
use Rattle.nf_graph.specs.WellMade.{plain_graph, plain_kind, node_in, no_source, IsWellMade}
use Rattle.nf_machine.specs.declared.event.Event.{Event}
use Rattle.nf_machine.specs.declared.event.Event.TheVariants as e
use Rattle.nf_machine.specs.declared.stop.Stop.{Stop}
use Rattle.nf_machine.specs.declared.stop.Stop.TheVariants as s
use Rattle.nf_machine.specs.Event.{PlainStop, answer_of, event_of, stop_of, finish, halt}
use Rattle.nf_machine.specs.State as machine
use Rattle.nf_machine.specs.State.{State}
use Rattle.nf_machine.specs.Step.{take_at, ticket_at, with_ticket, without, do_finish, or_stop, step}
use Rattle.nf_machine.specs.Legal.{IsLegal, IsOperatorKind, AbortIsLegal, GiveIsLegal}
use Rattle.nf_bounds.specs.Bounds.{IsBounded}
use Rattle.nf_flight.specs.Flights as flights
use Rattle.nf_flight.specs.Flights.{IsFlights}
use Rattle.nf_flight.specs.Inputs.{inputs_at}
use Rattle.nf_flight.specs.declared.flights.Flights.{Flights}
use Rattle.nf_flight.specs.Ticket.{number_of, node_of, port_of, inputs_of, n_of, attempt_of}
use Rattle.nf_flight.specs.declared.ticket.Ticket.{Ticket}
use Rattle.nf_flight.proofs.Tickets.{at_with, at_without_same, length_without, number_yes, or_ticket, if_number}
use Rattle.nf_nodes.specs.Nodes.{AreNodes}
use Rattle.nf_nodes.specs.Steps.{MayTake, taken}
use Rattle.nf_flow.specs.Seen.{Seen, MayAdd, HasRoom, begun, event_in, grown, lost, plain_of, state_of, take_of}
use Rattle.nf_flow.specs.Questions.{ComesBack, IsFlying, IsTicket, inputs_in, process_inputs}
use Rattle.nf_flow.specs.Stopped.{IsStop, first_stop, is_stopped_by}
use Rattle.nf_flow.specs.declared.stopped.Stopped.TheVariants as st
use Rattle.nf_flow.specs.Log.{IsAdded}
use Rattle.nf_flow.specs.Parts.{IsParts, IsItem, Stands, StandsToEnd, StandsToGive, StandsToTake, Took, losing, site, taken_ticket}
use Rattle.nf_flow.specs.Flow.{IsFlow, kept_places, seen, state_in}
use Rattle.nf_flow.specs.declared.log.Log.{Log}
use Rattle.nf_flow.specs.declared.parts.Parts.{Parts}
use Rattle.nf_flow.specs.declared.stopped.Stopped.{Stopped}
use Rattle.nf_flow.proofs.Growth.{or_nothing, seen_added, state_grown}
use Rattle.nf_flow.proofs.Calling.{is_flying, plain_at}
use Rattle.nf_flow.proofs.Flowing.{flow_aborted, flow_took}
use Rattle.nf_flow.proofs.Standing.{graph_length, in_flight, is_running, node_of_take, not_running, stands, stopped_told}
use Rattle.nf_flow.proofs.Tickets.{found_new, none_next, step_finish}
use Rattle.nf_flow.proofs.Moving.{flying, or_stopped, takes_at, untook}
use Rattle.nf_flow.proofs.Over.{same_open}

-- what the law of small numbers says
abbrev pub Small : Type 0
Small = (z : Seen) (x : Event) → IsWellMade z.graph → MayAdd z x → IsBounded (plain_of z) (state_of z)

module _ (graph : List Node) (p : Parts) (log : Log) (z : Seen) (v : seen graph log ≡ z) (h : IsFlow graph p log) where
  pub has_room : HasRoom z → 0 < log.room
  has_room r = subst HasRoom (sym v) r

  pub may_add : (x : Event) → MayAdd z x → MayAdd (seen graph log) x
  may_add x m = subst (λ y. MayAdd y x) (sym v) m

  -- what is seen after an event
  pub grown_by : (log' : Log) (x : Event) (stop : Stopped) → IsAdded log x stop log' → seen graph log' ≡ grown z x
  grown_by log' x stop a = seen_added graph log log' x stop a ∙ ap (λ y. grown y x) v

  -- the parts of a run in which the event is legal
  pub stands_in : Small → (ns : List Node) → ns ≡ graph → IsWellMade graph → (x : Event) → MayAdd z x → Stands ns p (event_of (plain_graph ns) x)
  stands_in small ns e w x m = let n = may_add x m in subst (λ gs. Stands gs p (event_of (plain_graph gs) x)) (sym e) (stands graph p log x h n (small (seen graph log) x w n))

  pub bounded_in : Small → (ns : List Node) → ns ≡ graph → IsWellMade graph → (x : Event) → MayAdd z x → IsBounded (plain_graph ns) (state_in graph log)
  bounded_in small ns e w x m = subst (λ gs. IsBounded (plain_graph gs) (state_in graph log)) (sym e) (small (seen graph log) x w (may_add x m))

  pub parts_in : (ns : List Node) → ns ≡ graph → IsParts ns (state_in graph log) p
  parts_in ns e = subst (λ gs. IsParts gs (state_in graph log) p) (sym e) h.parts

  pub legal_in : (ns : List Node) → ns ≡ graph → (x : Event) (m : MayAdd z x) → IsLegal (plain_graph ns) m.rules (state_in graph log) (event_of (plain_graph ns) x)
  legal_in ns e x m = subst (λ gs. IsLegal (plain_graph gs) m.rules (state_in graph log) (event_of (plain_graph gs) x)) (sym e) (subst (λ y. IsLegal (plain_of y) m.rules (state_of y) (event_in y x)) (sym v) m.allows.legal)

  -- ---- tickets

  -- the machine's ticket
  pub flies : (t : Ticket) → IsFlying z t → IsFlying (seen graph log) t
  flies t k = subst (λ y. IsFlying y t) (sym v) k

-- whether the run is stopped
pub told_stopped : (graph : List Node) (p : Parts) (log : Log) (z : Seen) → seen graph log ≡ z → IsFlow graph p log → is_stopped_by log.stop ≡ is_some (state_of z).stop
told_stopped graph p log z v h = stopped_told log.history.items log.stop (state_in graph log).stop h.stop ∙ ap (λ y. is_some (state_of y).stop) v

-- ---- the ticket of a Take is in flight

pub take_flies : (graph : List Node) (p : Parts) (log : Log) (h : IsFlow graph p log) (i port place : ℕ) → MayTake graph (state_in graph log) i port place → (t : Ticket) → IsTicket t (taken_ticket graph (state_in graph log) i port place)
    → (new : Seen) → new ≡ grown (seen graph log) (take_of (seen graph log) i port place) → IsFlying new t
take_flies graph p log h i port place may t is new e =
    let s = state_in graph log in
    let none = none_next s.next s.tickets p.flights (flying graph s p h.parts may.running).shows in
    let state : state_of new ≡ taken graph s i port place = ap state_of e ∙ state_grown (seen graph log) (take_of (seen graph log) i port place) in
    record {
      ticket = taken_ticket graph s i port place;
      there = subst (λ (u : State). ticket_at (number_of t) u.tickets ≡ Some (taken_ticket graph s i port place)) (sym state)
          (subst (λ n. ticket_at n (with_ticket (taken_ticket graph s i port place) s.tickets) ≡ Some (taken_ticket graph s i port place)) (sym is.number) (found_new s.next s.tickets (taken_ticket graph s i port place) none refl));
      is = is;
    }

-- ---- and that of a task that is tried again

pub again_flies : (graph : List Node) (s : State) (next : ℕ) (f : _) → IsFlights next s.tickets f → (t : Ticket) (k : machine.Ticket) → ticket_at (number_of t) s.tickets ≡ Some k → IsTicket t k → (r : Report) (outs : Outs) (back : Ticket) → ComesBack t outs (Some back)
    → (new : Seen) → state_of new ≡ step (plain_graph graph) s (finish (number_of t) r outs) → IsFlying new back
again_flies graph s next f flights t k there is r outs back comes new e =
    let n = number_of t in
    let w : machine.Ticket = record k { told = k.told ++ r ∷ []; started = false } in
    let u : State = record s { tickets = with_ticket w (without n s.tickets) } in
    let state : state_of new ≡ u = e ∙ step_finish (plain_graph graph) s n k there r outs ∙ ap (do_finish (record s { tickets = without n s.tickets }) k r) comes.0 in
    let once = flights.once n in
    let c = count_is_passes (λ (q : machine.Ticket). q.number == n) s.tickets in
    let gone = at_without_same n s.tickets (omega arith) in
    let found : ticket_at n (with_ticket w (without n s.tickets)) ≡ Some w = at_with n (without n s.tickets) w ∙ ap (λ o. or_ticket o (if_number n w)) gone ∙ number_yes n w (sym is.number) in
    let number : number_of back ≡ n = ap number_of comes.1 in
    record {
      ticket = w;
      there = subst (λ (v : State). ticket_at (number_of back) v.tickets ≡ Some w) (sym state) (subst (λ m. ticket_at m (with_ticket w (without n s.tickets)) ≡ Some w) (sym number) found);
      is = record {
        number = ap number_of comes.1 ∙ is.number;
        node = ap node_of comes.1 ∙ is.node;
        port = ap port_of comes.1 ∙ is.port;
        inputs = ap inputs_of comes.1 ∙ is.inputs;
        n = ap n_of comes.1 ∙ is.n;
        attempt = ap attempt_of comes.1 ∙ ap (λ m. m + 1) is.attempt ∙ (let l = length_push k.told r in omega arith);
      };
    }

-- ---- tickets of the caller

module _ (graph : List Node) (p : Parts) (log : Log) (z : Seen) (v : seen graph log ≡ z) (h : IsFlow graph p log) (n : ℕ) where
  pub there_in : (t : ℕ) (k : machine.Ticket) → n ≡ t → ticket_at t (state_of z).tickets ≡ Some k → ticket_at n (state_in graph log).tickets ≡ Some k
  there_in t k e there = subst (λ m. ticket_at m (state_in graph log).tickets ≡ Some k) (sym e) (subst (λ y. ticket_at t (state_of y).tickets ≡ Some k) (sym v) there)

  pub flying_in : (t : Ticket) → n ≡ number_of t → IsFlying z t → flights.IsFlying p.flights n
  flying_in t e k = is_flying graph (state_in graph log) p h.parts n k.ticket (there_in (number_of t) k.ticket e k.there)

  pub some_flight : (t : Ticket) → n ≡ number_of t → IsFlying z t → 0 < length (state_in graph log).tickets
  some_flight t e k = let a = length_without n (state_in graph log).tickets k.ticket (there_in (number_of t) k.ticket e k.there) in omega arith

-- ---- the nodes of a run that isn't stopped

module _ (graph : List Node) (p : Parts) (log : Log) (z : Seen) (v : seen graph log ≡ z) (h : IsFlow graph p log) (stopped : Bool) (told : stopped ≡ is_some (state_of z).stop) (off : stopped ≡ false) (ns : List Node) (e : ns ≡ graph) where
  pub running_now : (state_in graph log).stop ≡ None
  running_now = ap (λ y. (state_of y).stop) v ∙ is_running (state_of z).stop (sym told ∙ off)

  pub nodes_in : AreNodes ns (state_in graph log) p.nodes
  nodes_in = subst (λ gs. AreNodes gs (state_in graph log) p.nodes) (sym e) (h.parts.nodes_are running_now)

-- ---- Abort

-- a run that isn't stopped has a cause for it
pub abort_given : (graph : List Node) (R : Rules) (s : State) (k : machine.Ticket) (cause : Option Stop) → AbortIsLegal (plain_graph graph) R s k (option_map stop_of cause) → s.stop ≡ None → is_some cause ≡ true
abort_given graph R s k None m run = absurd (not_running s.stop m run)
abort_given graph R s k (Some x) m run = refl

pub abort_stops : (graph : List Node) (R : Rules) (s : State) (k : machine.Ticket) (cause : Option Stop) → AbortIsLegal (plain_graph graph) R s k (option_map stop_of cause) → or_stop s.stop (option_map stop_of cause) ≡ None → ⊥
abort_stops graph R s k None m e = not_running s.stop m (sym (or_nothing s.stop) ∙ e)
abort_stops graph R s k (Some x) m e = or_stopped s.stop (stop_of x) e

-- ---- Take

module _ (graph : List Node) (p : Parts) (log : Log) (z : Seen) (v : seen graph log ≡ z) (h : IsFlow graph p log) (ns : List Node) (e : ns ≡ graph) (i port place : ℕ) (m : MayAdd z (take_of z i port place)) where
  pub may_take : MayTake ns (state_in graph log) i port place
  may_take = let l = legal_in graph p log z v h ns e (take_of z i port place) m in record { running = l.running; ready = l.ready; ticket = refl; number = refl }

  pub stands_to_take : Small → IsWellMade graph → StandsToTake ns p i port place
  stands_to_take small w = record {
    state = state_in graph log;
    parts = parts_in graph p log z v h ns e;
    bounded = bounded_in graph p log z v h small ns e w (take_of z i port place) m;
    may = may_take;
  }

-- the new ticket is one of those in flight
pub new_flies : (ns : List Node) (s : State) (p q : Parts) (h : IsParts ns s p) (i port place : ℕ) → MayTake ns s i port place → (t : Ticket) (n : ℕ) → n ≡ number_of t → Took ns s (site i port place) t q → flights.IsFlying q.flights n
new_flies ns s p q h i port place may t n e k =
    let none = none_next s.next s.tickets p.flights (flying ns s p h may.running).shows in
    subst (flights.IsFlying q.flights) (sym (e ∙ k.ticket.number)) (is_flying ns (taken ns s i port place) q k.parts s.next (taken_ticket ns s i port place) (found_new s.next s.tickets (taken_ticket ns s i port place) none refl))

-- and leaves again
pub new_left_again : (ns : List Node) (s : State) (p q : Parts) (h : IsParts ns s p) (i port place : ℕ) → MayTake ns s i port place → (t : Ticket) (n : ℕ) → n ≡ number_of t → (k : Took ns s (site i port place) t q) (f : Flights)
    → ((next : ℕ) (ts : List machine.Ticket) (x : machine.Ticket) → IsFlights next ts q.flights → ticket_at n ts ≡ Some x → IsFlights next (without n ts) f) → flights.nodes_of f ≡ flights.nodes_of q.flights
    → IsParts ns (step (plain_graph ns) s halt) (record q { flights = f })
new_left_again ns s p q h i port place may t n e k f after count =
    let none = none_next s.next s.tickets p.flights (flying ns s p h may.running).shows in
    let x = taken_ticket ns s i port place in
    let number : n ≡ s.next = e ∙ k.ticket.number in
    let there : ticket_at n (with_ticket x s.tickets) ≡ Some x = subst (λ m. ticket_at m (with_ticket x s.tickets) ≡ Some x) (sym number) (found_new s.next s.tickets x none refl) in
    untook ns s p (record q { flights = f }) h i port place may k.parts.next
    (subst (λ m. IsFlights k.parts.next (without m (with_ticket x s.tickets)) f) number (after k.parts.next (with_ticket x s.tickets) x k.parts.flights there)) (count ∙ k.parts.count)
    (k.parts.open_is ∙ same_open s.spots i (takes_at (s.spots i) place x.take) (length ns) refl)

-- ---- the opening, and room

pub begun_flow : (graph : List Node) (p : Parts) (log : Log) → log.history.items ≡ [] → log.inputs ≡ [] → log.stop ≡ st.No → log.room ≡ 0 → 1 ≤ vec_capacity log.history → IsParts graph (machine.opening (plain_graph graph)) p → IsFlow graph p log
begun_flow graph p log eh ei es er cap parts =
    let v : seen graph log ≡ begun graph = λ j. record { graph = graph; history = eh j; room = er j } in
    let is : state_in graph log ≡ machine.opening (plain_graph graph) = ap state_of v in
    record {
      parts = subst (λ (s : State). IsParts graph s p) (sym is) parts;
      stop = subst (λ (s : State). IsStop log.history.items log.stop s.stop) (sym is) (subst (λ hs. IsStop hs log.stop None) (sym eh) (subst (λ x. IsStop [] x None) (sym es) (record { abort = tt; named = tt; is = refl })));
      places = (let a = ap length eh in let b = ap kept_places is in omega (arith, a, b, er));
      inputs = λ t. ap (λ ins. inputs_at ins t) ei ∙ none_at t ∙ sym (ap (λ y. inputs_in y t) v);
      numbered = λ run. ap (λ (ins : List (Option (List Plain))). suc (length ins)) ei ∙ sym (ap (λ (s : State). s.next) is);
    }
  where
    none_at : (t : ℕ) → inputs_at [] t ≡ None
    none_at zero = refl
    none_at (suc t) = refl

pub roomed_flow : (graph : List Node) (p : Parts) (log log' : Log) → IsFlow graph p log → log'.history.items ≡ log.history.items → log'.inputs ≡ log.inputs → log'.stop ≡ log.stop
    → length log.history.items + 2 * log'.room + kept_places (state_in graph log) ≤ vec_capacity log'.history → IsFlow graph p log'
roomed_flow graph p log log' h eh ei es cap =
    let is : state_in graph log' ≡ state_in graph log = ap (λ hs. state_of (record { graph = graph; history = hs; room = 0 })) eh in
    record {
      parts = subst (λ (s : State). IsParts graph s p) (sym is) h.parts;
      stop = subst (λ (s : State). IsStop log'.history.items log'.stop s.stop) (sym is) (subst (λ hs. IsStop hs log'.stop (state_in graph log).stop) (sym eh) (subst (λ x. IsStop log.history.items x (state_in graph log).stop) (sym es) h.stop));
      places = (let a = ap length eh in let b = ap kept_places is in omega (arith, a, b, cap));
      inputs = λ t. ap (λ ins. inputs_at ins t) ei ∙ h.inputs t ∙ sym (ap (λ hs. inputs_in (record { graph = graph; history = hs; room = 0 }) t) eh);
      numbered = λ run. ap (λ (ins : List (Option (List Plain))). suc (length ins)) ei ∙ h.numbered (sym (ap (λ (s : State). s.stop) is) ∙ run) ∙ sym (ap (λ (s : State). s.next) is);
    }

pub none_stopped : (why : Option PlainStop) → is_none why ≡ true → why ≡ None
none_stopped None t = refl
none_stopped (Some x) t = absurd (true≢false (sym t))

-- ---- a Take, with the inputs that are kept

-- the kind of the node that was read
pub kind_read : (ns graph : List Node) (i : ℕ) (n : Node) → ns ≡ graph → i < length ns → n ≡ get_or ns i n → plain_kind n.kind ≡ (node_at (plain_graph graph) i).kind
kind_read ns graph i n e l is =
    let here : n ≡ node_in ns i = is ∙ get_or_default ns i n no_source l in
    ap (λ (m : Node). plain_kind m.kind) (here ∙ ap (λ gs. node_in gs i) e) ∙ ap (λ (m : PlainNode). m.kind) (sym (plain_at graph i))

pub took_with : (graph : List Node) (log kept log' : Log) (i port place : ℕ) (t : Ticket) → IsTicket t (taken_ticket graph (state_in graph log) i port place) → (node : Node) (inputs : List Plain) (n m : ℕ)
    → plain_kind node.kind ≡ (node_at (plain_graph graph) i).kind → inputs ≡ inputs_of t → n ≡ number_of t → m ≡ n_of t
    → kept ≡ record log { inputs = log.inputs ++ process_inputs (plain_kind node.kind) inputs ∷ [] } → IsAdded kept (e.Take i port place n m) kept.stop log'
    → IsAdded (record log { inputs = log.inputs ++ process_inputs (node_at (plain_graph graph) i).kind (take_at (plain_graph graph) (state_in graph log) i port place).inputs ∷ [] }) (take_of (seen graph log) i port place) log.stop log'
took_with graph log kept log' i port place t is node inputs n m kind eins en em ek a =
    let ins = eins ∙ is.inputs in let num = en ∙ is.number in let count = em ∙ is.n in
    let k : kept ≡ record log { inputs = log.inputs ++ process_inputs (node_at (plain_graph graph) i).kind (take_at (plain_graph graph) (state_in graph log) i port place).inputs ∷ [] } =
    ek ∙ (λ j. record log { inputs = log.inputs ++ process_inputs (kind j) (ins j) ∷ [] }) in
    let x : e.Take i port place n m ≡ take_of (seen graph log) i port place = λ j. e.Take i port place (num j) (count j) in
    subst (λ (l : Log). IsAdded l (take_of (seen graph log) i port place) l.stop log') k (subst (λ y. IsAdded kept y kept.stop log') x a)

-- ---- tickets that come back

module _ (graph : List Node) (p : Parts) (log : Log) (z : Seen) (v : seen graph log ≡ z) (h : IsFlow graph p log) (ns : List Node) (same : ns ≡ graph) (x : Event) (m : MayAdd z x) (t : Ticket) (k : IsFlying z t) where
  pub there_now : ticket_at (number_of t) (state_in graph log).tickets ≡ Some k.ticket
  there_now = there_in graph p log z v h (number_of t) (number_of t) k.ticket refl k.there

  pub stands_to_end : Small → IsWellMade graph → (stopped : Bool) → stopped ≡ is_stopped_by log.stop → StandsToEnd ns p t stopped
  stands_to_end small w stopped told = record {
    state = state_in graph log;
    parts = parts_in graph p log z v h ns same;
    bounded = bounded_in graph p log z v h small ns same w x m;
    ticket = k.ticket;
    there = there_now;
    is = k.is;
    told = told ∙ stopped_told log.history.items log.stop (state_in graph log).stop h.stop;
  }

  -- want of memory
  pub lost_flow : (p' : Parts) (log' : Log) (n : ℕ) (stop : Stopped) → n ≡ number_of t → stop ≡ first_stop log.stop (st.At (length log.history.items)) → IsAdded log (lost n) stop log'
      → IsParts ns (step (plain_graph ns) (state_in graph log) (losing (number_of t))) p' → IsFlow graph p' log'
  lost_flow p' log' n stop e es a parts =
      flow_aborted graph p p' log log' (number_of t) (Some s.Mem) k.ticket h there_now tt (λ run. refl)
      (subst (λ q. IsAdded log (lost (number_of t)) q log') es (subst (λ q. IsAdded log (lost q) stop log') e a))
      (subst (λ gs. IsParts gs (step (plain_graph gs) (state_in graph log) (losing (number_of t))) p') same parts)

-- the ticket that comes back is in flight
pub back_flies : (graph : List Node) (p : Parts) (log : Log) (z : Seen) (v : seen graph log ≡ z) (h : IsFlow graph p log) (t : Ticket) (k : IsFlying z t) (r : Report) (outs : Outs) (o : Option Ticket) → ComesBack t outs o
    → (new : Seen) → state_of new ≡ step (plain_graph graph) (state_in graph log) (finish (number_of t) r outs) → IfSome o (IsFlying new)
back_flies graph p log z v h t k r outs None b new e = tt
back_flies graph p log z v h t k r outs (Some back) b new e =
    again_flies graph (state_in graph log) h.parts.next p.flights h.parts.flights t k.ticket (there_in graph p log z v h (number_of t) (number_of t) k.ticket refl k.there) k.is r outs back b new e

module _ (graph : List Node) (p : Parts) (log : Log) (z : Seen) (v : seen graph log ≡ z) (h : IsFlow graph p log) (ns : List Node) (same : ns ≡ graph) (i port place : ℕ) (may : MayTake ns (state_in graph log) i port place)
    (t : Ticket) (q : Parts) (told : Took ns (state_in graph log) (site i port place) t q) (node : Node) (inputs : List Plain) (n m : ℕ) (kept log' : Log) where
  took_here : Took graph (state_in graph log) (site i port place) t q
  took_here = subst (λ gs. Took gs (state_in graph log) (site i port place) t q) same told

  may_here : MayTake graph (state_in graph log) i port place
  may_here = subst (λ gs. MayTake gs (state_in graph log) i port place) same may

  module _ (read : node ≡ get_or ns i node) (eins : inputs ≡ inputs_of t) (en : n ≡ number_of t) (em : m ≡ n_of t) (ek : kept ≡ record log { inputs = log.inputs ++ process_inputs (plain_kind node.kind) inputs ∷ [] })
      (a : IsAdded kept (e.Take i port place n m) kept.stop log') where
    below : i < length ns
    below = let b = node_of_take (plain_graph ns) (state_in graph log) i port place _ _ may in let g = graph_length ns in omega arith

    added : IsAdded (record log { inputs = log.inputs ++ process_inputs (node_at (plain_graph graph) i).kind (take_at (plain_graph graph) (state_in graph log) i port place).inputs ∷ [] }) (take_of (seen graph log) i port place) log.stop log'
    added = took_with graph log kept log' i port place t took_here.ticket node inputs n m (kind_read ns graph i node same below read) eins en em ek a

    pub took_flow : 0 < log.room → IsFlow graph q log'
    took_flow room = flow_took graph p q log log' i port place h room may.running added took_here.parts

    seen_took : seen graph log' ≡ grown (seen graph log) (take_of (seen graph log) i port place)
    seen_took = seen_added graph (record log { inputs = log.inputs ++ process_inputs (node_at (plain_graph graph) i).kind (take_at (plain_graph graph) (state_in graph log) i port place).inputs ∷ [] }) log' (take_of (seen graph log) i port place) log.stop added

    pub took_seen : seen graph log' ≡ grown z (take_of z i port place)
    took_seen = seen_took ∙ ap (λ y. grown y (take_of y i port place)) v

    pub took_flies : IsFlying (seen graph log') t
    took_flies = take_flies graph p log h i port place may_here t took_here.ticket (seen graph log') seen_took

    pub took_number : number_of t ≡ (state_of z).next
    took_number = took_here.ticket.number ∙ ap (λ y. (state_of y).next) v

-- ---- places

pub few_kept : (graph : List Node) (p : Parts) (log : Log) → IsFlow graph p log → length (state_in graph log).tickets ≤ vec_capacity log.history
few_kept graph p log h = let a = h.places in omega arith

pub kept_room : (s : State) → kept_places s ≤ length s.tickets + 1
kept_room s = by (is_none s.stop)
  where
    by : (b : Bool) → length s.tickets + cond b 1 0 ≤ length s.tickets + 1
    by true = omega arith
    by false = omega arith

-- the state after an event
pub state_after : (graph : List Node) (log log' : Log) (x : Event) (stop : Stopped) → IsAdded log x stop log' → state_of (seen graph log') ≡ step (plain_graph graph) (state_in graph log) (event_of (plain_graph graph) x)
state_after graph log log' x stop a = ap state_of (seen_added graph log log' x stop a) ∙ state_grown (seen graph log) x

-- ---- Give

-- what the law of operators' tickets says
abbrev pub OneItem : Type 0
OneItem = (z : Seen) (x : Event) (t : ℕ) (k : machine.Ticket) → IsWellMade z.graph → MayAdd z x → ticket_at t (state_of z).tickets ≡ Some k → IsOperatorKind (node_at (plain_of z) k.node).kind → k.take.inputs ≡ k.take.item ∷ []

module _ (graph : List Node) (p : Parts) (log : Log) (z : Seen) (v : seen graph log ≡ z) (h : IsFlow graph p log) (t : Ticket) (k : IsFlying z t) (answer : Result Value EvalFault) (m : MayAdd z (e.Give (number_of t) answer)) where
  pub give_legal : GiveIsLegal (plain_graph graph) m.rules (state_in graph log) k.ticket (answer_of answer)
  give_legal =
      in_flight (λ q. GiveIsLegal (plain_graph graph) m.rules (state_in graph log) q (answer_of answer)) (state_in graph log) (number_of t) k.ticket
      (there_in graph p log z v h (number_of t) (number_of t) k.ticket refl k.there) (legal_in graph p log z v h graph refl (e.Give (number_of t) answer) m)

  one_of : OneItem → IsWellMade graph → inputs_of t ≡ k.ticket.take.item ∷ []
  one_of law w =
      k.is.inputs ∙ law (seen graph log) (e.Give (number_of t) answer) (number_of t) k.ticket w (may_add graph p log z v h (e.Give (number_of t) answer) m)
      (there_in graph p log z v h (number_of t) (number_of t) k.ticket refl k.there) give_legal.kind

  pub has_one : OneItem → IsWellMade graph → length (inputs_of t) ≡ 1
  has_one law w = ap length (one_of law w)

  pub item_there : OneItem → IsWellMade graph → (n node port : ℕ) (item : Plain) → n ≡ number_of t → node ≡ node_of t → port ≡ port_of t → inputs_of t ≡ item ∷ [] → IsItem (state_in graph log) n k.ticket node port item
  item_there law w n node port item en ei ep eins = record {
    there = there_in graph p log z v h n (number_of t) k.ticket en k.there;
    node_is = sym (ei ∙ k.is.node);
    port_is = sym (ep ∙ k.is.port);
    item_is = (let a : k.ticket.take.item ∷ [] ≡ item ∷ [] = sym (one_of law w) ∙ eins in cc);
  }

  pub stands_to_give : Small → IsWellMade graph → (ns : List Node) → ns ≡ graph → (n node : ℕ) → n ≡ number_of t → node ≡ node_of t → StandsToGive ns p n node
  stands_to_give small w ns same n node en ei = record {
    state = state_in graph log;
    parts = parts_in graph p log z v h ns same;
    bounded = bounded_in graph p log z v h small ns same w (e.Give (number_of t) answer) m;
    running = give_legal.running;
    ticket = k.ticket;
    there = there_in graph p log z v h n (number_of t) k.ticket en k.there;
    node_is = sym (ei ∙ k.is.node);
    kind = subst (λ gs. IsOperatorKind (node_at (plain_graph gs) node).kind) (sym same) (subst (λ i. IsOperatorKind (node_at (plain_graph graph) i).kind) (sym (ei ∙ k.is.node)) give_legal.kind);
  }
