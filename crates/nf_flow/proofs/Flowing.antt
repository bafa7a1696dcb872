-- A run after each kind of event.
use Rattle.std.proofs.Common.{◌≡◌, ℕ, zero, suc, ◌+◌, ◌*◌, ◌<◌, ◌≤◌, List, [], ◌∷◌, ◌++◌, length, get_or, Bool, true, false, cond, refl, ap, sym, ◌∙◌, subst, arith, inl, inr}
use Rattle.std.specs.Prelude.{◌==◌, nat_lt, Option, Some, None, Result, Ok, Err, is_some, is_none, option_map, if◌then◌else◌}
use Rattle.std.proofs.lemmas.Bool.{cases_Bool, cases_eq}
use Rattle.std.proofs.lemmas.Bool.Decides.{nat_tests}
use Rattle.std.proofs.lemmas.List.{length_push, get_or_append_left, get_or_past}
use Rattle.std.proofs.Math.Seq.{get_or-append_seam}
use Rattle.nf_value.specs.Plain.{Plain}
use Rattle.nf_value.specs.declared.fault.EvalFault.{EvalFault}
use Rattle.nf_opstream.specs.Push.{Push}
use Rattle.nf_job.specs.declared.report.Report.{Report}
use Rattle.nf_job.specs.declared.emitted.Outputs.TheVariants.{Emits, Ignored, Failed, Again}
use Rattle.nf_graph.specs.declared.node.Node.{Node}
use Rattle.nf_graph.specs.Node.{PlainNode, node_at}
use Rattle.nf_graph.specs.Meaning.{cost}
use Rattle.nf_graph.specs.Rules.{Outs}
use Rattle.nf_graph.specs.WellMade.{plain_graph}
use Rattle.nf_machine.specs.declared.event.Event.{Event}
use Rattle.nf_machine.specs.declared.event.Event.TheVariants as e
use Rattle.nf_machine.specs.declared.stop.Stop.{Stop}
use Rattle.nf_machine.specs.declared.stop.Stop.TheVariants as s
use Rattle.nf_machine.specs.Event.{PlainEvent, PlainStop, event_of, stop_of, memory_stop, pass, taking, give, start, finish, reuse, close, abort, halt}
use Rattle.nf_machine.specs.State.{Ticket, State}
use Rattle.nf_machine.specs.Step.{limit, take_at, do_pass, do_give, give_push, Given, op_gives, op_ends, do_close, do_finish, push_with, next_item, or_stop, ticket_at, without, with_ticket, at_ticket, step}
use Rattle.nf_flight.specs.Inputs.{inputs_at}
use Rattle.nf_flight.proofs.Tickets.{length_without}
use Rattle.nf_nodes.specs.Steps.{taken}
use Rattle.nf_flow.specs.Questions.{inputs_by, or_else, process_inputs}
use Rattle.nf_flow.specs.Stopped.{IsNamedIfAny, IsStop, first_stop, stopped_by}
use Rattle.nf_flow.specs.Log.{IsAdded}
use Rattle.nf_flow.specs.Parts.{IsParts, Leads, taken_ticket}
use Rattle.nf_flow.specs.Flow.{IsFlow, state_in}
use Rattle.nf_flow.specs.declared.log.Log.{Log}
use Rattle.nf_flow.specs.declared.parts.Parts.{Parts}
use Rattle.nf_flow.specs.declared.stopped.Stopped.TheVariants as st
use Rattle.nf_flow.proofs.Growth.{flow_added, flow_led, flow_stopped, next_state, places_of_room, places_of_ticket, or_none, or_nothing, stop_aborted, stop_kept}
use Rattle.nf_flow.proofs.Moving.{over, within}
use Rattle.nf_flow.proofs.Tickets.{length_back, step_abort}

-- ---- what an event that is no Take leaves of tickets

-- no ticket more
record Calm (s u : State) : Type 0 where
  next : u.next ≡ s.next
  tickets : length u.tickets ≤ length s.tickets

same : (s : State) → Calm s s
same s = record { next = refl; tickets = omega arith }

calm_on : {s u v : State} → Calm s u → Calm u v → Calm s v
calm_on a b = record { next = b.next ∙ a.next; tickets = (let x = a.tickets in let y = b.tickets in omega arith) }

calm_pass : (s : State) (i k : ℕ) (x : Plain) → Calm s (do_pass s i k x)
calm_pass s i k x = by (nat_lt limit (s.charge + cost x))
  where
    by : (b : Bool) → Calm s (cond b (over s i k x) (within s i k x))
    by true = record { next = refl; tickets = omega arith }
    by false = record { next = refl; tickets = omega arith }

calm_push : (s : State) (i : ℕ) (x : Push) (r : Given) → Calm s (give_push s i x r)
calm_push s i x (Ok es) = record { next = refl; tickets = omega arith }
calm_push s i x (Err f) = record { next = refl; tickets = omega arith }

calm_close : (s : State) (i : ℕ) (r : Given) → Calm s (do_close s i r)
calm_close s i (Ok es) = record { next = refl; tickets = omega arith }
calm_close s i (Err f) = record { next = refl; tickets = omega arith }

calm_give : (g : List PlainNode) (s : State) (k : Ticket) (a : Result Plain EvalFault) → Calm s (do_give g s k a)
calm_give g s k (Ok a) = calm_push s k.node (push_with k.take a) (op_gives (node_at g k.node).kind (s.spots k.node).pushed (push_with k.take a))
calm_give g s k (Err f) = record { next = refl; tickets = omega arith }

-- without the ticket, before it comes back
calm_end : (s : State) (k : Ticket) (r : Report) (outs : Outs) (n : ℕ) → suc (length s.tickets) ≤ n → (do_finish s k r outs).next ≡ s.next × (length (do_finish s k r outs).tickets ≤ n)
calm_end s k r (Ok (Emits vs)) n l = (refl, omega arith)
calm_end s k r (Ok Ignored) n l = (refl, omega arith)
calm_end s k r (Ok (Failed f)) n l = (refl, omega arith)
calm_end s k r (Ok Again) n l = (refl, let a = length_push s.tickets (record k { told = k.told ++ r ∷ []; started = false }) in omega arith)
calm_end s k r (Err f) n l = (refl, omega arith)

-- what happens with a ticket that is there
at_calm : (s : State) (t : ℕ) (f : State → Ticket → State) → ((k : Ticket) → ticket_at t s.tickets ≡ Some k → Calm s (f (record s { tickets = without t s.tickets }) k)) → Calm s (at_ticket s t (ticket_at t s.tickets) f)
at_calm s t f h = by (ticket_at t s.tickets) h
  where
    by : (o : Option Ticket) → ((k : Ticket) → o ≡ Some k → Calm s (f (record s { tickets = without t s.tickets }) k)) → Calm s (at_ticket s t o f)
    by None h = same s
    by (Some k) h = h k refl

fewer : (s : State) (t : ℕ) (k : Ticket) → ticket_at t s.tickets ≡ Some k → Calm s (record s { tickets = without t s.tickets })
fewer s t k e = record { next = refl; tickets = (let a = length_without t s.tickets k e in omega arith) }

ended : (s : State) (t : ℕ) (r : Report) (outs : Outs) (k : Ticket) → ticket_at t s.tickets ≡ Some k → Calm s (do_finish (record s { tickets = without t s.tickets }) k r outs)
ended s t r outs k e =
    let l : suc (length (without t s.tickets)) ≤ length s.tickets = (let a = length_without t s.tickets k e in omega arith) in
    let b = calm_end (record s { tickets = without t s.tickets }) k r outs (length s.tickets) l in record { next = b.0; tickets = b.1 }

-- an event that is no Take
abbrev pub IsOther : PlainEvent → Type 0
IsOther (taking i port place t n) = ⊥
IsOther (pass i k) = Unit {0}
IsOther (give t a) = Unit {0}
IsOther (start t cause) = Unit {0}
IsOther (finish t r outs) = Unit {0}
IsOther (reuse t r outs) = Unit {0}
IsOther (close i) = Unit {0}
IsOther (abort t cause) = Unit {0}
IsOther halt = Unit {0}

calm : (g : List PlainNode) (s : State) (x : PlainEvent) → IsOther x → Calm s (step g s x)
calm g s (pass i k) m = calm_pass s i k (next_item g s i k)
calm g s (taking i port place t n) m = absurd m
calm g s (give t a) m = at_calm s t (λ s' k. do_give g s' k a) (λ k e. calm_on (fewer s t k e) (calm_give g (record s { tickets = without t s.tickets }) k a))
calm g s (start t cause) m = at_calm s t (λ s' k. record s' { tickets = with_ticket (record k { started = true }) s'.tickets }) (λ k e. record { next = refl; tickets = (let a = length_back t s.tickets k (record k { started = true }) e in omega arith) })
calm g s (finish t r outs) m = at_calm s t (λ s' k. do_finish s' k r outs) (ended s t r outs)
calm g s (reuse t r outs) m = at_calm s t (λ s' k. do_finish s' k r outs) (ended s t r outs)
calm g s (close i) m = calm_close s i (op_ends (node_at g i).kind (s.spots i).pushed)
calm g s (abort t cause) m = at_calm s t (λ s' k. record s' { gone = k ∷ s'.gone; stop = or_stop s'.stop cause }) (λ k e. let a = fewer s t k e in record { next = refl; tickets = a.tickets })
calm g s halt m = record { next = refl; tickets = omega arith }

no_inputs : (g : List PlainNode) (s : State) (x : PlainEvent) → IsOther x → (t : ℕ) → inputs_by g s t x ≡ None
no_inputs g s (pass i k) m t = refl
no_inputs g s (taking i port place u n) m t = absurd m
no_inputs g s (give u a) m t = refl
no_inputs g s (start u cause) m t = refl
no_inputs g s (finish u r outs) m t = refl
no_inputs g s (reuse u r outs) m t = refl
no_inputs g s (close i) m t = refl
no_inputs g s (abort u cause) m t = refl
no_inputs g s halt m t = refl

-- ---- the run

-- an event that had room
pub flow_event : (graph : List Node) (p p' : Parts) (log log' : Log) (x : Event) (stop : Option Stop) → IsOther (event_of (plain_graph graph) x) → IsFlow graph p log → 0 < log.room → IsAdded log x (stopped_by log.stop stop) log'
    → Leads graph (state_in graph log) (next_state graph log x) stop p' → IsFlow graph p' log'
flow_event graph p p' log log' x stop other h room a l =
    let g = plain_graph graph in let s = state_in graph log in
    let c = calm g s (event_of g x) other in
    flow_led graph p p' log log' x h (no_inputs g s (event_of g x) other) c.next stop a l
    (places_of_room s (next_state graph log x) (option_map stop_of stop) log.room l.stop_is (let b = c.tickets in omega arith) room)

-- want of memory
pub flow_halted : (graph : List Node) (p p' : Parts) (log log' : Log) → IsFlow graph p log → (state_in graph log).stop ≡ None → IsAdded log e.Halt (first_stop log.stop (st.Own s.Mem)) log'
    → IsParts graph (step (plain_graph graph) (state_in graph log) halt) p' → IsFlow graph p' log'
flow_halted graph p p' log log' h run a parts =
    let old = state_in graph log in
    let l : Leads graph old (next_state graph log e.Halt) (Some s.Mem) p' = record { parts = parts; stop_is = ap (λ (o : Option PlainStop). or_stop o (Some memory_stop)) (sym run); named = tt } in
    flow_led graph p p' log log' e.Halt h (λ t. refl) refl (Some s.Mem) a l (halts_one old.stop (length old.tickets) log.room run)
  where
    halts_one : (why : Option PlainStop) (n room : ℕ) → why ≡ None → n + 0 + 1 ≤ n + cond (is_none why) 1 0 + 2 * room
    halts_one None n room e = omega arith
    halts_one (Some y) n room e = absurd cc

-- a ticket is given up
pub flow_aborted : (graph : List Node) (p p' : Parts) (log log' : Log) (t : ℕ) (cause : Option Stop) (k : Ticket) → IsFlow graph p log → ticket_at t (state_in graph log).tickets ≡ Some k → IsNamedIfAny cause
    → ((state_in graph log).stop ≡ None → is_some cause ≡ true) → IsAdded log (e.Abort t cause) (first_stop log.stop (st.At (length log.history.items))) log'
    → IsParts graph (step (plain_graph graph) (state_in graph log) (abort t (option_map stop_of cause))) p' → IsFlow graph p' log'
flow_aborted graph p p' log log' t cause k h there named given a parts =
    let old = state_in graph log in let x = e.Abort t cause in
    let is = step_abort (plain_graph graph) old t k there (option_map stop_of cause) in
    let stop_is = ap (λ (u : State). u.stop) is in
    flow_stopped graph p p' log log' x h (λ u. refl) (ap (λ (u : State). u.next) is) (first_stop log.stop (st.At (length log.history.items))) (option_map stop_of cause) a parts stop_is
    (subst (λ w. IsStop (log.history.items ++ x ∷ []) (first_stop log.stop (st.At (length log.history.items))) w) (sym stop_is) (stop_aborted log.history.items t cause log.stop old.stop named given h.stop))
    (places_of_ticket old (next_state graph log x) (option_map stop_of cause) log.room stop_is
    (let l = length_without t old.tickets k there in let m = ap (λ (u : State). length u.tickets) is in omega (arith, l, m)))

-- ---- Take

kept : (ins : List (Option (List Plain))) (w : Option (List Plain)) (next t : ℕ) → suc (length ins) ≡ next → inputs_at (ins ++ w ∷ []) t ≡ or_else (inputs_at ins t) (if next == t then w else None)
kept ins w next zero e = let f : (next == 0) ≡ false = grind (arith, nat_tests) in rw f refl
kept ins w next (suc u) e = elim (cases_eq u (length ins)) [
  | inl q ↦ (let f : (next == suc u) ≡ true = grind (arith, nat_tests) in
      let past : get_or ins u None ≡ None = get_or_past ins u None (omega arith) in
      rw (f, past) (subst (λ m. get_or (ins ++ w ∷ []) m None ≡ w) (sym q) (get_or-append_seam ins w [] None)))
  | inr n ↦ (let f : (next == suc u) ≡ false = grind (arith, nat_tests) in rw f (elim (cases_Bool (nat_lt u (length ins))) [
    | inl b ↦ (let l : u < length ins = grind (arith, nat_tests) in get_or_append_left ins (w ∷ []) None u l ∙ sym (or_none (get_or ins u None)))
    | inr b ↦ (let l : length ins < u = lower u (length ins) n b in
        let past : get_or ins u None ≡ None = get_or_past ins u None (omega arith) in
        rw past (get_or_past (ins ++ w ∷ []) u None (let a = length_push ins w in omega arith)))
  ]))
]
  where
    lower : (u m : ℕ) → (u ≡ m → ⊥) → nat_lt u m ≡ false → m < u
    lower u m n b = grind (arith, nat_tests)

-- a node took
pub flow_took : (graph : List Node) (p p' : Parts) (log log' : Log) (i port place : ℕ) → IsFlow graph p log → 0 < log.room → (state_in graph log).stop ≡ None
    → IsAdded (record log { inputs = log.inputs ++ process_inputs (node_at (plain_graph graph) i).kind (take_at (plain_graph graph) (state_in graph log) i port place).inputs ∷ [] })
    (e.Take i port place (state_in graph log).next (take_at (plain_graph graph) (state_in graph log) i port place).n) log.stop log'
    → IsParts graph (taken graph (state_in graph log) i port place) p' → IsFlow graph p' log'
flow_took graph p p' log log' i port place h room run a parts =
    let g = plain_graph graph in let old = state_in graph log in
    let w = process_inputs (node_at g i).kind (take_at g old i port place).inputs in
    let x = e.Take i port place old.next (take_at g old i port place).n in
    flow_added graph p p' log log' (log.inputs ++ w ∷ []) x log.stop h a parts (stop_kept log.history.items x log.stop old.stop h.stop)
    (places_of_room old (next_state graph log x) None log.room (sym (or_nothing old.stop)) (let l = length_push old.tickets (taken_ticket graph old i port place) in omega arith) room)
    (λ t. kept log.inputs w old.next t (h.numbered run) ∙ ap (λ o. or_else o (if old.next == t then w else None)) (h.inputs t))
    (λ r. (let b = length_push log.inputs w in let c = h.numbered run in omega arith))
