-- A run grows by one event.
use Rattle.std.proofs.Common.{◌≡◌, ℕ, suc, ◌+◌, ◌*◌, ◌≤◌, ◌<◌, List, [], ◌∷◌, ◌++◌, length, cond, true, refl, ap, sym, ◌∙◌, subst, arith}
use Rattle.std.specs.Prelude.{Option, Some, None, is_none, is_some, option_map, slice_index_or}
use Rattle.std.proofs.lemmas.Bool.{true≢false}
use Rattle.std.proofs.lemmas.List.{map_push, length_push, get_or_append_left}
use Rattle.std.proofs.Math.Seq.{get_or-append_seam}
use Rattle.nf_value.specs.Plain.{Plain}
use Rattle.nf_graph.specs.declared.node.Node.{Node}
use Rattle.nf_graph.specs.Node.{PlainNode}
use Rattle.nf_graph.specs.WellMade.{plain_graph}
use Rattle.nf_machine.specs.declared.event.Event.{Event}
use Rattle.nf_machine.specs.declared.event.Event.TheVariants as e
use Rattle.nf_machine.specs.declared.stop.Stop.{Stop}
use Rattle.nf_machine.specs.Event.{PlainEvent, PlainStop, event_of, stop_of}
use Rattle.nf_machine.specs.State.{State, opening}
use Rattle.nf_machine.specs.Step.{or_stop, step, replay}
use Rattle.nf_machine.proofs.Growing.{replay_grows}
use Rattle.nf_flight.specs.Inputs.{inputs_at}
use Rattle.nf_flow.specs.Seen.{Seen, plain_of, events_of, state_of, event_in, grown}
use Rattle.nf_flow.specs.Questions.{inputs_by, inputs_in, inputs_taken, or_else}
use Rattle.nf_flow.specs.Stopped.{IsAbort, IsNamedIfAny, IsStop, cause_of, first_stop, stop_in, stopped_by}
use Rattle.nf_flow.specs.Log.{HasPlace, IsAdded}
use Rattle.nf_flow.specs.Parts.{IsParts, Leads}
use Rattle.nf_flow.specs.Flow.{IsFlow, kept_places, seen, state_in}
use Rattle.nf_flow.specs.declared.log.Log.{Log}
use Rattle.nf_flow.specs.declared.parts.Parts.{Parts}
use Rattle.nf_flow.specs.declared.stopped.Stopped.{Stopped}
use Rattle.nf_flow.specs.declared.stopped.Stopped.TheVariants as st

-- the state after one event more
abbrev pub next_state : List Node → Log → Event → State
next_state graph log x = step (plain_graph graph) (state_in graph log) (event_of (plain_graph graph) x)

pub state_grown : (z : Seen) (x : Event) → state_of (grown z x) ≡ step (plain_of z) (state_of z) (event_in z x)
state_grown z x =
    let g = plain_of z in
    ap (replay g (opening g)) (map_push (event_of g) z.history x) ∙ replay_grows g (opening g) (events_of z) (event_in z x)

-- what contracts see of it
pub seen_added : (graph : List Node) (old new : Log) (x : Event) (stop : Stopped) → IsAdded old x stop new → seen graph new ≡ grown (seen graph old) x
seen_added graph old new x stop a = λ i. record { graph = graph; history = a.history i; room = a.room i }

-- ---- inputs

joined : (a b c : Option (List Plain)) → or_else (or_else a b) c ≡ or_else a (or_else b c)
joined None b c = refl
joined (Some x) b c = refl

pub or_none : (a : Option (List Plain)) → or_else a None ≡ a
or_none None = refl
or_none (Some x) = refl

inputs_push : (g : List PlainNode) (s : State) (t : ℕ) (h : List PlainEvent) (x : PlainEvent) → inputs_taken g s t (h ++ x ∷ []) ≡ or_else (inputs_taken g s t h) (inputs_by g (replay g s h) t x)
inputs_push g s t [] x = or_none (inputs_by g s t x)
inputs_push g s t (y ∷ h) x = ap (or_else (inputs_by g s t y)) (inputs_push g (step g s y) t h x) ∙ sym (joined (inputs_by g s t y) (inputs_taken g (step g s y) t h) (inputs_by g (replay g (step g s y) h) t x))

pub inputs_grown : (z : Seen) (x : Event) (t : ℕ) → inputs_in (grown z x) t ≡ or_else (inputs_in z t) (inputs_by (plain_of z) (state_of z) t (event_in z x))
inputs_grown z x t = let g = plain_of z in ap (inputs_taken g (opening g) t) (map_push (event_of g) z.history x) ∙ inputs_push g (opening g) t (events_of z) (event_in z x)

-- ---- stops

-- a stop that stood stands
abort_kept : (h : List Event) (x : Event) (stop : Stopped) → IsAbort h stop → IsAbort (h ++ x ∷ []) stop
abort_kept h x st.No c = tt
abort_kept h x (st.Own y) c = tt
abort_kept h x (st.At place) c = record {
  below = (let l = c.below in let e = length_push h x in omega arith);
  cause = subst (λ (y : Event). is_some (cause_of y) ≡ true) (sym (get_or_append_left h (x ∷ []) e.Halt place c.below)) c.cause;
}

stop_same : (h : List Event) (x : Event) (stop : Stopped) → IsAbort h stop → stop_in (h ++ x ∷ []) stop ≡ stop_in h stop
stop_same h x st.No c = refl
stop_same h x (st.Own y) c = refl
stop_same h x (st.At place) c = ap cause_of (get_or_append_left h (x ∷ []) e.Halt place c.below)

pub stop_kept : (h : List Event) (x : Event) (stop : Stopped) (why : Option PlainStop) → IsStop h stop why → IsStop (h ++ x ∷ []) stop why
stop_kept h x stop why c = record {
  abort = abort_kept h x stop c.abort;
  named = subst IsNamedIfAny (sym (stop_same h x stop c.abort)) c.named;
  is = ap (option_map stop_of) (stop_same h x stop c.abort) ∙ c.is;
}

-- what is stopped stays so
or_some : (o : Option Stop) (why w : Option PlainStop) → option_map stop_of o ≡ why → is_some o ≡ true → why ≡ or_stop why w
or_some None why w e t = absurd (true≢false (sym t))
or_some (Some y) why w e t = subst (λ v. v ≡ or_stop v w) e refl

pub or_nothing : (why : Option PlainStop) → or_stop why None ≡ why
or_nothing None = refl
or_nothing (Some x) = refl

-- a stop of the run's own
pub stop_added : (h : List Event) (x : Event) (old : Stopped) (why : Option PlainStop) (stop : Option Stop) → IsNamedIfAny stop → IsStop h old why
    → IsStop (h ++ x ∷ []) (stopped_by old stop) (or_stop why (option_map stop_of stop))
stop_added h x old why None n c = subst (IsStop (h ++ x ∷ []) old) (sym (or_nothing why)) (stop_kept h x old why c)
stop_added h x st.No why (Some y) n c = subst (λ w. IsStop (h ++ x ∷ []) (st.Own y) (or_stop w (Some (stop_of y)))) c.is (record { abort = tt; named = n; is = refl })
stop_added h x (st.Own z) why (Some y) n c = subst (IsStop (h ++ x ∷ []) (st.Own z)) (or_some (Some z) why (Some (stop_of y)) c.is refl) (stop_kept h x (st.Own z) why c)
stop_added h x (st.At place) why (Some y) n c =
    let k = c.abort in subst (IsStop (h ++ x ∷ []) (st.At place)) (or_some (cause_of (slice_index_or h place e.Halt)) why (Some (stop_of y)) c.is k.cause) (stop_kept h x (st.At place) why c)

-- the cause of an Abort
pub stop_aborted : (h : List Event) (t : ℕ) (cause : Option Stop) (old : Stopped) (why : Option PlainStop) → IsNamedIfAny cause → (why ≡ None → is_some cause ≡ true) → IsStop h old why
    → IsStop (h ++ e.Abort t cause ∷ []) (first_stop old (st.At (length h))) (or_stop why (option_map stop_of cause))
stop_aborted h t cause st.No why n given c =
    let x = e.Abort t cause in
    let there : cause_of (slice_index_or (h ++ x ∷ []) (length h) e.Halt) ≡ cause = ap cause_of (get_or-append_seam h x [] e.Halt) in
    subst (λ w. IsStop (h ++ x ∷ []) (st.At (length h)) (or_stop w (option_map stop_of cause))) c.is (record {
      abort = record { below = (let l = length_push h x in omega arith); cause = ap is_some there ∙ given (sym c.is) };
      named = subst IsNamedIfAny (sym there) n;
      is = ap (option_map stop_of) there;
    })
stop_aborted h t cause (st.Own z) why n given c = subst (IsStop (h ++ e.Abort t cause ∷ []) (st.Own z)) (or_some (Some z) why (option_map stop_of cause) c.is refl) (stop_kept h (e.Abort t cause) (st.Own z) why c)
stop_aborted h t cause (st.At place) why n given c =
    let k = c.abort in subst (IsStop (h ++ e.Abort t cause ∷ []) (st.At place)) (or_some (cause_of (slice_index_or h place e.Halt)) why (option_map stop_of cause) c.is k.cause) (stop_kept h (e.Abort t cause) (st.At place) why c)

-- ---- the whole

-- one event more, which took a place that was free for it
pub flow_added : (graph : List Node) (p p' : Parts) (log log' : Log) (ins : List (Option (List Plain))) (x : Event) (stop' : Stopped) → IsFlow graph p log → IsAdded (record log { inputs = ins }) x stop' log'
    → IsParts graph (next_state graph log x) p' → IsStop (log.history.items ++ x ∷ []) stop' (next_state graph log x).stop
    → kept_places (next_state graph log x) + 1 ≤ kept_places (state_in graph log) + 2 * log.room
    → ((t : ℕ) → inputs_at ins t ≡ or_else (inputs_in (seen graph log) t) (inputs_by (plain_graph graph) (state_in graph log) t (event_of (plain_graph graph) x)))
    → ((next_state graph log x).stop ≡ None → suc (length ins) ≡ (next_state graph log x).next) → IsFlow graph p' log'
flow_added graph p p' log log' ins x stop' h a parts stop kept inputs numbered =
    let z = seen graph log in
    let is : state_in graph log' ≡ next_state graph log x = ap state_of (seen_added graph (record log { inputs = ins }) log' x stop' a) ∙ state_grown z x in
    record {
      parts = subst (λ (s : State). IsParts graph s p') (sym is) parts;
      stop = subst (λ (s : State). IsStop log'.history.items log'.stop s.stop) (sym is)
          (subst (λ hs. IsStop hs log'.stop (next_state graph log x).stop) (sym a.history) (subst (λ st. IsStop (log.history.items ++ x ∷ []) st (next_state graph log x).stop) (sym a.stop_is) stop));
      places = (let b = h.places in let l = length_push log.history.items x in let lh = ap length a.history in let k = ap kept_places is in let r = a.room in let c = a.capacity in omega arith);
      inputs = λ t. ap (λ i. inputs_at i t) a.inputs ∙ inputs t ∙ sym (inputs_grown z x t) ∙ sym (ap (λ v. inputs_in v t) (seen_added graph (record log { inputs = ins }) log' x stop' a));
      numbered = λ run. ap (λ (i : List (Option (List Plain))). suc (length i)) a.inputs ∙ numbered (sym (ap (λ (s : State). s.stop) is) ∙ run) ∙ sym (ap (λ (s : State). s.next) is);
    }

-- the event is no Take
abbrev pub IsNoTake : List Node → State → Event → Type 0
IsNoTake graph s x = (t : ℕ) → inputs_by (plain_graph graph) s t (event_of (plain_graph graph) x) ≡ None

module _ (graph : List Node) (p p' : Parts) (log log' : Log) (x : Event) (h : IsFlow graph p log) (quiet : IsNoTake graph (state_in graph log) x) (next : (next_state graph log x).next ≡ (state_in graph log).next) where
  same_inputs : (t : ℕ) → inputs_at log.inputs t ≡ or_else (inputs_in (seen graph log) t) (inputs_by (plain_graph graph) (state_in graph log) t (event_of (plain_graph graph) x))
  same_inputs t = h.inputs t ∙ sym (or_none (inputs_in (seen graph log) t)) ∙ sym (ap (or_else (inputs_in (seen graph log) t)) (quiet t))

  -- it was running if it runs
  ran : (why w : Option PlainStop) → or_stop why w ≡ None → why ≡ None
  ran None w e = refl
  ran (Some y) w e = absurd cc

  pub flow_stopped : (stop' : Stopped) (w : Option PlainStop) → IsAdded log x stop' log' → IsParts graph (next_state graph log x) p' → (next_state graph log x).stop ≡ or_stop (state_in graph log).stop w
      → IsStop (log.history.items ++ x ∷ []) stop' (next_state graph log x).stop → kept_places (next_state graph log x) + 1 ≤ kept_places (state_in graph log) + 2 * log.room → IsFlow graph p' log'
  flow_stopped stop' w a parts is stop kept =
      flow_added graph p p' log log' log.inputs x stop' h a parts stop kept same_inputs (λ run. h.numbered (ran (state_in graph log).stop w (sym is ∙ run)) ∙ sym next)

  pub flow_led : (stop : Option Stop) → IsAdded log x (stopped_by log.stop stop) log' → Leads graph (state_in graph log) (next_state graph log x) stop p'
      → kept_places (next_state graph log x) + 1 ≤ kept_places (state_in graph log) + 2 * log.room → IsFlow graph p' log'
  flow_led stop a l kept =
      flow_stopped (stopped_by log.stop stop) (option_map stop_of stop) a l.parts l.stop_is
      (subst (IsStop (log.history.items ++ x ∷ []) (stopped_by log.stop stop)) (sym l.stop_is) (stop_added log.history.items x log.stop (state_in graph log).stop stop l.named h.stop)) kept

-- ---- places

less_one : (why w : Option PlainStop) → cond (is_none (or_stop why w)) 1 0 ≤ cond (is_none why) 1 0
less_one None None = omega arith
less_one None (Some y) = omega arith
less_one (Some x) w = omega arith

-- an event that had room
pub places_of_room : (s u : State) (w : Option PlainStop) (room : ℕ) → u.stop ≡ or_stop s.stop w → length u.tickets ≤ suc (length s.tickets) → 0 < room → kept_places u + 1 ≤ kept_places s + 2 * room
places_of_room s u w room e l r = let a = less_one s.stop w in let b : ◌≡◌ {A = ℕ} (cond (is_none u.stop) 1 0) (cond (is_none (or_stop s.stop w)) 1 0) = ap (λ o. cond {A = ℕ} (is_none o) 1 0) e in omega (arith, a, b)

-- a ticket left
pub places_of_ticket : (s u : State) (w : Option PlainStop) (room : ℕ) → u.stop ≡ or_stop s.stop w → suc (length u.tickets) ≤ length s.tickets → kept_places u + 1 ≤ kept_places s + 2 * room
places_of_ticket s u w room e l = let a = less_one s.stop w in let b : ◌≡◌ {A = ℕ} (cond (is_none u.stop) 1 0) (cond (is_none (or_stop s.stop w)) 1 0) = ap (λ o. cond {A = ℕ} (is_none o) 1 0) e in omega (arith, a, b)

-- ---- there is a place

pub room_place : (graph : List Node) (p : Parts) (log : Log) → IsFlow graph p log → 0 < log.room → HasPlace log
room_place graph p log h r = let a = h.places in omega arith

pub running_place : (graph : List Node) (p : Parts) (log : Log) → IsFlow graph p log → is_none (state_in graph log).stop ≡ true → HasPlace log
running_place graph p log h r = let a = h.places in let b : ◌≡◌ {A = ℕ} (cond (is_none (state_in graph log).stop) 1 0) 1 = ap (λ t. cond {A = ℕ} t 1 0) r in omega (arith, a, b)

pub ticket_place : (graph : List Node) (p : Parts) (log : Log) → IsFlow graph p log → 0 < length (state_in graph log).tickets → HasPlace log
ticket_place graph p log h r = let a = h.places in omega arith
