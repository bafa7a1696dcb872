-- A run that an object outside stopped has an event that says so.
use Rattle.std.proofs.Common.{◌≡◌, ℕ, ◌+◌, List, [], ◌∷◌, map, true, false, Bool, cond, refl, ap, sym, subst, ◌∙◌, inl, inr}
use Rattle.std.specs.Prelude.{◌⊎◌, nat_lt, Option, Some, None, option_map, Result, Ok, Err}
use Rattle.std.specs.List.{Contains}
use Rattle.std.proofs.lemmas.List.Elements.{Contains-append_left, Contains-append_right, Contains-push}
use Rattle.nf_value.specs.Plain.{Plain}
use Rattle.nf_value.specs.declared.fault.EvalFault.{EvalFault}
use Rattle.nf_job.specs.declared.report.Report.{Report}
use Rattle.nf_job.specs.declared.emitted.Outputs.TheVariants.{Emits, Ignored, Failed, Again}
use Rattle.nf_opstream.specs.Push.{Push}
use Rattle.nf_opstream.specs.Fault as operators
use Rattle.nf_graph.specs.Rules.{Outs}
use Rattle.nf_graph.specs.Node.{PlainNode, node_at}
use Rattle.nf_graph.specs.Meaning.{cost}
use Rattle.nf_graph.specs.Faults.{GraphFault, item_fails, op_fails, task_fails}
use Rattle.nf_machine.specs.declared.event.Event.{Event}
use Rattle.nf_machine.specs.declared.event.Event.TheVariants as e
use Rattle.nf_machine.specs.declared.stop.Stop.{Stop}
use Rattle.nf_machine.specs.declared.stop.Stop.TheVariants as s
use Rattle.nf_machine.specs.declared.stop.Outside.{Outside}
use Rattle.nf_machine.specs.Event.{PlainStop, fault_stop, charge_stop, outside_stop, memory_stop, abort, stop_of, op_stop, event_of}
use Rattle.nf_machine.specs.State.{Ticket, State, opening}
use Rattle.nf_machine.specs.Step.{limit, ticket_at, without, or_stop, do_pass, Given, op_gives, op_ends, push_with, give_push, do_give, do_finish, do_close, at_ticket, step, replay}

-- the state was stopped so before, or by this
abbrev Stops : Option PlainStop → Option PlainStop → Outside → Type 0
Stops before cause o = (before ≡ Some (outside_stop o)) ⊎ (cause ≡ Some (outside_stop o))

module _ (o : Outside) where
  by_fault : (before : Option PlainStop) (f : GraphFault) → or_stop before (Some (fault_stop f)) ≡ Some (outside_stop o) → before ≡ Some (outside_stop o)
  by_fault None f h = absurd (let d : Some (fault_stop f) ≡ Some (outside_stop o) = h in cc)
  by_fault (Some x) f h = h

  by_cause : (before cause : Option PlainStop) → or_stop before cause ≡ Some (outside_stop o) → Stops before cause o
  by_cause None cause h = inr h
  by_cause (Some x) cause h = inl h

  by_choice : (b : Bool) (u v : State) → (cond b u v).stop ≡ Some (outside_stop o) → (u.stop ≡ Some (outside_stop o)) ⊎ (v.stop ≡ Some (outside_stop o))
  by_choice true u v h = inl h
  by_choice false u v h = inr h

  -- a Pass stops a run by its charge alone
  passed_from : (st : State) (i k : ℕ) (x : Plain) → (do_pass st i k x).stop ≡ Some (outside_stop o) → st.stop ≡ Some (outside_stop o)
  passed_from st i k x h = elim (by_choice (nat_lt limit (st.charge + cost x)) _ _ h) [
    | inl over ↦ absurd (let d : Some (charge_stop (st.charge + cost x)) ≡ Some (outside_stop o) = over in cc)
    | inr below ↦ below
  ]

  pushed_from : (st : State) (i : ℕ) (x : Push) (r : Given) → (give_push st i x r).stop ≡ Some (outside_stop o) → st.stop ≡ Some (outside_stop o)
  pushed_from st i x (Ok es) h = h
  pushed_from st i x (Err f) h = by_fault st.stop (op_fails i f) h

  given_from : (g : List PlainNode) (st : State) (t : ℕ) (a : Result Plain EvalFault) (k : Option Ticket) → (at_ticket st t k (λ u v. do_give g u v a)).stop ≡ Some (outside_stop o) → st.stop ≡ Some (outside_stop o)
  given_from g st t a None h = h
  given_from g st t (Ok a) (Some k) h = pushed_from (record st { tickets = without t st.tickets }) k.node (push_with k.take a) (op_gives (node_at g k.node).kind (st.spots k.node).pushed (push_with k.take a)) h
  given_from g st t (Err f) (Some k) h = by_fault st.stop (item_fails k.node k.take.item f) h

  finished_from : (st : State) (t : ℕ) (r : Report) (outs : Outs) (k : Option Ticket) → (at_ticket st t k (λ u v. do_finish u v r outs)).stop ≡ Some (outside_stop o) → st.stop ≡ Some (outside_stop o)
  finished_from st t r outs None h = h
  finished_from st t r (Ok (Emits vs)) (Some k) h = h
  finished_from st t r (Ok Ignored) (Some k) h = h
  finished_from st t r (Ok Again) (Some k) h = h
  finished_from st t r (Ok (Failed f)) (Some k) h = by_fault st.stop (task_fails k.node k.take.inputs k.take.n f) h
  finished_from st t r (Err f) (Some k) h = by_fault st.stop (task_fails k.node k.take.inputs k.take.n f) h

  closed_from : (st : State) (i : ℕ) (r : Given) → (do_close st i r).stop ≡ Some (outside_stop o) → st.stop ≡ Some (outside_stop o)
  closed_from st i (Ok es) h = h
  closed_from st i (Err f) h = by_fault st.stop (op_fails i f) h

  started_from : (st : State) (t : ℕ) (k : Option Ticket) (f : State → Ticket → State) → ((u : State) (v : Ticket) → (f u v).stop ≡ u.stop) → (at_ticket st t k f).stop ≡ Some (outside_stop o) → st.stop ≡ Some (outside_stop o)
  started_from st t None f keeps h = h
  started_from st t (Some k) f keeps h = sym (keeps (record st { tickets = without t st.tickets }) k) ∙ h

  aborted_from : (st : State) (t : ℕ) (cause : Option PlainStop) (k : Option Ticket) → (at_ticket st t k (λ u v. record u { gone = v ∷ u.gone; stop = or_stop u.stop cause })).stop ≡ Some (outside_stop o) → Stops st.stop cause o
  aborted_from st t cause None h = inl h
  aborted_from st t cause (Some k) h = by_cause st.stop cause h

  -- a stop that is an object's failure is of that object
  cause_is : (cause : Option Stop) → option_map stop_of cause ≡ Some (outside_stop o) → cause ≡ Some (s.Outside o)
  cause_is None h = absurd (let d : None ≡ Some (outside_stop o) = h in cc)
  cause_is (Some (s.Charge sum)) h = absurd (let d : Some (charge_stop sum) ≡ Some (outside_stop o) = h in cc)
  cause_is (Some (s.Op node fault)) h = absurd (by_op (operators.fault_of fault) h) where
    by_op : (f : Option operators.Fault) → Some (op_stop node f) ≡ Some (outside_stop o) → ⊥
    by_op None k = cc
    by_op (Some f) k = cc
  cause_is (Some (s.Item node item fault)) h = absurd (let d : Some (stop_of (s.Item node item fault)) ≡ Some (outside_stop o) = h in cc)
  cause_is (Some (s.Task node inputs n fault)) h = absurd (let d : Some (stop_of (s.Task node inputs n fault)) ≡ Some (outside_stop o) = h in cc)
  cause_is (Some (s.Outside u)) h = let same : u ≡ o = cc in ap (λ v. Some (s.Outside v)) same
  cause_is (Some s.Mem) h = absurd (let d : Some memory_stop ≡ Some (outside_stop o) = h in cc)

  -- an event that gives up a ticket for this failure
  pub record Gives (x : Event) : Type 0 where
    pub ticket : ℕ
    pub is : x ≡ e.Abort ticket (Some (s.Outside o))

  stepped_from : (g : List PlainNode) (st : State) (x : Event) → (step g st (event_of g x)).stop ≡ Some (outside_stop o) → (st.stop ≡ Some (outside_stop o)) ⊎ Gives x
  stepped_from g st (e.Pass port) h = inl (passed_from st _ _ _ h)
  stepped_from g st (e.Take node port place ticket n) h = inl h
  stepped_from g st (e.Give ticket answer) h = inl (given_from g st ticket _ (ticket_at ticket st.tickets) h)
  stepped_from g st (e.Start ticket cause) h = inl (started_from st ticket (ticket_at ticket st.tickets) _ (λ u v. refl) h)
  stepped_from g st (e.Reuse ticket report outs) h = inl (finished_from st ticket report outs (ticket_at ticket st.tickets) h)
  stepped_from g st (e.Finish ticket report outs) h = inl (finished_from st ticket report outs (ticket_at ticket st.tickets) h)
  stepped_from g st (e.Close node) h = inl (closed_from st node (op_ends (node_at g node).kind (st.spots node).pushed) h)
  stepped_from g st (e.Abort ticket cause) h = elim (aborted_from st ticket (option_map stop_of cause) (ticket_at ticket st.tickets) h) [
    | inl before ↦ inl before
    | inr by ↦ inr (record { ticket = ticket; is = ap (e.Abort ticket) (cause_is cause by) })
  ]
  stepped_from g st e.Halt h = absurd (let d : Some memory_stop ≡ Some (outside_stop o) = h in cc)

  -- a history has such an event, as the code and as the machine has it
  pub record HasStop (g : List PlainNode) (h : List Event) : Type 0 where
    pub ticket : ℕ
    pub there : Contains h (e.Abort ticket (Some (s.Outside o)))
    pub seen : Contains (map (event_of g) h) (abort ticket (Some (outside_stop o)))

  first_is : (g : List PlainNode) (x : Event) (xs : List Event) → Gives x → HasStop g (x ∷ xs)
  first_is g x xs k =
      let same : event_of g x ≡ abort k.ticket (Some (outside_stop o)) = ap (event_of g) k.is in
      record {
        ticket = k.ticket;
        there = subst (λ y. Contains (x ∷ xs) y) k.is (Contains-append_left (x ∷ []) xs x (Contains-push [] x));
        seen = subst (λ y. Contains (map (event_of g) (x ∷ xs)) y) same (Contains-append_left (event_of g x ∷ []) (map (event_of g) xs) (event_of g x) (Contains-push [] (event_of g x)));
      }

  later_is : (g : List PlainNode) (x : Event) (xs : List Event) → HasStop g xs → HasStop g (x ∷ xs)
  later_is g x xs k = record {
    ticket = k.ticket;
    there = Contains-append_right (x ∷ []) xs _ k.there;
    seen = Contains-append_right (event_of g x ∷ []) (map (event_of g) xs) _ k.seen;
  }

  replayed_from : (g : List PlainNode) (st : State) (h : List Event) → (replay g st (map (event_of g) h)).stop ≡ Some (outside_stop o) → (st.stop ≡ Some (outside_stop o)) ⊎ HasStop g h
  replayed_from g st [] h = inl h
  replayed_from g st (x ∷ xs) h = elim (replayed_from g (step g st (event_of g x)) xs h) [
    | inl here ↦ elim (stepped_from g st x here) [
      | inl before ↦ inl before
      | inr k ↦ inr (first_is g x xs k)
    ]
    | inr later ↦ inr (later_is g x xs later)
  ]

  -- a run from its opening that an object stopped
  pub stopped_by : (g : List PlainNode) (h : List Event) → (replay g (opening g) (map (event_of g) h)).stop ≡ Some (outside_stop o) → HasStop g h
  stopped_by g h stopped = elim (replayed_from g (opening g) h stopped) [
    | inl before ↦ absurd (let d : None ≡ Some (outside_stop o) = before in cc)
    | inr k ↦ k
  ]
