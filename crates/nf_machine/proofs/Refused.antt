-- A task whose attempt has no job fails its run.
use Rattle.std.proofs.Common.{◌≡◌, ℕ, ◌+◌, List, [], ◌∷◌, ◌++◌, length, Bool, true, false, ◌&&◌, refl, ap, sym, ◌∙◌, subst, arith, ◌⊎◌, inl, inr}
use Rattle.std.specs.Prelude.{◌==◌, nat_lt, Option, Some, None, is_none, is_some, is_ok, Result, Ok, Err, MatchOption}
use Rattle.std.proofs.lemmas.Bool.{cases_Bool, true≢false}
use Rattle.std.proofs.lemmas.Bool.Decides.{nat_tests}
use Rattle.nf_value.specs.Plain.{Plain}
use Rattle.nf_value.specs.declared.fault.EvalFault.{EvalFault}
use Rattle.nf_job.specs.declared.report.Report.{Report}
use Rattle.nf_job.specs.declared.fault.TaskFault.{TaskFault}
use Rattle.nf_job.specs.declared.emitted.Outputs.TheVariants.{Emits, Ignored, Failed, Again}
use Rattle.nf_opstream.specs.Push.{Push}
use Rattle.nf_opstream.proofs.Tally.{sub_map}
use Rattle.nf_opstream.proofs.Members.{In, contains}
use Rattle.nf_graph.specs.Rules.{Rules, Outs}
use Rattle.nf_graph.specs.Node.{Kind, source, operator, process, PlainNode, node_at, IsGraph}
use Rattle.nf_graph.specs.Meaning.{Outcomes, cost, bags}
use Rattle.nf_graph.specs.Faults.{faults}
use Rattle.nf_graph.specs.Singles.{FailsAlone}
use Rattle.nf_graph.specs.Attempts.{LeadTo}
use Rattle.nf_graph.proofs.Fix.{made_by_nodes}
use Rattle.nf_graph.proofs.Singles.{has_singles}
use Rattle.nf_graph.proofs.Refused.{fails_later}
use Rattle.nf_machine.specs.Event.{PlainStop, fault_stop, PlainEvent, pass, taking, give, start, finish, reuse, close, abort, halt}
use Rattle.nf_machine.specs.State.{Ticket, State, attempt_of, instance}
use Rattle.nf_machine.specs.Step.{limit, ticket_at, without, with_ticket, or_stop, do_pass, next_item, Given, op_gives, op_ends, push_with, give_push, do_give, do_finish, do_close, at_ticket, step, replay}
use Rattle.nf_machine.specs.Legal.{IsOperatorKind, IsProcessKind, GiveIsLegal, HasJob, StartIsLegal, FinishIsLegal, ReuseIsLegal, AbortIsLegal, IsLegal}
use Rattle.nf_machine.specs.History.{IsLawful, after, IsHistory, all_closed, ended_well, Agrees}
use Rattle.nf_machine.specs.Refused.{LacksJob, own_fault, Spares, FailsItsRun}
use Rattle.nf_machine.proofs.Good.{TicketOk, Good}
use Rattle.nf_machine.proofs.Tickets.{found_each}
use Rattle.nf_machine.proofs.Gives.{open_ticket, in_taken}
use Rattle.nf_machine.proofs.Ends.{step_good, replay_good, history_good}
use Rattle.nf_machine.proofs.Theorem.{process_within, taken_fault_is}
use Rattle.nf_machine.proofs.Faultless.{closed_at}

-- ### Tickets

found_in : (t : ℕ) (ts : List Ticket) (k : Ticket) → ticket_at t ts ≡ Some k → In k ts
found_in t [] k h = absurd cc
found_in t (u ∷ us) k h = elim (cases_Bool (u.number == t)) [
  | inl e ↦ (let a : Some u ≡ Some k = (rw e at h) in let b : k ≡ u = cc in inl b)
  | inr e ↦ (let a : ticket_at t us ≡ Some k = (rw e at h) in inr (found_in t us k a))
]

-- a ticket stays where another one leaves, or comes
beside_less : (t u : ℕ) → (u ≡ t → ⊥) → (ts : List Ticket) (k : Ticket) → ticket_at t ts ≡ Some k → ticket_at t (without u ts) ≡ Some k
beside_less t u n [] k h = h
beside_less t u n (x ∷ xs) k h = elim (cases_Bool (x.number == u)) [
  | inl e ↦ (let d : (x.number == t) ≡ false = grind (arith, nat_tests) in let a : ticket_at t xs ≡ Some k = (rw d at h) in rw e a)
  | inr e ↦ elim (cases_Bool (x.number == t)) [
    | inl d ↦ (let a : Some x ≡ Some k = (rw d at h) in rw (e, d) a)
    | inr d ↦ (let a : ticket_at t xs ≡ Some k = (rw d at h) in rw (e, d) (beside_less t u n xs k a))
  ]
]

beside_more : (t : ℕ) (ts : List Ticket) (v k : Ticket) → ticket_at t ts ≡ Some k → ticket_at t (with_ticket v ts) ≡ Some k
beside_more t [] v k h = absurd cc
beside_more t (x ∷ xs) v k h = elim (cases_Bool (x.number == t)) [
  | inl d ↦ (let a : Some x ≡ Some k = (rw d at h) in rw d a)
  | inr d ↦ (let a : ticket_at t xs ≡ Some k = (rw d at h) in rw d (beside_more t xs v k a))
]

-- ### A stop stays

or_some : (a b : Option PlainStop) → is_some a ≡ true → is_some (or_stop a b) ≡ true
or_some None b h = absurd (true≢false (sym h))
or_some (Some x) b h = refl

running : (s : State) → s.stop ≡ None → is_some s.stop ≡ true → ⊥
running s e h = true≢false (sym h ∙ ap is_some e)

found_running : (s : State) (P : Ticket → Type 0) → ((k : Ticket) → P k → s.stop ≡ None) → (o : Option Ticket) → MatchOption o ⊥ P → s.stop ≡ None
found_running s P f None h = absurd h
found_running s P f (Some k) h = f k h

finish_stopped : (s : State) (t : ℕ) (r : Report) (outs : Outs) (o : Option Ticket) → is_some s.stop ≡ true → is_some (at_ticket s t o (λ s' k. do_finish s' k r outs)).stop ≡ true
finish_stopped s t r outs None h = h
finish_stopped s t r (Ok (Emits vs)) (Some k) h = h
finish_stopped s t r (Ok Ignored) (Some k) h = h
finish_stopped s t r (Ok (Failed f)) (Some k) h = or_some s.stop _ h
finish_stopped s t r (Ok Again) (Some k) h = h
finish_stopped s t r (Err f) (Some k) h = or_some s.stop _ h

abort_stopped : (s : State) (t : ℕ) (cause : Option PlainStop) (o : Option Ticket) → is_some s.stop ≡ true → is_some (at_ticket s t o (λ s' k. record s' { gone = k ∷ s'.gone; stop = or_stop s'.stop cause })).stop ≡ true
abort_stopped s t cause None h = h
abort_stopped s t cause (Some k) h = or_some s.stop cause h

step_stopped : (g : List PlainNode) (R : Rules) (s : State) (e : PlainEvent) → IsLegal g R s e → is_some s.stop ≡ true → is_some (step g s e).stop ≡ true
step_stopped g R s (pass i k) l h = absurd (running s l.running h)
step_stopped g R s (taking i port place t n) l h = h
step_stopped g R s (give t a) l h = absurd (running s (found_running s (λ k. GiveIsLegal g R s k a) (λ k m. m.running) (ticket_at t s.tickets) l) h)
step_stopped g R s (start t cause) l h = absurd (running s (found_running s (StartIsLegal g R s) (λ k m. m.running) (ticket_at t s.tickets) l) h)
step_stopped g R s (finish t r outs) l h = finish_stopped s t r outs (ticket_at t s.tickets) h
step_stopped g R s (reuse t r outs) l h = finish_stopped s t r outs (ticket_at t s.tickets) h
step_stopped g R s (close i) l h = absurd (running s l.running h)
step_stopped g R s (abort t cause) l h = abort_stopped s t cause (ticket_at t s.tickets) h
step_stopped g R s halt l h = refl

-- ### Tickets in flight after an event

pass_tickets : (s : State) (i k : ℕ) (x : Plain) → (do_pass s i k x).tickets ≡ s.tickets
pass_tickets s i k x = elim (cases_Bool (nat_lt limit (s.charge + cost x))) [ inl over ↦ rw over refl | inr below ↦ rw below refl ]

close_tickets : (s : State) (i : ℕ) (r : Given) → (do_close s i r).tickets ≡ s.tickets
close_tickets s i (Ok es) = refl
close_tickets s i (Err f) = refl

push_tickets : (s : State) (i : ℕ) (x : Push) (r : Given) → (give_push s i x r).tickets ≡ s.tickets
push_tickets s i x (Ok es) = refl
push_tickets s i x (Err f) = refl

give_tickets : (g : List PlainNode) (s : State) (k : Ticket) (a : Result Plain EvalFault) → (do_give g s k a).tickets ≡ s.tickets
give_tickets g s k (Ok a) = push_tickets s k.node (push_with k.take a) (op_gives (node_at g k.node).kind (s.spots k.node).pushed (push_with k.take a))
give_tickets g s k (Err f) = refl

-- ### The ticket

both_kinds : (kind : Kind) → IsProcessKind kind → IsOperatorKind kind → ⊥
both_kinds (source items) p o = p
both_kinds (operator op) p o = p
both_kinds (process q) p o = o

module _ (g : List PlainNode) (R : Rules) (ok : IsGraph g) (k : Ticket) (f : TaskFault) where
  no_job : (s : State) → LacksJob g R s k f → HasJob R k → ⊥
  no_job s l j = true≢false (sym j ∙ ap is_ok l.refused)

  never_started : (s : State) → Good g R s → LacksJob g R s k f → k.started ≡ true → ⊥
  never_started s good l h = no_job s l ((found_each (TicketOk g R s.spots) k.number s.tickets k l.flying good.tickets).job h)

  -- what is legal of a ticket of this number is legal of this ticket
  it_is : (s : State) (t : ℕ) (P : Ticket → Type 0) → LacksJob g R s k f → t ≡ k.number → MatchOption (ticket_at t s.tickets) ⊥ P → P k
  it_is s t P l e m =
      let found : ticket_at t s.tickets ≡ Some k = ap (λ n. ticket_at n s.tickets) e ∙ l.flying in
      let M : Option Ticket → Type 0 = λ o. MatchOption o ⊥ P in
      subst M found m

  spares : (s : State) → Good g R s → LacksJob g R s k f → (e : PlainEvent) → IsLegal g R s e → Spares k.number e
  spares s good l (pass i j) m = tt
  spares s good l (taking i port place t n) m = tt
  spares s good l (give t a) m = λ e. both_kinds (node_at g k.node).kind l.kind (it_is s t (λ j. GiveIsLegal g R s j a) l e m).kind
  spares s good l (start t cause) m = λ e. no_job s l (it_is s t (StartIsLegal g R s) l e m).job
  spares s good l (finish t r outs) m = λ e. never_started s good l (it_is s t (λ j. FinishIsLegal g R j r outs) l e m).started
  spares s good l (reuse t r outs) m = λ e. no_job s l (it_is s t (λ j. ReuseIsLegal g R s j r outs) l e m).start.job
  spares s good l (close i) m = tt
  spares s good l (abort t cause) m = tt
  spares s good l halt m = tt

  -- it is in flight, or the run is stopped
  abbrev Held : State → Type 0
  Held s = LacksJob g R s k f ⊎ (is_some s.stop ≡ true)

  still : (s u : State) → LacksJob g R s k f → ticket_at k.number u.tickets ≡ Some k → Held u
  still s u l e = inl (record { flying = e; kind = l.kind; refused = l.refused })

  same : (s u : State) → LacksJob g R s k f → u.tickets ≡ s.tickets → Held u
  same s u l e = still s u l (ap (ticket_at k.number) e ∙ l.flying)

  give_held : (s : State) (t : ℕ) (a : Result Plain EvalFault) (o : Option Ticket) → LacksJob g R s k f → (t ≡ k.number → ⊥) → Held (at_ticket s t o (λ s' j. do_give g s' j a))
  give_held s t a None l n = inl l
  give_held s t a (Some j) l n =
      let less : State = record s { tickets = without t s.tickets } in
      still s (do_give g less j a) l (ap (ticket_at k.number) (give_tickets g less j a) ∙ beside_less k.number t n s.tickets k l.flying)

  start_held : (s : State) (t : ℕ) (o : Option Ticket) → LacksJob g R s k f → (t ≡ k.number → ⊥) → Held (at_ticket s t o (λ s' j. record s' { tickets = with_ticket (record j { started = true }) s'.tickets }))
  start_held s t None l n = inl l
  start_held s t (Some j) l n =
      still s (record s { tickets = with_ticket (record j { started = true }) (without t s.tickets) }) l (beside_more k.number (without t s.tickets) (record j { started = true }) k (beside_less k.number t n s.tickets k l.flying))

  report_held : (s : State) (t : ℕ) (r : Report) (outs : Outs) (o : Option Ticket) → LacksJob g R s k f → (t ≡ k.number → ⊥) → Held (at_ticket s t o (λ s' j. do_finish s' j r outs))
  report_held s t r outs None l n = inl l
  report_held s t r outs (Some j) l n = by outs
    where
      less : State
      less = record s { tickets = without t s.tickets }

      flies : ticket_at k.number (without t s.tickets) ≡ Some k
      flies = beside_less k.number t n s.tickets k l.flying

      by : (outs : Outs) → Held (do_finish less j r outs)
      by (Ok (Emits vs)) = still s (do_finish less j r (Ok (Emits vs))) l flies
      by (Ok Ignored) = still s (do_finish less j r (Ok Ignored)) l flies
      by (Ok (Failed x)) = still s (do_finish less j r (Ok (Failed x))) l flies
      by (Ok Again) = still s (do_finish less j r (Ok Again)) l (beside_more k.number (without t s.tickets) (record j { told = j.told ++ r ∷ []; started = false }) k flies)
      by (Err x) = still s (do_finish less j r (Err x)) l flies

  abort_held : (s : State) (t : ℕ) (cause : Option PlainStop) (o : Option Ticket) → LacksJob g R s k f → MatchOption o ⊥ (λ j. AbortIsLegal g R s j cause) → Held (at_ticket s t o (λ s' j. record s' { gone = j ∷ s'.gone; stop = or_stop s'.stop cause }))
  abort_held s t cause None l m = absurd m
  abort_held s t None (Some j) l m = inr (or_some s.stop None m)
  abort_held s t (Some x) (Some j) l m = inr (stops s.stop)
    where
      stops : (o : Option PlainStop) → is_some (or_stop o (Some x)) ≡ true
      stops None = refl
      stops (Some y) = refl

  step_held : (s : State) (e : PlainEvent) → Good g R s → IsLegal g R s e → LacksJob g R s k f → Held (step g s e)
  step_held s (pass i j) good m l = same s (step g s (pass i j)) l (pass_tickets s i j (next_item g s i j))
  step_held s (taking i port place t n) good m l = still s (step g s (taking i port place t n)) l (beside_more k.number s.tickets _ k l.flying)
  step_held s (give t a) good m l = give_held s t a (ticket_at t s.tickets) l (spares s good l (give t a) m)
  step_held s (start t cause) good m l = start_held s t (ticket_at t s.tickets) l (spares s good l (start t cause) m)
  step_held s (finish t r outs) good m l = report_held s t r outs (ticket_at t s.tickets) l (spares s good l (finish t r outs) m)
  step_held s (reuse t r outs) good m l = report_held s t r outs (ticket_at t s.tickets) l (spares s good l (reuse t r outs) m)
  step_held s (close i) good m l = same s (step g s (close i)) l (close_tickets s i (op_ends (node_at g i).kind (s.spots i).pushed))
  step_held s (abort t cause) good m l = abort_held s t cause (ticket_at t s.tickets) l m
  step_held s halt good m l = inr refl

  replay_held : (s : State) (es : List PlainEvent) → Good g R s → IsLawful g R s es → Held s → Held (replay g s es)
  replay_held s [] good m h = h
  replay_held s (e ∷ es) good m h =
      let next : Held (step g s e) = elim h [ inl l ↦ step_held s e good m.0 l | inr st ↦ inr (step_stopped g R s e m.0 st) ] in
      replay_held (step g s e) es (step_good g R ok s e good m.0) m.1 next

  not_well : (s : State) → Good g R s → Held s → ended_well g s ≡ true → ⊥
  not_well s good h e = elim h [
    | inl l ↦ (
        let isopen = open_ticket g R s k.number k good l.flying in
        let shut = closed_at s.spots (length g) k.node (both (all_closed g s) (is_none s.stop) e).0 (process_within g k.node l.kind) in
        true≢false (sym shut ∙ isopen))
    | inr st ↦ running s (none_is s.stop (both (all_closed g s) (is_none s.stop) e).1) st
  ]
    where
      both : (a b : Bool) → (a && b) ≡ true → (a ≡ true) × (b ≡ true)
      both true b h = (refl, h)
      both false b h = absurd (true≢false (sym h))

      none_is : (o : Option PlainStop) → is_none o ≡ true → o ≡ None
      none_is None h = refl
      none_is (Some x) h = absurd (true≢false (sym h))

  module _ (s : State) (good : Good g R s) (l : LacksJob g R s k f) where
    legal : IsLegal g R s (abort k.number (Some (fault_stop (own_fault k f))))
    legal =
        let M : Option Ticket → Type 0 = λ o. MatchOption o ⊥ (λ j. AbortIsLegal g R s j (Some (fault_stop (own_fault k f)))) in
        subst M (sym l.flying) (l.kind, refl, refl, refl, l.refused)

    stops : s.stop ≡ None → (step g s (abort k.number (Some (fault_stop (own_fault k f))))).stop ≡ Some (fault_stop (own_fault k f))
    stops run = rw (l.flying, run) refl

    alone : (o : Outcomes) → Agrees o s → FailsAlone R o k.node (instance k.take) f
    alone o agree =
        let pre = agree.flying k (contains k s.tickets (found_in k.number s.tickets k l.flying)) in
        let lead : LeadTo R o k.node (instance k.take) (attempt_of k) pre.rest = record { before = k.told; reports = pre.is; number = refl; again = (found_each (TicketOk g R s.spots) k.number s.tickets k l.flying good.tickets).again } in
        fails_later R o k.node (instance k.take) (attempt_of k) pre.rest f lead l.refused

    fails : FailsItsRun g R s k f
    fails = record {
      spared = spares s good l;
      legal = legal;
      stops = stops;
      alone = alone;
      fault = λ o agree. contains (own_fault k f) (faults R o g) (taken_fault_is g R ok o s good agree (bags R o g) (made_by_nodes g R o ok) (has_singles g R o ok) k.node k.take.inputs k.take.n f l.kind
          (sub_map instance (in_taken g R s k.number k good l.flying)) (alone o agree).once);
      never_well = λ h m. (let u = replay g s h in elim (cases_Bool (ended_well g u)) [ inl e ↦ absurd (not_well u (replay_good g R ok s h good m) (replay_held s h good m (inl l)) e) | inr unwell ↦ unwell ]);
    }

pub fails_its_run : (g : List PlainNode) (R : Rules) (h : List PlainEvent) (k : Ticket) (f : TaskFault) → IsGraph g → IsHistory g R h → LacksJob g R (after g h) k f → FailsItsRun g R (after g h) k f
fails_its_run g R h k f ok lawful l = fails g R ok k f (after g h) (history_good g R ok h lawful) l
