-- That the events which calls enter are legal.
use Rattle.std.proofs.Common.{◌≡◌, ℕ, ◌<◌, ◌≤◌, List, [], ◌∷◌, length, map, Bool, true, false, get_or, refl, ap, sym, ◌∙◌, subst, arith, if◌then◌else◌}
use Rattle.std.specs.Prelude.{Option, Some, None, is_some, Result, Ok, Err, OnOk, OnErr, IfSome}
use Rattle.nf_value.specs.Plain.{Plain}
use Rattle.nf_value.specs.View.{plain_of as plain_of_value}
use Rattle.nf_value.specs.declared.value.Value.{Value}
use Rattle.nf_value.specs.declared.fault.EvalFault.{EvalFault}
use Rattle.nf_job.specs.declared.fault.TaskFault.{TaskFault}
use Rattle.nf_job.specs.declared.report.Report.{Report}
use Rattle.nf_graph.specs.declared.node.Node.{Node}
use Rattle.nf_graph.specs.Node.{node_at, IsGraph}
use Rattle.nf_graph.specs.Rules.{Rules, Outs}
use Rattle.nf_graph.specs.WellMade.{IsWellMade, plain_graph}
use Rattle.nf_machine.specs.declared.event.Event.{Event}
use Rattle.nf_machine.specs.declared.event.Event.TheVariants as e
use Rattle.nf_machine.specs.declared.event.Cause.{Cause}
use Rattle.nf_machine.specs.declared.stop.Stop.TheVariants as s
use Rattle.nf_machine.specs.Event.{answer_of, memory_stop, stop_of}
use Rattle.nf_machine.specs.State as machine
use Rattle.nf_machine.specs.State.{State}
use Rattle.nf_machine.specs.Step.{ticket_at, without, with_ticket, at_ticket}
use Rattle.nf_machine.specs.Legal.{InFlight, IsOperatorKind, IsProcessKind, GiveIsLegal, StartIsLegal, FinishIsLegal, ReuseIsLegal, AbortIsLegal}
use Rattle.nf_flight.specs.declared.ticket.Ticket.{Ticket}
use Rattle.nf_flight.specs.Ticket.{number_of, node_of, inputs_of, n_of, attempt_of}
use Rattle.nf_flight.proofs.Tickets.{at_with, at_without_same, if_number, number_yes, or_ticket}
use Rattle.nf_flow.specs.Seen.{Seen, MayAdd, events_of, grown, lost, plain_of, roomy, state_of}
use Rattle.nf_flow.specs.Questions.{ComesBack, IsFlying, IsStarted, IsTicket}
use Rattle.nf_flow.proofs.Growth.{state_grown}
use Rattle.nf_flow.proofs.Standing.{one_input}
use Rattle.nf_steps.proofs.Distinct.{distinct}
use Rattle.nf_steps.specs.Run.{IsRun, ticket_of}
use Rattle.nf_steps.specs.Steps.{Ends, HasJob, IsAbout, IsAnswered, IsOutcome, IsRefused, IsTask, Starts, up_cause}
use Rattle.nf_steps.proofs.Entering.{Legal, enters, grown_room, may}

in_flight : (u : State) (t : ℕ) (k : machine.Ticket) (P : machine.Ticket → Type 0) → ticket_at t u.tickets ≡ Some k → P k → InFlight u t P
in_flight u t k P there p = rw there p

-- ---- giving up

pub up_legal : (R : Rules) {z : Seen} {t : Ticket} → IsFlying z t → Legal R z (e.Abort (number_of t) (up_cause z))
up_legal R {z} {t} f = by (is_some (state_of z).stop) refl
  where
    by : (b : Bool) → is_some (state_of z).stop ≡ b → Legal R z (e.Abort (number_of t) (if b then None else Some s.Mem))
    by true on = in_flight (state_of z) (number_of t) f.ticket (λ k. AbortIsLegal (plain_of z) R (state_of z) k None) f.there on
    by false on = in_flight (state_of z) (number_of t) f.ticket (λ k. AbortIsLegal (plain_of z) R (state_of z) k (Some memory_stop)) f.there tt

pub lost_legal : (R : Rules) {z : Seen} {t : Ticket} → IsFlying z t → Legal R z (lost (number_of t))
lost_legal R {z} {t} f = in_flight (state_of z) (number_of t) f.ticket (λ k. AbortIsLegal (plain_of z) R (state_of z) k (Some memory_stop)) f.there tt

pub up_may : {R : Rules} {z : Seen} {t : Ticket} → IsRun R z → IsFlying z t → MayAdd z (e.Abort (number_of t) (up_cause z))
up_may {R} {z} {t} run f = may (e.Abort (number_of t) (up_cause z)) run (up_legal R f)

-- an event about the ticket
pub about_up : (z u : Seen) (t : Ticket) → u ≡ grown z (e.Abort (number_of t) (up_cause z)) → IsAbout z (number_of t) u
about_up z u t is = record { event = e.Abort (number_of t) (up_cause z); about = refl; is = is }

-- a call that entered this event about the ticket, or lost the ticket
pub about_or_lost : {A E : Type 0} (r : Result A E) (x : Event) (z m u : Seen) (t : Ticket) → ticket_of x ≡ Some (number_of t) → m ≡ roomy z → OnOk r (u ≡ grown m x)
    → OnErr r (u ≡ grown m (lost (number_of t))) → IsAbout z (number_of t) u
about_or_lost (Ok v) x z m u t about room ok err = record { event = x; about = about; is = grown_room z m u x room ok }
about_or_lost (Err v) x z m u t about room ok err = record { event = lost (number_of t); about = refl; is = grown_room z m u (lost (number_of t)) room err }

-- ---- Give

pub give_legal : {R : Rules} {z : Seen} {t : Ticket} (answer : Result Value EvalFault) → IsGraph (plain_of z) → IsRun R z → IsFlying z t → IsAnswered R z t answer → (state_of z).stop ≡ None
    → Legal R z (e.Give (number_of t) answer)
give_legal {R} {z} {t} answer graph run f a on =
    let k = f.ticket in
    let kind : IsOperatorKind (node_at (plain_of z) k.node).kind = subst (λ n. IsOperatorKind (node_at (plain_of z) n).kind) f.is.node a.kind in
    let sole = one_input z (e.Abort (number_of t) (up_cause z)) (number_of t) k graph (up_may run f) f.there kind in
    let same : a.item ≡ k.take.item = ap (λ xs. get_or xs 0 a.item) (sym a.sole ∙ f.is.inputs ∙ sole) in
    in_flight (state_of z) (number_of t) k (λ u. GiveIsLegal (plain_of z) R (state_of z) u (answer_of answer)) f.there (record {
      running = on;
      kind = kind;
      by_rule = a.by_rule ∙ ap (λ n. R.answer n a.item) f.is.node ∙ ap (R.answer k.node) same;
    })

-- ---- tasks

kind_at : (z : Seen) (t : Ticket) (k : machine.Ticket) → IsTicket t k → IsTask z t → IsProcessKind (node_at (plain_of z) k.node).kind
kind_at z t k i task = subst (λ n. IsProcessKind (node_at (plain_of z) n).kind) i.node task

start_of : {R : Rules} {z : Seen} {t : Ticket} (f : IsFlying z t) → HasJob R z t → (state_of z).stop ≡ None → IsStarted z t false → StartIsLegal (plain_of z) R (state_of z) f.ticket
start_of {R} {z} {t} f j on fresh = record {
  running = on;
  kind = kind_at z t f.ticket f.is j.task;
  fresh = sym (fresh f.ticket f.there);
  job = rw (sym f.is.node, sym f.is.inputs, sym f.is.n, sym f.is.attempt) j.job;
}

pub start_legal : {R : Rules} {z : Seen} {t : Ticket} (cause : Cause) → IsFlying z t → HasJob R z t → (state_of z).stop ≡ None → IsStarted z t false → Legal R z (e.Start (number_of t) cause)
start_legal {R} {z} {t} cause f j on fresh = in_flight (state_of z) (number_of t) f.ticket (StartIsLegal (plain_of z) R (state_of z)) f.there (start_of f j on fresh)

pub reuse_legal : {R : Rules} {z : Seen} {t : Ticket} (r : Report) (outs : Outs) → IsFlying z t → HasJob R z t → IsOutcome R z t r outs → (state_of z).stop ≡ None → IsStarted z t false
    → Legal R z (e.Reuse (number_of t) r outs)
reuse_legal {R} {z} {t} r outs f j o on fresh = in_flight (state_of z) (number_of t) f.ticket (λ k. ReuseIsLegal (plain_of z) R (state_of z) k r outs) f.there (record {
  start = start_of f j on fresh;
  report = record { kind = kind_at z t f.ticket f.is j.task; by_rule = o.by_rule ∙ rw (f.is.node, f.is.inputs, f.is.attempt) refl };
})

pub finish_legal : {R : Rules} {z : Seen} {t : Ticket} (r : Report) (outs : Outs) → IsFlying z t → IsOutcome R z t r outs → IsStarted z t true → Legal R z (e.Finish (number_of t) r outs)
finish_legal {R} {z} {t} r outs f o on = in_flight (state_of z) (number_of t) f.ticket (λ k. FinishIsLegal (plain_of z) R k r outs) f.there (record {
  started = sym (on f.ticket f.there);
  report = record { kind = kind_at z t f.ticket f.is o.task; by_rule = o.by_rule ∙ rw (f.is.node, f.is.inputs, f.is.attempt) refl };
})

pub refuse_legal : {R : Rules} {z : Seen} {t : Ticket} (fault : TaskFault) → IsFlying z t → IsRefused R z t fault → Legal R z (e.Abort (number_of t) (Some (s.Task (node_of t) (inputs_of t) (n_of t) fault)))
refuse_legal {R} {z} {t} fault f j = in_flight (state_of z) (number_of t) f.ticket (λ k. AbortIsLegal (plain_of z) R (state_of z) k (Some (stop_of (s.Task (node_of t) (inputs_of t) (n_of t) fault)))) f.there (
  kind_at z t f.ticket f.is j.task,
  f.is.node,
  f.is.inputs,
  f.is.n,
  ap (λ a. R.job (node_of t) (inputs_of t) (n_of t) a) (sym f.is.attempt) ∙ j.job,
)

-- ---- what came of a task's ticket

-- the ticket is in flight as before, but for its start
pub started_flies : (z u : Seen) (t : Ticket) (cause : Cause) → IsFlying z t → u ≡ grown z (e.Start (number_of t) cause) → IsFlying u t
started_flies z u t cause f is = subst (λ y. IsFlying y t) (sym is) (record {
  ticket = w;
  there = ap (λ (v : State). ticket_at n v.tickets) (state_grown z (e.Start n cause) ∙ ap (λ o. at_ticket s n o (λ v k. record v { tickets = with_ticket (record k { started = true }) v.tickets })) f.there)
      ∙ at_with n (without n s.tickets) w ∙ ap (λ o. or_ticket o (if_number n w)) gone ∙ number_yes n w (sym f.is.number);
  is = record { number = f.is.number; node = f.is.node; port = f.is.port; inputs = f.is.inputs; n = f.is.n; attempt = f.is.attempt };
})
  where
    s : State
    s = state_of z

    n : ℕ
    n = number_of t

    w : machine.Ticket
    w = record f.ticket { started = true }

    gone : ticket_at n (without n s.tickets) ≡ None
    gone = at_without_same n s.tickets ((distinct (plain_of z) (events_of z)).once n)

pub starts_or_up : (z u : Seen) (t : Ticket) (cause : Cause) → u ≡ grown z (e.Abort (number_of t) (up_cause z)) → Starts z t cause None u
starts_or_up z u t cause is = about_up z u t is

-- the ticket came back, if the task is tried again
pub ends : (x : Event) (r : Option Ticket) (outs : Outs) (z m u : Seen) (t : Ticket) → ticket_of x ≡ Some (number_of t) → m ≡ roomy z → u ≡ grown m x → ComesBack t outs r → IfSome r (IsFlying u)
    → Ends z t r u
ends x None outs z m u t about room is back flies = record { event = x; about = about; is = grown_room z m u x room is }
ends x (Some v) outs z m u t about room is back flies = (record { event = x; about = about; is = grown_room z m u x room is }, ap number_of back.1, flies)

pub ends_lost : (z m u : Seen) (t : Ticket) → m ≡ roomy z → u ≡ grown m (lost (number_of t)) → Ends z t None u
ends_lost z m u t room is = record { event = lost (number_of t); about = refl; is = grown_room z m u (lost (number_of t)) room is }

-- the abort of a ticket that is refused
pub refused_run : (R : Rules) (z u : Seen) (t : Ticket) (node n : ℕ) (inputs : List Plain) (fault : TaskFault) → IsRun R z → IsFlying z t → IsRefused R z t fault → node ≡ node_of t → inputs ≡ inputs_of t → n ≡ n_of t
    → u ≡ grown z (e.Abort (number_of t) (Some (s.Task node inputs n fault))) → IsRun R u
refused_run R z u t node n inputs fault run f j en ei em is =
    enters (e.Abort (number_of t) (Some (s.Task (node_of t) (inputs_of t) (n_of t) fault))) u run (refuse_legal fault f j) (is ∙ (λ i. grown z (e.Abort (number_of t) (Some (s.Task (en i) (ei i) (em i) fault)))))

-- ---- what the rules told

sole : (xs : List Value) (v : Value) → 1 ≤ length xs → length xs < 2 → v ≡ get_or xs 0 v → map plain_of_value xs ≡ plain_of_value v ∷ []
sole [] v a b is = absurd (omega arith)
sole (x ∷ []) v a b is = ap (λ y. plain_of_value y ∷ []) (sym is)
sole (x ∷ y ∷ ys) v a b is = absurd (omega arith)

pub answer_told : (R : Rules) (z : Seen) (t : Ticket) (gs ns : List Node) (i j : ℕ) (xs : List Value) (v : Value) (inputs : List Plain) (r : Option (Result Value EvalFault)) → gs ≡ z.graph → ns ≡ gs → IsWellMade gs
    → i ≡ node_of t → j ≡ node_of t → IsOperatorKind (node_at (plain_graph ns) i).kind → map plain_of_value xs ≡ inputs → inputs ≡ inputs_of t → 1 ≤ length xs → length xs < 2 → v ≡ get_or xs 0 v
    → IfSome r (λ a. answer_of a ≡ R.answer j (plain_of_value v)) → IfSome r (IsAnswered R z t)
answer_told R z t gs ns i j xs v inputs None eg en made ei ej kind exs einputs least most is told = tt
answer_told R z t gs ns i j xs v inputs (Some a) eg en made ei ej kind exs einputs least most is told = record {
  well_made = subst IsWellMade eg made;
  kind = subst (λ hs. IsOperatorKind (node_at (plain_graph hs) (node_of t)).kind) (en ∙ eg) (subst (λ k. IsOperatorKind (node_at (plain_graph ns) k).kind) ei kind);
  item = plain_of_value v;
  sole = sym einputs ∙ sym exs ∙ sole xs v least most is;
  by_rule = told ∙ ap (λ k. R.answer k (plain_of_value v)) ej;
}

pub outcome_told : (R : Rules) (z : Seen) (t : Ticket) (report : Report) (i a : ℕ) (inputs : List Plain) (r : Option Outs) → IsTask z t → i ≡ node_of t → inputs ≡ inputs_of t → a ≡ attempt_of t
    → IfSome r (λ o. o ≡ R.outputs i inputs a report) → IfSome r (IsOutcome R z t report)
outcome_told R z t report i a inputs None task ei es ea told = tt
outcome_told R z t report i a inputs (Some o) task ei es ea told = record { task = task; by_rule = told ∙ (λ k. R.outputs (ei k) (es k) (ea k) report) }
