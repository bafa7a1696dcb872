-- The charge stays within the limit as long as it doesn't stop the run.
use Rattle.std.proofs.Common.{◌≡◌, ℕ, ◌+◌, ◌<◌, ◌≤◌, List, [], ◌∷◌, true, refl, ap, sym, ◌∙◌, arith, inl, inr}
use Rattle.std.specs.Prelude.{nat_lt, Option, Some, None, Result, Ok, Err, MatchOption}
use Rattle.std.proofs.lemmas.Bool.{cases_Bool}
use Rattle.std.proofs.lemmas.Bool.Decides.{nat_tests}
use Rattle.nf_value.specs.Plain.{Plain}
use Rattle.nf_value.specs.declared.fault.EvalFault.{EvalFault}
use Rattle.nf_job.specs.declared.report.Report.{Report}
use Rattle.nf_job.specs.declared.emitted.Outputs.TheVariants.{Emits, Ignored, Failed, Again}
use Rattle.nf_opstream.specs.Push.{Push}
use Rattle.nf_graph.specs.Rules.{Rules, Outs}
use Rattle.nf_graph.specs.Node.{Kind, PlainNode, node_at}
use Rattle.nf_graph.specs.Meaning.{cost}
use Rattle.nf_graph.specs.Faults.{item_fails, op_fails, task_fails}
use Rattle.nf_machine.specs.Event.{PlainStop, fault_stop, charge_stop, outside_stop, memory_stop, PlainEvent, pass, taking, give, start, finish, reuse, close, abort, halt}
use Rattle.nf_machine.specs.State.{Ticket, State, opening}
use Rattle.nf_machine.specs.Step.{limit, ticket_at, without, with_ticket, or_stop, with_stop, do_pass, next_item, Given, op_gives, op_ends, push_with, give_push, do_give, do_finish, do_close, at_ticket, step, replay}
use Rattle.nf_machine.specs.Legal.{MayCause, AbortIsLegal, IsLegal}
use Rattle.nf_machine.specs.History.{IsLawful}

pub record ChargeOk (s : State) : Type 0 where
  pub low : s.stop ≡ None → s.charge ≤ limit
  pub past : (sum : ℕ) → s.stop ≡ Some (charge_stop sum) → (sum ≡ s.charge) × (limit < sum)

abbrev IsOther : PlainStop → Type 0
IsOther (charge_stop sum) = ⊥
IsOther (fault_stop f) = Unit {0}
IsOther (outside_stop u) = Unit {0}
IsOther memory_stop = Unit {0}

other_is : (x : PlainStop) (sum : ℕ) → IsOther x → Some x ≡ Some (charge_stop sum) → ⊥
other_is (charge_stop c) sum h e = h
other_is (fault_stop f) sum h e = cc
other_is (outside_stop u) sum h e = cc
other_is memory_stop sum h e = cc

none_some : {A : Type 0} {x : A} → None ≡ Some x → ⊥
none_some e = cc

same_stop : (s u : State) → u.charge ≡ s.charge → u.stop ≡ s.stop → ChargeOk s → ChargeOk u
same_stop s u c eu h = record {
  low = λ e. rw c (h.low (sym eu ∙ e));
  past = λ sum e. (let w = h.past sum (sym eu ∙ e) in (w.0 ∙ sym c, w.1));
}

new_stop : (s u : State) (x : PlainStop) → IsOther x → u.charge ≡ s.charge → (a : Option PlainStop) → s.stop ≡ a → u.stop ≡ or_stop a (Some x) → ChargeOk s → ChargeOk u
new_stop s u x n c None es eu h = record {
  low = λ e. absurd (none_some (sym e ∙ eu));
  past = λ sum e. absurd (other_is x sum n (sym eu ∙ e));
}
new_stop s u x n c (Some y) es eu h = record {
  low = λ e. absurd (none_some (sym e ∙ eu));
  past = λ sum e. (let w = h.past sum (es ∙ sym eu ∙ e) in (w.0 ∙ sym c, w.1));
}

pass_ok : (s : State) (i k : ℕ) (x : Plain) → s.stop ≡ None → ChargeOk s → ChargeOk (do_pass s i k x)
pass_ok s i k x run h = elim (cases_Bool (nat_lt limit (s.charge + cost x))) [
  | inl over ↦ rw over (record {
    low = λ e. absurd (none_some (sym e));
    past = λ sum e. (let a : sum ≡ s.charge + cost x = cc in (a, rw a (grind (arith, nat_tests))));
  })
  | inr below ↦ rw below (record {
    low = λ e. grind (arith, nat_tests);
    past = λ sum e. absurd (none_some (sym run ∙ e));
  })
]

push_ok : (s u : State) (i : ℕ) (x : Push) (r : Given) → u.charge ≡ s.charge → u.stop ≡ s.stop → ChargeOk s → ChargeOk (give_push u i x r)
push_ok s u i x (Ok es) c e h = same_stop s (give_push u i x (Ok es)) c e h
push_ok s u i x (Err f) c e h = new_stop s (give_push u i x (Err f)) (fault_stop (op_fails i f)) tt c s.stop refl (ap (λ o. or_stop o (Some (fault_stop (op_fails i f)))) e) h

give_limit : (g : List PlainNode) (s : State) (t : ℕ) (a : Result Plain EvalFault) (o : Option Ticket) → ChargeOk s → ChargeOk (at_ticket s t o (λ s' k. do_give g s' k a))
give_limit g s t a None h = h
give_limit g s t (Ok a) (Some k) h = push_ok s (record s { tickets = without t s.tickets }) k.node (push_with k.take a) (op_gives (node_at g k.node).kind (s.spots k.node).pushed (push_with k.take a)) refl refl h
give_limit g s t (Err f) (Some k) h = new_stop s (with_stop (record s { tickets = without t s.tickets }) (fault_stop (item_fails k.node k.take.item f))) (fault_stop (item_fails k.node k.take.item f)) tt refl s.stop refl refl h

start_limit : (s : State) (t : ℕ) (o : Option Ticket) → ChargeOk s → ChargeOk (at_ticket s t o (λ s' k. record s' { tickets = with_ticket (record k { started = true }) (s'.tickets) }))
start_limit s t None h = h
start_limit s t (Some k) h = same_stop s (record s { tickets = with_ticket (record k { started = true }) (without t s.tickets) }) refl refl h

finish_limit : (s : State) (t : ℕ) (r : Report) (outs : Outs) (o : Option Ticket) → ChargeOk s → ChargeOk (at_ticket s t o (λ s' k. do_finish s' k r outs))
finish_limit s t r outs None h = h
finish_limit s t r (Ok (Emits vs)) (Some k) h = same_stop s (do_finish (record s { tickets = without t s.tickets }) k r (Ok (Emits vs))) refl refl h
finish_limit s t r (Ok Ignored) (Some k) h = same_stop s (do_finish (record s { tickets = without t s.tickets }) k r (Ok Ignored)) refl refl h
finish_limit s t r (Ok Again) (Some k) h = same_stop s (do_finish (record s { tickets = without t s.tickets }) k r (Ok Again)) refl refl h
finish_limit s t r (Ok (Failed f)) (Some k) h = new_stop s (do_finish (record s { tickets = without t s.tickets }) k r (Ok (Failed f))) (fault_stop (task_fails k.node k.take.inputs k.take.n f)) tt refl s.stop refl refl h
finish_limit s t r (Err f) (Some k) h = new_stop s (do_finish (record s { tickets = without t s.tickets }) k r (Err f)) (fault_stop (task_fails k.node k.take.inputs k.take.n f)) tt refl s.stop refl refl h

cause_other : (R : Rules) (kind : Kind) (k : Ticket) (x : PlainStop) → MayCause R kind k x → IsOther x
cause_other R kind k (charge_stop sum) h = h
cause_other R kind k (fault_stop f) h = tt
cause_other R kind k (outside_stop u) h = tt
cause_other R kind k memory_stop h = tt

or_none : (a : Option PlainStop) → or_stop a None ≡ a
or_none None = refl
or_none (Some x) = refl

abort_limit : (g : List PlainNode) (R : Rules) (s : State) (t : ℕ) (cause : Option PlainStop) (o : Option Ticket) → MatchOption o ⊥ (λ k. AbortIsLegal g R s k cause) → ChargeOk s
    → ChargeOk (at_ticket s t o (λ s' k. record s' { gone = k ∷ s'.gone; stop = or_stop s'.stop cause }))
abort_limit g R s t cause None l h = absurd l
abort_limit g R s t None (Some k) l h = same_stop s (record s { tickets = without t s.tickets; gone = k ∷ s.gone; stop = or_stop s.stop None }) refl (or_none s.stop) h
abort_limit g R s t (Some x) (Some k) l h = new_stop s (record s { tickets = without t s.tickets; gone = k ∷ s.gone; stop = or_stop s.stop (Some x) }) x (cause_other R (node_at g k.node).kind k x l) refl s.stop refl refl h

close_limit : (s : State) (i : ℕ) (r : Given) → ChargeOk s → ChargeOk (do_close s i r)
close_limit s i (Ok es) h = same_stop s (do_close s i (Ok es)) refl refl h
close_limit s i (Err f) h = new_stop s (do_close s i (Err f)) (fault_stop (op_fails i f)) tt refl s.stop refl refl h

pub step_limit : (g : List PlainNode) (R : Rules) (s : State) (e : PlainEvent) → IsLegal g R s e → ChargeOk s → ChargeOk (step g s e)
step_limit g R s (pass i k) l h = pass_ok s i k (next_item g s i k) l.running h
step_limit g R s (taking i port place t n) l h = same_stop s (step g s (taking i port place t n)) refl refl h
step_limit g R s (give t a) l h = give_limit g s t a (ticket_at t s.tickets) h
step_limit g R s (start t cause) l h = start_limit s t (ticket_at t s.tickets) h
step_limit g R s (finish t r outs) l h = finish_limit s t r outs (ticket_at t s.tickets) h
step_limit g R s (reuse t r outs) l h = finish_limit s t r outs (ticket_at t s.tickets) h
step_limit g R s (close i) l h = close_limit s i (op_ends (node_at g i).kind (s.spots i).pushed) h
step_limit g R s (abort t cause) l h = abort_limit g R s t cause (ticket_at t s.tickets) l h
step_limit g R s halt l h = record { low = λ e. absurd (none_some (sym e)); past = λ sum e. absurd (other_is memory_stop sum tt e) }

pub replay_limit : (g : List PlainNode) (R : Rules) (s : State) (es : List PlainEvent) → IsLawful g R s es → ChargeOk s → ChargeOk (replay g s es)
replay_limit g R s [] l h = h
replay_limit g R s (e ∷ es) l h = replay_limit g R (step g s e) es l.1 (step_limit g R s e l.0 h)

pub opening_limit : (g : List PlainNode) → ChargeOk (opening g)
opening_limit g = record { low = λ e. omega arith; past = λ sum e. absurd (none_some e) }
