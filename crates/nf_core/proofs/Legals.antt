-- That the events which calls enter are legal.
use Rattle.std.proofs.Common.{◌≡◌, Bool, true, false, refl, ap, sym, ◌∙◌, subst, arith, if◌then◌else◌}
use Rattle.std.specs.Prelude.{Option, Some, None, is_some, is_ok, option_map, Result, Ok, Err, OnOk, OnErr}
use Rattle.nf_value.specs.declared.value.Value.{Value}
use Rattle.nf_value.specs.declared.fault.EvalFault.{EvalFault}
use Rattle.nf_job.specs.declared.parts.JobParts.{JobParts}
use Rattle.nf_job.specs.declared.report.Report.{Report}
use Rattle.nf_graph.specs.Rules.{Outs, Rules}
use Rattle.nf_graph.specs.Node.{node_at}
use Rattle.nf_machine.specs.declared.event.Event.{Event}
use Rattle.nf_machine.specs.declared.event.Cause.{Cause}
use Rattle.nf_machine.specs.declared.stop.Stop.TheVariants as s
use Rattle.nf_machine.specs.Event.{give, start, finish, reuse, abort, stop_of, answer_of, memory_stop, outside_stop}
use Rattle.nf_machine.specs.declared.stop.Outside.{Outside}
use Rattle.nf_machine.specs.State as machine
use Rattle.nf_machine.specs.Legal.{IsLegal, IsProcessKind, GiveIsLegal, StartIsLegal, FinishIsLegal, ReuseIsLegal, AbortIsLegal, HasJob}
use Rattle.nf_flight.specs.declared.ticket.Ticket.{Ticket}
use Rattle.nf_flight.specs.Ticket.{number_of, node_of, inputs_of, attempt_of}
use Rattle.nf_stored.specs.Attempts.{IsJobOf}
use Rattle.nf_flow.specs.Seen.{Seen, plain_of, state_of, roomy, grown, HasRoom, MayAdd, Allows}
use Rattle.nf_flow.specs.Questions.{IsTicket, IsFlying, IsStarted}
use Rattle.nf_core.specs.Opening.{Opening}
use Rattle.nf_core.specs.Told.{Ending, attempt_at, attempt_by}
use Rattle.nf_core.specs.Calls.{IsTask, IsAnswered}
use Rattle.nf_core.specs.Leaves.{up_cause}
use Rattle.nf_core.specs.Run.{Parts, IsRun}
use Rattle.nf_core.proofs.Seens.{event_in, attempt_same, in_flight, roomy_flying, roomy_may}
use Rattle.nf_flow.specs.Stopped.{IsNamedIfAny}

-- ---- what a flow asks for

pub may : {F : Opening} {D S : Type 0} {done : D → Ending → Type 0} {seen : S → Ending → Type 0} {z : Parts D S} (x : Event) → IsRun F done seen z
    → IsLegal (plain_of z.flow) F.rules (state_of z.flow) (event_in z.flow x) → MayAdd z.flow x
may {F} x k l = record { rules = F.rules; allows = record { rules = k.rules; lawful = k.lawful; legal = l } }

pub allowed : {F : Opening} {D S : Type 0} {done : D → Ending → Type 0} {seen : S → Ending → Type 0} {z : Parts D S} (R : Rules) (x : Event) → IsRun F done seen z → R ≡ F.rules
    → IsLegal (plain_of z.flow) F.rules (state_of z.flow) (event_in z.flow x) → Allows R (roomy z.flow) x
allowed R x k same l = rw same (record { rules = k.rules; lawful = k.lawful; legal = l })

-- ---- tickets

pub stop_none : {A : Type 0} (o : Option A) → is_some o ≡ false → o ≡ None
stop_none None h = refl
stop_none (Some x) h = absurd (cc)

pub job_at : (R : Rules) (t : Ticket) (k : machine.Ticket) (job : JobParts) → IsTicket t k → IsJobOf R (attempt_by t) job → IsJobOf R (attempt_at k) job
job_at R t k job i of = subst (λ A. IsJobOf R A job) (attempt_same t k i) of

kind_at : (z : Seen) (t : Ticket) (k : machine.Ticket) → IsTicket t k → IsTask z t → IsProcessKind (node_at (plain_of z) k.node).kind
kind_at z t k i task = subst (λ n. IsProcessKind (node_at (plain_of z) n).kind) i.node task

has_job : (R : Rules) (k : machine.Ticket) (job : JobParts) → IsJobOf R (attempt_at k) job → HasJob R k
has_job R k job of = ap is_ok of.job

start_of : (F : Opening) (z : Seen) (t : Ticket) (f : IsFlying z t) (job : JobParts) → IsTask z t → IsJobOf F.rules (attempt_by t) job → is_some (state_of z).stop ≡ false → IsStarted z t false
    → StartIsLegal (plain_of z) F.rules (state_of z) f.ticket
start_of F z t f job task of on fresh = record {
  running = stop_none (state_of z).stop on;
  kind = kind_at z t f.ticket f.is task;
  fresh = sym (fresh f.ticket f.there);
  job = has_job F.rules f.ticket job (job_at F.rules t f.ticket job f.is of);
}

pub start_legal : (F : Opening) (z : Seen) (t : Ticket) (job : JobParts) (cause : Cause) → IsFlying z t → IsTask z t → IsJobOf F.rules (attempt_by t) job → is_some (state_of z).stop ≡ false → IsStarted z t false
    → IsLegal (plain_of z) F.rules (state_of z) (start (number_of t) cause)
start_legal F z t job cause f task of on fresh = in_flight (state_of z) (number_of t) f.ticket (StartIsLegal (plain_of z) F.rules (state_of z)) f.there (start_of F z t f job task of on fresh)

pub reuse_legal : (F : Opening) (z : Seen) (t : Ticket) (job : JobParts) (r : Report) (outs : Outs) → IsFlying z t → IsTask z t → IsJobOf F.rules (attempt_by t) job → is_some (state_of z).stop ≡ false → IsStarted z t false
    → outs ≡ F.rules.outputs (node_of t) (inputs_of t) (attempt_of t) r → IsLegal (plain_of z) F.rules (state_of z) (reuse (number_of t) r outs)
reuse_legal F z t job r outs f task of on fresh by = in_flight (state_of z) (number_of t) f.ticket (λ k. ReuseIsLegal (plain_of z) F.rules (state_of z) k r outs) f.there (record {
  start = start_of F z t f job task of on fresh;
  report = record { kind = kind_at z t f.ticket f.is task; by_rule = by ∙ rw (f.is.node, f.is.inputs, f.is.attempt) refl };
})

pub finish_legal : (F : Opening) (z : Seen) (t : Ticket) (r : Report) (outs : Outs) → IsFlying z t → IsTask z t → IsStarted z t true
    → outs ≡ F.rules.outputs (node_of t) (inputs_of t) (attempt_of t) r → IsLegal (plain_of z) F.rules (state_of z) (finish (number_of t) r outs)
finish_legal F z t r outs f task on by = in_flight (state_of z) (number_of t) f.ticket (λ k. FinishIsLegal (plain_of z) F.rules k r outs) f.there (record {
  started = sym (on f.ticket f.there);
  report = record { kind = kind_at z t f.ticket f.is task; by_rule = by ∙ rw (f.is.node, f.is.inputs, f.is.attempt) refl };
})

pub give_legal : (F : Opening) (z : Seen) (t : Ticket) (answer : Result Value EvalFault) → IsAnswered F.rules z t answer → is_some (state_of z).stop ≡ false
    → IsLegal (plain_of z) F.rules (state_of z) (give (number_of t) (answer_of answer))
give_legal F z t answer a on = in_flight (state_of z) (number_of t) a.ticket (λ k. GiveIsLegal (plain_of z) F.rules (state_of z) k (answer_of answer)) a.there (record {
  running = stop_none (state_of z).stop on;
  kind = a.kind;
  by_rule = a.by_rule;
})

-- a ticket may be given up for what is outside, and for want of memory
pub outside_legal : (F : Opening) (z : Seen) (t : Ticket) (o : Outside) → IsFlying z t → IsLegal (plain_of z) F.rules (state_of z) (abort (number_of t) (option_map stop_of (Some (s.Outside o))))
outside_legal F z t o f = in_flight (state_of z) (number_of t) f.ticket (λ k. AbortIsLegal (plain_of z) F.rules (state_of z) k (Some (outside_stop o))) f.there tt

pub up_legal : (F : Opening) (z : Seen) (t : Ticket) → IsFlying z t → IsLegal (plain_of z) F.rules (state_of z) (abort (number_of t) (option_map stop_of (up_cause z)))
up_legal F z t f = by_stop (is_some (state_of z).stop) refl where
  by_stop : (b : Bool) → is_some (state_of z).stop ≡ b → IsLegal (plain_of z) F.rules (state_of z) (abort (number_of t) (option_map stop_of (if b then None else Some s.Mem)))
  by_stop true on = in_flight (state_of z) (number_of t) f.ticket (λ k. AbortIsLegal (plain_of z) F.rules (state_of z) k None) f.there on
  by_stop false on = in_flight (state_of z) (number_of t) f.ticket (λ k. AbortIsLegal (plain_of z) F.rules (state_of z) k (Some memory_stop)) f.there tt

-- and blames nobody then
pub up_innocent : (z : Seen) (o : Outside) → option_map stop_of (up_cause z) ≡ Some (outside_stop o) → ⊥
up_innocent z o = by_stop (is_some (state_of z).stop) where
  by_stop : (b : Bool) → option_map stop_of (if b then None else Some s.Mem) ≡ Some (outside_stop o) → ⊥
  by_stop true h = cc
  by_stop false h = cc

-- ---- the same of a flow that was only given room

pub asks : {F : Opening} {D S : Type 0} {done : D → Ending → Type 0} {seen : S → Ending → Type 0} {z : Parts D S} (x : Event) (f : Seen) → IsRun F done seen z
    → IsLegal (plain_of z.flow) F.rules (state_of z.flow) (event_in z.flow x) → f ≡ roomy z.flow → MayAdd f x
asks x f k l is = subst (λ y. MayAdd y x) (sym is) (roomy_may (may x k l))

pub asks_now : {F : Opening} {D S : Type 0} {done : D → Ending → Type 0} {seen : S → Ending → Type 0} {z : Parts D S} (x : Event) (f : Seen) → IsRun F done seen z
    → IsLegal (plain_of z.flow) F.rules (state_of z.flow) (event_in z.flow x) → f ≡ z.flow → MayAdd f x
asks_now x f k l is = subst (λ y. MayAdd y x) (sym is) (may x k l)

pub asks_rules : {F : Opening} {D S : Type 0} {done : D → Ending → Type 0} {seen : S → Ending → Type 0} {z : Parts D S} (R : Rules) (x : Event) (f : Seen) → IsRun F done seen z → R ≡ F.rules
    → IsLegal (plain_of z.flow) F.rules (state_of z.flow) (event_in z.flow x) → f ≡ roomy z.flow → Allows R f x
asks_rules R x f k same l is = subst (λ y. Allows R y x) (sym is) (allowed R x k same l)

pub flies : (z f : Seen) (t : Ticket) → IsFlying z t → f ≡ roomy z → IsFlying f t
flies z f t h is = subst (λ y. IsFlying y t) (sym is) (roomy_flying h)

pub flies_now : (z f : Seen) (t : Ticket) → IsFlying z t → f ≡ z → IsFlying f t
flies_now z f t h is = subst (λ y. IsFlying y t) (sym is) h

pub has_room : (z f : Seen) → f ≡ roomy z → HasRoom f
has_room z f is = subst HasRoom (sym is) (omega arith)

-- an event of the flow with room is one of the flow
pub grown_on : (z f u : Seen) (x : Event) → f ≡ roomy z → u ≡ grown f x → u ≡ grown z x
grown_on z f u x is new = new ∙ ap (λ y. grown y x) is

pub grown_now : (z f u : Seen) (x : Event) → f ≡ z → u ≡ grown f x → u ≡ grown z x
grown_now z f u x is new = new ∙ ap (λ y. grown y x) is

pub on_ok : {A E : Type 0} {P Q : Type 0} (r : Result A E) → (P → Q) → OnOk r P → OnOk r Q
on_ok (Ok x) f p = f p
on_ok (Err x) f p = tt

pub on_err : {A E : Type 0} {P Q : Type 0} (r : Result A E) → (P → Q) → OnErr r P → OnErr r Q
on_err (Ok x) f p = tt
on_err (Err x) f p = f p

pub up_named : (z : Seen) → IsNamedIfAny (up_cause z)
up_named z = by_stop (is_some (state_of z).stop) where
  by_stop : (b : Bool) → IsNamedIfAny (if b then None else Some s.Mem)
  by_stop true = tt
  by_stop false = tt

pub memory_legal : (F : Opening) (z : Seen) (t : Ticket) → IsFlying z t → IsLegal (plain_of z) F.rules (state_of z) (abort (number_of t) (option_map stop_of (Some s.Mem)))
memory_legal F z t f = in_flight (state_of z) (number_of t) f.ticket (λ k. AbortIsLegal (plain_of z) F.rules (state_of z) k (Some memory_stop)) f.there tt
