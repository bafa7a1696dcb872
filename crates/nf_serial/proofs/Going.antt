-- How a run on one lane goes on.
use Rattle.std.proofs.Common.{◌≡◌, ◌≢◌, ℕ, ◌+◌, ◌<◌, ◌≤◌, List, [], ◌∷◌, ◌++◌, false, refl, ap, sym, ◌∙◌, subst, arith, cond, ◌⊎◌, inl, inr}
use Rattle.std.specs.Prelude.{Option, Some, None, Result, Ok, Err, OnOk, OnErr}
use Rattle.std.specs.List.{Contains}
use Rattle.std.proofs.lemmas.List.{append_assoc, append-nil}
use Rattle.std.proofs.lemmas.List.Sums.{sum_by-append}
use Rattle.std.proofs.lemmas.List.Elements.{Contains-append_cases, Contains-push_cases}
use Rattle.nf_value.specs.declared.value.Value.{Value}
use Rattle.nf_value.specs.declared.fault.EvalFault.{EvalFault}
use Rattle.nf_job.specs.declared.report.Report.{Report}
use Rattle.nf_graph.specs.Node.{PlainNode, IsGraph}
use Rattle.nf_graph.specs.Rules.{Outs, Rules, IsRules}
use Rattle.nf_host.specs.Faults.{Rose}
use Rattle.nf_machine.specs.declared.event.Event.{Event}
use Rattle.nf_machine.specs.declared.event.Event.TheVariants as e
use Rattle.nf_machine.specs.declared.event.Cause.{Cause}
use Rattle.nf_machine.specs.declared.stop.Stop.{Stop}
use Rattle.nf_machine.specs.declared.stop.Stop.TheVariants as s
use Rattle.nf_machine.specs.declared.stop.Outside.TheVariants.{Lane, Keeper}
use Rattle.nf_machine.specs.Event.{PlainEvent}
use Rattle.nf_machine.specs.State.{opening}
use Rattle.nf_machine.specs.Step.{step}
use Rattle.nf_machine.specs.Legal.{IsLegal}
use Rattle.nf_machine.specs.History.{IsHistory, after}
use Rattle.nf_machine.specs.Going.{work}
use Rattle.nf_machine.proofs.Growing.{lawful_grows}
use Rattle.nf_flight.specs.declared.ticket.Ticket.{Ticket}
use Rattle.nf_flight.specs.Ticket.{number_of}
use Rattle.nf_flow.specs.Seen.{Seen, plain_of, events_of, state_of, grown, take_of}
use Rattle.nf_flow.specs.Stopped.{cause_of}
use Rattle.nf_core.specs.Calls.{EndsOrUp, GivesUp}
use Rattle.nf_core.specs.Opening.{Opening, IsLane}
use Rattle.nf_serial.specs.Serial.{is_start, LaneNow, Later, ran_once, Goes, GoesAlone, Serves, CanServe, work_of, IsLaneStop}
use Rattle.nf_serial.proofs.Serving.{later_still, later_then, same_store}
use Rattle.nf_core.proofs.Seens.{event_in, events_grown, state_grown}

-- ---- what is left to do

-- each event leaves less to do
abbrev pub Falls : Type 0
Falls = (g : List PlainNode) → (R : Rules) → (h : List PlainEvent) → (e : PlainEvent) → IsGraph g → IsRules R
    → IsHistory g R h → IsLegal g R (after g h) e → work g (step g (after g h) e) < work g (after g h)

-- so did the event before this state
abbrev pub FallsTo : Seen → Type 0
FallsTo f = (y : Seen) (w : Event) → f ≡ grown y w → work_of f < work_of y

pub work_falls : Falls → (R : Rules) (z : Seen) (x : Event) → IsGraph (plain_of z) → IsRules R → IsHistory (plain_of z) R (events_of (grown z x)) → work_of (grown z x) < work_of z
work_falls law R z x graph rules lawful =
    let g = plain_of z in
    let both = (lawful_grows g R (opening g) (events_of z) (event_in z x)).0 (subst (IsHistory g R) (events_grown z x) lawful) in
    let less = law g R (events_of z) (event_in z x) graph rules both.0 both.1 in
    subst (λ s. work g s < work g (state_of z)) (sym (state_grown z x)) less

pub falls_so : Falls → (R : Rules) (z y : Seen) (x : Event) → y ≡ grown z x → IsGraph (plain_of y) → IsRules R → IsHistory (plain_of y) R (events_of y) → work_of y < work_of z
falls_so law R z y x is graph rules lawful =
    subst (λ u. work_of u < work_of z) (sym is)
    (work_falls law R z x (subst (λ u. IsGraph (plain_of u)) is graph) rules (subst (λ u. IsHistory (plain_of u) R (events_of u)) is lawful))

-- ---- one way after another

-- nothing was entered
pub goes_nowhere : (z : Seen) (a b : LaneNow) → b.runs ≡ a.runs → a.faults ≤ b.faults → Goes z z a b
goes_nowhere z a b runs faults = record {
  events = [];
  graph = refl;
  history = sym (append-nil z.history);
  runs = omega (arith, runs);
  faults = faults;
  blamed = λ t h. absurd (let l = h.1 in omega (arith, l));
}

pub goes_then : {x y z : Seen} {a b c : LaneNow} → Goes x y a b → Goes y z b c → Goes x z a c
goes_then {x} {y} {z} {a} {b} {c} p q = record {
  events = p.events ++ q.events;
  graph = q.graph ∙ p.graph;
  history = q.history ∙ (ap (λ h. h ++ q.events) p.history ∙ append_assoc x.history p.events q.events);
  runs = (let e = sum_by-append (λ x. cond (is_start x) 1 0) p.events q.events in let r = p.runs in let s = q.runs in omega (arith, e, r, s));
  faults = (let l = p.faults in let m = q.faults in omega (arith, l, m));
  blamed = λ t h. by_side t (Contains-append_cases p.events q.events _ h);
} where
  by_side : (t : ℕ) → Contains p.events (e.Abort t (Some (s.Outside Lane))) ⊎ Contains q.events (e.Abort t (Some (s.Outside Lane))) → Rose a.faults c.faults
  by_side t (inl h) = (let r = p.blamed t h in let m = q.faults in omega (arith, r, m))
  by_side t (inr h) = (let r = q.blamed t h in let l = p.faults in omega (arith, r, l))

pub serves_then : {F : Opening} {x y z : Seen} {a b c : LaneNow} → Serves F x y a b → Serves F y z b c → Serves F x z a c
serves_then p q = record { goes = goes_then p.goes q.goes; later = later_then p.later q.later; spent = (let l = p.spent in let m = q.spent in omega (arith, l, m)); told = q.told }

-- the lane was asked, and nothing was entered
pub serves_nowhere : {F : Opening} (z : Seen) (a b : LaneNow) → b.runs ≡ a.runs → Later a b → IsLane F b.world b.store → Serves F z z a b
serves_nowhere z a b runs later told = record { goes = goes_nowhere z a b runs later.faults; later = later; spent = omega (arith, runs); told = told }

-- the lane wasn't asked
pub serves_alone : {F : Opening} {x y : Seen} (l : LaneNow) → GoesAlone x y → IsLane F l.world l.store → Serves F x y l l
serves_alone l p told = record { goes = p.goes l; later = later_still l; spent = (let less = p.less in omega (arith, less)); told = told }

pub can_after : {F : Opening} {x y : Seen} {a b : LaneNow} → CanServe F x a → Serves F x y a b → CanServe F y b
can_after p q = record { told = q.told; few = (let l = p.few in let m = q.spent in omega (arith, l, m)) }

-- what is left never grows
pub no_more : {F : Opening} {x y : Seen} {a b : LaneNow} → Serves F x y a b → work_of y ≤ work_of x
no_more p = let m = p.spent in let r = p.goes.runs in omega (arith, m, r)

-- ---- the way of one event

pub goes_one : (z f : Seen) (x : Event) (a b : LaneNow) → f ≡ grown z x → b.runs ≡ a.runs + cond (is_start x) 1 0 → a.faults ≤ b.faults
    → ((t : ℕ) → x ≡ e.Abort t (Some (s.Outside Lane)) → Rose a.faults b.faults) → Goes z f a b
goes_one z f x a b is runs faults blame = record {
  events = x ∷ [];
  graph = ap (λ y. y.graph) is;
  history = ap (λ y. y.history) is;
  runs = omega (arith, runs);
  faults = faults;
  blamed = λ t h. by_place t (Contains-push_cases [] x (e.Abort t (Some (s.Outside Lane))) h);
} where
  by_place : (t : ℕ) → Contains [] (e.Abort t (Some (s.Outside Lane))) ⊎ (x ≡ e.Abort t (Some (s.Outside Lane))) → Rose a.faults b.faults
  by_place t (inl c) = absurd (let l = c.1 in omega (arith, l))
  by_place t (inr q) = blame t q

-- an event for which no lane runs and none is blamed
pub alone_one : (z f : Seen) (x : Event) → is_start x ≡ false → ((t : ℕ) → x ≡ e.Abort t (Some (s.Outside Lane)) → ⊥) → f ≡ grown z x → work_of f < work_of z → GoesAlone z f
alone_one z f x still clean is less = record {
  goes = λ l. goes_one z f x l l is (let w : ◌≡◌ {A = ℕ} (cond (is_start x) 1 0) 0 = rw still refl in omega (arith, w)) (omega arith) (λ t h. absurd (clean t h));
  less = less;
}

alone_halt : (z f : Seen) → f ≡ grown z e.Halt → FallsTo f → GoesAlone z f
alone_halt z f is falls = alone_one z f e.Halt refl (λ t h. cc) is (falls z e.Halt is)

pub alone_passed : {A E : Type 0} (z f : Seen) (i : ℕ) (r : Result A E) → OnOk r (f ≡ grown z (e.Pass i)) → OnErr r (f ≡ grown z e.Halt) → FallsTo f → GoesAlone z f
alone_passed z f i (Ok v) ok err falls = alone_one z f (e.Pass i) refl (λ t h. cc) ok (falls z (e.Pass i) ok)
alone_passed z f i (Err v) ok err falls = alone_halt z f err falls

pub alone_closed : {A E : Type 0} (z f : Seen) (i : ℕ) (r : Result A E) → OnOk r (f ≡ grown z (e.Close i)) → OnErr r (f ≡ grown z e.Halt) → FallsTo f → GoesAlone z f
alone_closed z f i (Ok v) ok err falls = alone_one z f (e.Close i) refl (λ t h. cc) ok (falls z (e.Close i) ok)
alone_closed z f i (Err v) ok err falls = alone_halt z f err falls

pub alone_taken : {A E : Type 0} (z f : Seen) (i p k : ℕ) (r : Result A E) → OnOk r (f ≡ grown z (take_of z i p k)) → OnErr r (f ≡ grown z e.Halt) → FallsTo f → GoesAlone z f
alone_taken z f i p k (Ok v) ok err falls = alone_one z f (take_of z i p k) refl (λ t h. cc) ok (falls z (take_of z i p k) ok)
alone_taken z f i p k (Err v) ok err falls = alone_halt z f err falls

pub cause_same : (n t : ℕ) (c d : Option Stop) → e.Abort n c ≡ e.Abort t d → c ≡ d
cause_same n t c d h = ap cause_of h

pub alone_lost : (z f : Seen) (n : ℕ) (cause : Option Stop) → cause ≢ Some (s.Outside Lane) → f ≡ grown z (e.Abort n cause) → work_of f < work_of z → GoesAlone z f
alone_lost z f n cause clean is less = alone_one z f (e.Abort n cause) refl (λ t h. clean (cause_same n t cause (Some (s.Outside Lane)) h)) is less

pub mem_innocent : Some s.Mem ≢ Some (s.Outside Lane)
mem_innocent = λ h. cc

pub alone_up : (z f : Seen) (t : Ticket) → GivesUp z t f → FallsTo f → GoesAlone z f
alone_up z f t up falls = alone_lost z f (number_of t) up.cause up.innocent up.is (falls z (e.Abort (number_of t) up.cause) up.is)

pub alone_gave : (z f : Seen) (t : Ticket) (answer : Result Value EvalFault) → (f ≡ grown z (e.Give (number_of t) answer)) ⊎ GivesUp z t f → FallsTo f → GoesAlone z f
alone_gave z f t answer (inl is) falls = alone_one z f (e.Give (number_of t) answer) refl (λ u h. cc) is (falls z (e.Give (number_of t) answer) is)
alone_gave z f t answer (inr up) falls = alone_up z f t up falls

pub alone_finished : (z f : Seen) (t : Ticket) (r : Report) (outs : Outs) (back : Option Ticket) → EndsOrUp z t (e.Finish (number_of t) r outs) outs back f → FallsTo f → GoesAlone z f
alone_finished z f t r outs (Some v) ends falls = alone_one z f (e.Finish (number_of t) r outs) refl (λ u h. cc) ends.is (falls z (e.Finish (number_of t) r outs) ends.is)
alone_finished z f t r outs None (inl ends) falls = alone_one z f (e.Finish (number_of t) r outs) refl (λ u h. cc) ends.is (falls z (e.Finish (number_of t) r outs) ends.is)
alone_finished z f t r outs None (inr up) falls = alone_up z f t up falls

pub alone_reused : (z f : Seen) (t : Ticket) (r : Report) (outs : Outs) (back : Option Ticket) → EndsOrUp z t (e.Reuse (number_of t) r outs) outs back f → FallsTo f → GoesAlone z f
alone_reused z f t r outs (Some v) ends falls = alone_one z f (e.Reuse (number_of t) r outs) refl (λ u h. cc) ends.is (falls z (e.Reuse (number_of t) r outs) ends.is)
alone_reused z f t r outs None (inl ends) falls = alone_one z f (e.Reuse (number_of t) r outs) refl (λ u h. cc) ends.is (falls z (e.Reuse (number_of t) r outs) ends.is)
alone_reused z f t r outs None (inr up) falls = alone_up z f t up falls

-- ---- with the lane

-- a Start, for which the lane is to run once
pub serves_start : {F : Opening} (z f : Seen) (n : ℕ) (cause : Cause) (l : LaneNow) → f ≡ grown z (e.Start n cause) → FallsTo f → IsLane F l.world l.store → Serves F z f l (ran_once l)
serves_start z f n cause l is falls told = record {
  goes = goes_one z f (e.Start n cause) l (ran_once l) is (omega arith) (omega arith) (λ t h. absurd (cc));
  later = record { faults = omega arith; world = refl; store = same_store l.store };
  spent = (let less = falls z (e.Start n cause) is in omega (arith, less));
  told = told;
}

innocent_or_rose : (n t : ℕ) (cause : Stop) (a b : ℕ) → IsLaneStop a b cause → e.Abort n (Some cause) ≡ e.Abort t (Some (s.Outside Lane)) → Rose a b
innocent_or_rose n t cause a b stop h = by_stop cause stop (cause_same n t (Some cause) (Some (s.Outside Lane)) h) where
  by_stop : (x : Stop) → IsLaneStop a b x → Some x ≡ Some (s.Outside Lane) → Rose a b
  by_stop s.Mem l q = absurd (cc)
  by_stop (s.Outside Lane) l q = l
  by_stop (s.Outside Keeper) l q = absurd l
  by_stop (s.Task node inputs k fault) l q = absurd l
  by_stop (s.Charge sum) l q = absurd l
  by_stop (s.Op node fault) l q = absurd l
  by_stop (s.Item node item fault) l q = absurd l

-- the ticket was lost by the lane, or for want of memory after it was asked
pub serves_lost : {F : Opening} (z f : Seen) (n : ℕ) (cause : Stop) (a b : LaneNow) → IsLaneStop a.faults b.faults cause → f ≡ grown z (e.Abort n (Some cause)) → work_of f < work_of z
    → b.runs ≡ a.runs → Later a b → IsLane F b.world b.store → Serves F z f a b
serves_lost z f n cause a b stop is less runs later told = record {
  goes = goes_one z f (e.Abort n (Some cause)) a b is (omega (arith, runs)) later.faults (λ t h. innocent_or_rose n t cause a.faults b.faults stop h);
  later = later;
  spent = omega (arith, less, runs);
  told = told;
}
