-- The flow in memory, which is the one that callers see.
use Rattle.std.proofs.Common.{◌≡◌, ◌≢◌, ℕ, Bool, true, false, refl, ap, sym, subst, ◌∙◌, if◌then◌else◌}
use Rattle.std.specs.Prelude.{Option, Some, None, is_none, is_some, option_map, Result, Ok, Err, IfOk}
use Rattle.nf_opstream.specs.Fault as operators
use Rattle.nf_graph.specs.Rules.{Rules}
use Rattle.nf_machine.specs.declared.event.Event.{Event}
use Rattle.nf_machine.specs.declared.stop.Stop.{Stop}
use Rattle.nf_machine.specs.declared.stop.Stop.TheVariants as s
use Rattle.nf_machine.specs.declared.stop.Outside.TheVariants.{Lane, Keeper}
use Rattle.nf_machine.specs.Event.{op_stop, stop_of, outside_stop}
use Rattle.nf_machine.specs.Legal.{IsLegal}
use Rattle.nf_keeper.specs.Faults.{OnFailed}
use Rattle.nf_keeper.specs.declared.refusal.KeeperRefusal.{KeeperRefusal}
use Rattle.nf_keeper.specs.declared.refusal.KeeperRefusal.TheVariants.{Failed, Mem}
use Rattle.nf_flight.specs.declared.ticket.Ticket.{Ticket}
use Rattle.nf_flight.specs.Ticket.{number_of}
use Rattle.nf_flow.specs.Seen.{Seen, plain_of, state_of, roomy, grown, take_of, MayAdd}
use Rattle.nf_core.specs.Opening.{Opening}
use Rattle.nf_core.specs.Told.{Ending}
use Rattle.nf_core.specs.Leaves.{up_cause}
use Rattle.nf_core.specs.Run.{Parts, IsRun}
use Rattle.nf_core.proofs.Seens.{event_in, roomy_may}
use Rattle.nf_core.proofs.Legals.{may}

pub legal_here : (R : Rules) (f z : Seen) (x : Event) → f ≡ z → IsLegal (plain_of z) R (state_of z) (event_in z x) → IsLegal (plain_of f) R (state_of f) (event_in f x)
legal_here R f z x is l = subst (λ y. IsLegal (plain_of y) R (state_of y) (event_in y x)) (sym is) l

pub runs_here : (f z : Seen) → f ≡ z → (state_of z).stop ≡ None → (state_of f).stop ≡ None
runs_here f z is on = subst (λ y. (state_of y).stop ≡ None) (sym is) on

pub goes_on : (f z : Seen) → f ≡ z → (state_of z).stop ≡ None → is_none (state_of f).stop ≡ true
goes_on f z is on = ap is_none (runs_here f z is on)

none_none : {A : Type 0} (o : Option A) → is_none o ≡ true → o ≡ None
none_none None h = refl
none_none (Some x) h = absurd (cc)

pub runs_still : (f z : Seen) → f ≡ z → is_none (state_of z).stop ≡ true → (state_of f).stop ≡ None
runs_still f z is on = runs_here f z is (none_none (state_of z).stop on)

-- ---- takes

pub asks_take : {F : Opening} {D S : Type 0} {done : D → Ending → Type 0} {seen : S → Ending → Type 0} {z : Parts D S} (n p k : ℕ) (f : Seen) → IsRun F done seen z
    → IsLegal (plain_of z.flow) F.rules (state_of z.flow) (event_in z.flow (take_of z.flow n p k)) → f ≡ roomy z.flow → MayAdd f (take_of f n p k)
asks_take {z = z} n p k f run l is = subst (λ y. MayAdd y (take_of y n p k)) (sym is) (roomy_may (may (take_of z.flow n p k) run l))

pub took : (z f u : Seen) (n p k : ℕ) → f ≡ roomy z → u ≡ grown f (take_of f n p k) → u ≡ grown z (take_of z n p k)
took z f u n p k is new = new ∙ ap (λ y. grown y (take_of y n p k)) is

pub took_number : (z f : Seen) (t : ℕ) → f ≡ roomy z → t ≡ (state_of f).next → t ≡ (state_of z).next
took_number z f t is h = h ∙ ap (λ y. (state_of y).next) is

pub took_numbers : {E : Type 0} (z f : Seen) (r : Result Ticket E) → f ≡ roomy z → IfOk r (λ t. number_of t ≡ (state_of f).next) → IfOk r (λ t. number_of t ≡ (state_of z).next)
took_numbers z f (Ok t) is h = took_number z f (number_of t) is h
took_numbers z f (Err x) is h = tt

-- ---- who is blamed

op_innocent : (i : ℕ) (o : Option operators.Fault) → Some (op_stop i o) ≡ Some (outside_stop Keeper) → ⊥
op_innocent i None h = cc
op_innocent i (Some f) h = cc

-- a keeper that isn't named isn't blamed
pub not_keeper : (cause : Option Stop) → cause ≢ Some (s.Outside Keeper) → option_map stop_of cause ≡ Some (outside_stop Keeper) → ⊥
not_keeper None n h = cc
not_keeper (Some (s.Charge sum)) n h = cc
not_keeper (Some (s.Op node fault)) n h = op_innocent node (operators.fault_of fault) h
not_keeper (Some (s.Item node item fault)) n h = cc
not_keeper (Some (s.Task node inputs k fault)) n h = cc
not_keeper (Some (s.Outside Lane)) n h = cc
not_keeper (Some (s.Outside Keeper)) n h = n refl
not_keeper (Some s.Mem) n h = cc

pub legal_take : (R : Rules) (f z : Seen) (n p k : ℕ) → f ≡ z → IsLegal (plain_of z) R (state_of z) (event_in z (take_of z n p k)) → IsLegal (plain_of f) R (state_of f) (event_in f (take_of f n p k))
legal_take R f z n p k is l = subst (λ y. IsLegal (plain_of y) R (state_of y) (event_in y (take_of y n p k))) (sym is) l

-- whether a run resumes an earlier one is fixed at the opening
pub resumed_so : {F : Opening} {D S : Type 0} {done : D → Ending → Type 0} {seen : S → Ending → Type 0} {z : Parts D S} → IsRun F done seen z → IsRun F done seen (record z { resumed = F.resumed })
resumed_so {F} {done = done} {seen = seen} {z = z} run = subst (λ b. IsRun F done seen (record z { resumed = b })) run.resumed run

-- what holds of a keeper's failure
pub failed_so : {T P : Type 0} (x : Result T KeeperRefusal) (r : KeeperRefusal) → x ≡ Err r → r ≡ Failed → OnFailed x P → P
failed_so (Ok v) r is same p = absurd (cc)
failed_so (Err Failed) r is same p = p
failed_so (Err Mem) r is same p = absurd (cc)

-- no lane is blamed for a ticket that can't go on, for the keeper's failure or for want of memory
pub up_no_lane : (z : Seen) → up_cause z ≢ Some (s.Outside Lane)
up_no_lane z = by_stop (is_some (state_of z).stop) where
  by_stop : (b : Bool) → (if b then None else Some s.Mem) ≢ Some (s.Outside Lane)
  by_stop true = λ h. cc
  by_stop false = λ h. cc

pub keeper_no_lane : Some (s.Outside Keeper) ≢ Some (s.Outside Lane)
keeper_no_lane = λ h. cc

pub mem_no_lane : Some s.Mem ≢ Some (s.Outside Lane)
mem_no_lane = λ h. cc
