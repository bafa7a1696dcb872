-- A run grows by a legal event, and stays one under its rules.
use Rattle.std.proofs.Common.{◌≡◌, ℕ, List, true, false, refl, ap, sym, ◌∙◌, subst, arith}
use Rattle.std.specs.Prelude.{Option, Some, None, is_none, is_some, Result, Ok, Err, OnOk, OnErr, IfOk}
use Rattle.std.proofs.lemmas.Bool.{true≢false}
use Rattle.std.proofs.lemmas.List.{map_push}
use Rattle.nf_graph.specs.Rules.{Rules, IsRules}
use Rattle.nf_graph.specs.declared.node.Node.{Node}
use Rattle.nf_machine.specs.declared.event.Event.{Event}
use Rattle.nf_machine.specs.declared.event.Event.TheVariants as e
use Rattle.nf_machine.specs.Event.{event_of}
use Rattle.nf_machine.specs.State.{opening}
use Rattle.nf_machine.specs.Legal.{IsLegal}
use Rattle.nf_machine.specs.History.{IsHistory}
use Rattle.nf_machine.proofs.Growing.{lawful_grows}
use Rattle.nf_flight.specs.declared.ticket.Ticket.{Ticket}
use Rattle.nf_nodes.specs.Steps.{MayTake}
use Rattle.nf_flow.specs.Seen.{Seen, Allows, HasRoom, MayAdd, begun, event_in, events_of, grown, plain_of, roomy, state_of, take_of}
use Rattle.nf_flow.specs.Questions.{IsFlying}
use Rattle.nf_steps.specs.Run.{IsRun}

-- the event is legal next
abbrev pub Legal : Rules → Seen → Event → Type 0
Legal R z x = IsLegal (plain_of z) R (state_of z) (event_in z x)

pub may : {R : Rules} {z : Seen} (x : Event) → IsRun R z → Legal R z x → MayAdd z x
may {R} x run l = record { rules = R; allows = record { rules = run.rules; lawful = run.lawful; legal = l } }

pub enters : {R : Rules} {z : Seen} (x : Event) (u : Seen) → IsRun R z → Legal R z x → u ≡ grown z x → IsRun R u
enters {R} {z} x u run l is = subst (IsRun R) (sym is) (record {
  rules = run.rules;
  lawful = subst (IsHistory (plain_of z) R) (sym (map_push (event_of (plain_of z)) z.history x)) ((lawful_grows (plain_of z) R (opening (plain_of z)) (events_of z) (event_in z x)).1 (run.lawful, l));
})

pub begins : {R : Rules} (graph : List Node) (z : Seen) → IsRules R → z ≡ begun graph → IsRun R z
begins {R} graph z rules is = subst (IsRun R) (sym is) (record { rules = rules; lawful = tt })

-- ---- with room for an event: m is the run z with room

pub same_run : {R : Rules} {z : Seen} (m : Seen) → IsRun R z → m ≡ z → IsRun R m
same_run {R} m run is = subst (IsRun R) (sym is) run

pub same_flies : {z : Seen} {t : Ticket} (m : Seen) → IsFlying z t → m ≡ z → IsFlying m t
same_flies {z} {t} m f is = subst (λ y. IsFlying y t) (sym is) f

pub room_flies : {z : Seen} {t : Ticket} (m : Seen) → IsFlying z t → m ≡ roomy z → IsFlying m t
room_flies {z} {t} m f is = subst (λ y. IsFlying y t) (sym is) (record { ticket = f.ticket; there = f.there; is = f.is })

pub has_room : (z m : Seen) → m ≡ roomy z → HasRoom m
has_room z m is = subst HasRoom (sym is) (omega arith)

pub may_room : {R : Rules} {z : Seen} (x : Event) (m : Seen) → IsRun R z → Legal R z x → m ≡ roomy z → MayAdd m x
may_room {R} x m run l is = subst (λ y. MayAdd y x) (sym is) (record { rules = R; allows = record { rules = run.rules; lawful = run.lawful; legal = l } })

pub allows_room : {R : Rules} {z : Seen} (x : Event) (m : Seen) → IsRun R z → Legal R z x → m ≡ roomy z → Allows R m x
allows_room {R} x m run l is = subst (λ y. Allows R y x) (sym is) (record { rules = run.rules; lawful = run.lawful; legal = l })

pub grown_room : (z m u : Seen) (x : Event) → m ≡ roomy z → u ≡ grown m x → u ≡ grown z x
grown_room z m u x is new = new ∙ ap (λ y. grown y x) is

-- whether a run goes on
pub not_stopped : {A : Type 0} (o : Option A) → is_some o ≡ false → o ≡ None
not_stopped None h = refl
not_stopped (Some x) h = absurd (true≢false h)

pub none_of : {A : Type 0} (o : Option A) → is_some o ≡ false → is_none o ≡ true
none_of None h = refl
none_of (Some x) h = absurd (true≢false h)

pub goes_on : (z m : Seen) → m ≡ z → (state_of z).stop ≡ None → is_none (state_of m).stop ≡ true
goes_on z m is on = ap (λ y. is_none (state_of y).stop) is ∙ ap is_none on

-- ---- what a call answered

pub on_ok : {A E : Type 0} {P Q : Type 0} (r : Result A E) → (P → Q) → OnOk r P → OnOk r Q
on_ok (Ok x) f p = f p
on_ok (Err x) f p = tt

pub on_err : {A E : Type 0} {P Q : Type 0} (r : Result A E) → (P → Q) → OnErr r P → OnErr r Q
on_err (Ok x) f p = tt
on_err (Err x) f p = f p

-- the event was entered, or for want of memory another one
pub entered : {A E : Type 0} {R : Rules} {z : Seen} (r : Result A E) (x y : Event) (m u : Seen) → IsRun R z → Legal R z x → Legal R z y → m ≡ roomy z → OnOk r (u ≡ grown m x) → OnErr r (u ≡ grown m y) → IsRun R u
entered {z = z} (Ok v) x y m u run l k room ok err = enters x u run l (grown_room z m u x room ok)
entered {z = z} (Err v) x y m u run l k room ok err = enters y u run k (grown_room z m u y room err)

-- the same of a Take, which counts in the state that has room
pub took : (z m u : Seen) (i p k : ℕ) → m ≡ roomy z → u ≡ grown m (take_of m i p k) → u ≡ grown z (take_of z i p k)
took z m u i p k is new = new ∙ ap (λ y. grown y (take_of y i p k)) is

pub entered_take : {A E : Type 0} {R : Rules} {z : Seen} (r : Result A E) (i p k : ℕ) (m u : Seen) → IsRun R z → MayTake z.graph (state_of z) i p k → m ≡ roomy z → OnOk r (u ≡ grown m (take_of m i p k))
    → OnErr r (u ≡ grown m e.Halt) → IsRun R u
entered_take {z = z} (Ok v) i p k m u run may room ok err = enters (take_of z i p k) u run may (took z m u i p k room ok)
entered_take {z = z} (Err v) i p k m u run may room ok err = enters e.Halt u run may.running (grown_room z m u e.Halt room err)

pub begins_if : {E : Type 0} {R : Rules} (graph : List Node) (r : Result Seen E) → IsRules R → IfOk r (λ z. z ≡ begun graph) → IfOk r (IsRun R)
begins_if graph (Ok z) rules is = begins graph z rules is
begins_if graph (Err x) rules is = tt
