-- The tickets that a case holds, after each kind of step.
use Rattle.std.proofs.Common.{◌≡◌, ◌≢◌, ℕ, suc, ◌<◌, List, [], ◌∷◌, ◌++◌, length, get_or, set, refl, ap, sym, ◌∙◌, subst, arith, inl, inr}
use Rattle.std.specs.Prelude.{Option, Some, None, IfSome}
use Rattle.std.proofs.lemmas.Bool.{cases_eq, cases_lt}
use Rattle.std.proofs.lemmas.List.{get_or_append_left, get_or_past, get_or-set_same, get_or-set_other, length-append, length-set}
use Rattle.std.proofs.Math.Seq.{get_or-append_seam}
use Rattle.nf_graph.specs.Rules.{Rules}
use Rattle.nf_machine.specs.declared.event.Event.TheVariants as ev
use Rattle.nf_machine.specs.declared.event.Cause.{Cause}
use Rattle.nf_machine.specs.declared.event.Move.{Move}
use Rattle.nf_machine.specs.declared.event.Move.TheVariants as mv
use Rattle.nf_flight.specs.declared.ticket.Ticket.{Ticket}
use Rattle.nf_flight.specs.Ticket.{number_of}
use Rattle.nf_flow.specs.Seen.{Seen, grown}
use Rattle.nf_flow.specs.Questions.{IsFlying}
use Rattle.nf_steps.specs.Run.{IsRun, Stay, ticket_of}
use Rattle.nf_steps.specs.Steps.{Ends, IsAbout, Starts, event_by, up_cause}
use Rattle.nf_steps.proofs.Staying.{others_stay}
use Rattle.cases_schedules.specs.Held.{AreHeld, IsSound}
use Rattle.cases_schedules.specs.declared.machine.Machine.{Machine}

-- a place at which a ticket is found is one of the list
within : (ts : List (Option Ticket)) (place : ℕ) (t : Ticket) → get_or ts place None ≡ Some t → place < length ts
within ts place t at = elim (cases_lt place (length ts)) [
  | inl l ↦ l
  | inr b ↦ absurd (let none : None ≡ Some t = sym (get_or_past ts place None b) ∙ at in cc)
]

-- no ticket left
held_stay : (z u : Seen) (ts : List (Option Ticket)) → AreHeld z ts → Stay z None u → AreHeld u ts
held_stay z u ts h stay place t at = let k = h place t at in record { number = k.number; flying = stay t k.flying (λ x. cc) }

-- a ticket more
held_more : (z : Seen) (ts : List (Option Ticket)) (t : Ticket) → AreHeld z ts → number_of t ≡ suc (length ts) → IsFlying z t → AreHeld z (ts ++ Some t ∷ [])
held_more z ts t h number flying place u at = elim (cases_lt place (length ts)) [
  | inl l ↦ h place u (sym (get_or_append_left ts (Some t ∷ []) None place l) ∙ at)
  | inr b ↦ elim (cases_eq place (length ts)) [
    | inl same ↦ (
        let here : Some t ≡ Some u = sym (get_or-append_seam ts (Some t) [] None) ∙ ap (λ n. get_or (ts ++ Some t ∷ []) n None) (sym same) ∙ at in
        let is : t ≡ u = cc in
        record { number = ap number_of (sym is) ∙ number ∙ ap suc (sym same); flying = subst (IsFlying z) is flying })
    | inr other ↦ absurd (let l = within (ts ++ Some t ∷ []) place u at in let n = length-append ts (Some t ∷ []) in other (omega (arith, l, n, b)))
  ]
]

-- nothing is held at the place of a ticket that was taken out
none_there : (ts : List (Option Ticket)) (place : ℕ) (t : Ticket) → get_or (set ts place None) place None ≡ Some t → ⊥
none_there ts place t at =
    let w = within (set ts place None) place t at in let n = length-set ts place None in
    let l : place < length ts = omega (arith, w, n) in
    let none : None ≡ Some t = sym (get_or-set_same ts place None None l) ∙ at in cc

-- the ticket at a place left, and an event about it was entered
held_left : (z u : Seen) (ts : List (Option Ticket)) (place : ℕ) (t : Ticket) → AreHeld z ts → get_or ts place None ≡ Some t → IsAbout z (number_of t) u → AreHeld u (set ts place None)
held_left z u ts place t h at about q v found = elim (cases_eq q place) [
  | inl same ↦ absurd (none_there ts place v (subst (λ n. get_or (set ts place None) n None ≡ Some v) same found))
  | inr other ↦ (
      let k = h q v (sym (get_or-set_other ts place q None None other) ∙ found) in
      let n = (h place t at).number in
      let differs : ticket_of about.event ≢ Some (number_of v) = (λ x.
      let same : Some (number_of t) ≡ Some (number_of v) = sym about.about ∙ x in
      let one : number_of t ≡ number_of v = cc in let w = k.number in other (omega (arith, one, n, w))) in
      record { number = k.number; flying = subst (λ y. IsFlying y v) (sym about.is) (others_stay z about.event v k.flying differs) })
]

-- nothing comes back to a place
held_none : (u : Seen) (ts : List (Option Ticket)) (place : ℕ) → AreHeld u ts → AreHeld u (set ts place None)
held_none u ts place h q v found = elim (cases_eq q place) [
  | inl same ↦ absurd (none_there ts place v (subst (λ n. get_or (set ts place None) n None ≡ Some v) same found))
  | inr other ↦ h q v (sym (get_or-set_other ts place q None None other) ∙ found)
]

-- a ticket comes back to its place
held_back : (u : Seen) (ts : List (Option Ticket)) (place : ℕ) (back : Ticket) → AreHeld u ts → number_of back ≡ suc place → IsFlying u back → AreHeld u (set ts place (Some back))
held_back u ts place back h number flying q v found = elim (cases_eq q place) [
  | inl same ↦ (
      let here : get_or (set ts place (Some back)) place None ≡ Some v = subst (λ n. get_or (set ts place (Some back)) n None ≡ Some v) same found in
      let w = within (set ts place (Some back)) place v here in let n = length-set ts place (Some back) in
      let l : place < length ts = omega (arith, w, n) in
      let is : Some back ≡ Some v = sym (get_or-set_same ts place (Some back) None l) ∙ here in
      let one : back ≡ v = cc in
      record { number = ap number_of (sym one) ∙ number ∙ ap suc (sym same); flying = subst (IsFlying u) one flying })
  | inr other ↦ h q v (sym (get_or-set_other ts place q (Some back) None other) ∙ found)
]

-- ---- the same of a machine: o before a call, m after it

pub sound_begun : {R : Rules} (m : Machine) → IsRun R m.flow → m.tickets.items ≡ [] → IsSound R m
sound_begun m run none = record {
  run = run;
  held = λ place t at. absurd (let l = within m.tickets.items place t at in let e : length m.tickets.items ≡ 0 = ap length none in omega (arith, l, e));
}

-- a move, or a halt for want of memory
pub sound_stays : {R : Rules} (o m : Machine) → IsSound R o → IsRun R m.flow → Stay o.flow None m.flow → m.tickets.items ≡ o.tickets.items → IsSound R m
sound_stays o m h run stay is = record { run = run; held = subst (AreHeld m.flow) (sym is) (held_stay o.flow m.flow o.tickets.items h.held stay) }

-- a take, whose ticket is held
pub sound_more : {R : Rules} (o m : Machine) (t : Ticket) → IsSound R o → IsRun R m.flow → Stay o.flow None m.flow → number_of t ≡ suc (length o.tickets.items) → IsFlying m.flow t
    → m.tickets.items ≡ o.tickets.items ++ Some t ∷ [] → IsSound R m
sound_more o m t h run stay number flying is = record {
  run = run;
  held = subst (AreHeld m.flow) (sym is) (held_more m.flow o.tickets.items t (held_stay o.flow m.flow o.tickets.items h.held stay) number flying);
}

-- a ticket left
pub sound_left : {R : Rules} (o m : Machine) (place : ℕ) (t : Ticket) → IsSound R o → get_or o.tickets.items place None ≡ Some t → IsAbout o.flow (number_of t) m.flow → IsRun R m.flow
    → m.tickets.items ≡ set o.tickets.items place None → IsSound R m
sound_left o m place t h at about run is = record { run = run; held = subst (AreHeld m.flow) (sym is) (held_left o.flow m.flow o.tickets.items place t h.held at about) }

-- a ticket ended, or came back to its place
pub sound_ended : {R : Rules} (o m : Machine) (place : ℕ) (t : Ticket) → IsSound R o → get_or o.tickets.items place None ≡ Some t → (back : Option Ticket) (left : List (Option Ticket)) → Ends o.flow t back m.flow → IsRun R m.flow
    → left ≡ set o.tickets.items place None → m.tickets.items ≡ set left place back → IsSound R m
sound_ended o m place t h at None left ends run is put = record {
  run = run;
  held = subst (AreHeld m.flow) (sym (put ∙ ap (λ ts. set ts place None) is)) (held_none m.flow (set o.tickets.items place None) place (held_left o.flow m.flow o.tickets.items place t h.held at ends));
}
sound_ended o m place t h at (Some back) left ends run is put = record {
  run = run;
  held = subst (AreHeld m.flow) (sym (put ∙ ap (λ ts. set ts place (Some back)) is))
      (held_back m.flow (set o.tickets.items place None) place back (held_left o.flow m.flow o.tickets.items place t h.held at ends.0) (ends.1 ∙ (h.held place t at).number) ends.2);
}

-- an attempt started, or its ticket left
pub sound_started : {R : Rules} (o m : Machine) (place : ℕ) (t : Ticket) → IsSound R o → get_or o.tickets.items place None ≡ Some t → (cause : Cause) (back : Option Ticket) (left : List (Option Ticket)) → Starts o.flow t cause back m.flow
    → IsRun R m.flow → left ≡ set o.tickets.items place None → m.tickets.items ≡ set left place back → IsSound R m
sound_started o m place t h at cause None left starts run is put = sound_ended o m place t h at None left starts run is put
sound_started o m place t h at cause (Some back) left starts run is put =
    sound_ended o m place t h at (Some back) left (
      record { event = ev.Start (number_of t) cause; about = refl; is = starts.1 },
      ap number_of starts.0,
      subst (IsFlying m.flow) (sym starts.0) starts.2,
    ) run is put

-- ---- what a call entered

-- the event of a move is about no ticket in flight
pub moved_stay : (z u : Seen) (step : Move) → u ≡ grown z (event_by z step) → Stay z None u
moved_stay z u (mv.Pass port) is t f n = subst (λ y. IsFlying y t) (sym is) (others_stay z (event_by z (mv.Pass port)) t f n)
moved_stay z u (mv.Take node port place) is t f n = subst (λ y. IsFlying y t) (sym is) (others_stay z (event_by z (mv.Take node port place)) t f n)
moved_stay z u (mv.Close node) is t f n = subst (λ y. IsFlying y t) (sym is) (others_stay z (event_by z (mv.Close node)) t f n)

-- a ticket was given up
pub given_up : (z u : Seen) (t : Ticket) → u ≡ grown z (ev.Abort (number_of t) (up_cause z)) → IsAbout z (number_of t) u
given_up z u t is = record { event = ev.Abort (number_of t) (up_cause z); about = refl; is = is }

-- the ticket that a take gave is in flight
pub flies : (u : Seen) (o : Option Ticket) (t : Ticket) → o ≡ Some t → IfSome o (IsFlying u) → IsFlying u t
flies u o t is h = subst (λ (q : Option Ticket). IfSome q (IsFlying u)) is h
