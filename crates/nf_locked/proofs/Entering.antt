-- What each call made of the run is told of the run as callers see it.
use Rattle.std.proofs.Common.{◌≡◌, ℕ, Bool, true, false, refl, ap, sym, ◌∙◌, subst, ◌⊎◌, inl, inr}
use Rattle.std.specs.Prelude.{Option, Some, None, Result, Ok, Err, OnOk, OnErr, is_some}
use Rattle.nf_job.specs.declared.parts.JobParts.{JobParts}
use Rattle.nf_job.specs.declared.report.Report.{Report}
use Rattle.nf_graph.specs.Rules.{Outs}
use Rattle.nf_machine.specs.declared.event.Cause.{Cause}
use Rattle.nf_machine.specs.declared.event.Event.{Event}
use Rattle.nf_machine.specs.declared.event.Event.TheVariants as e
use Rattle.nf_machine.specs.declared.event.Move.{Move}
use Rattle.nf_machine.specs.declared.event.Move.TheVariants as m
use Rattle.nf_machine.specs.declared.stop.Stop.{Stop}
use Rattle.nf_flow.specs.Ready.{IsReady}
use Rattle.nf_flight.specs.declared.ticket.Ticket.{Ticket}
use Rattle.nf_flight.specs.Ticket.{next_attempt, number_of}
use Rattle.nf_flow.specs.Seen.{Seen, grown, lost, state_of, take_of}
use Rattle.nf_flow.specs.Questions.{IsFlying}
use Rattle.nf_core.specs.declared.next.Next.{Next}
use Rattle.nf_core.specs.declared.next.Next.TheVariants.{Run, Look, Over}
use Rattle.nf_core.specs.Calls.{Ends, EndsOrUp, GivesUp, IsNext, Starts}
use Rattle.nf_core.specs.Opening.{Opening}
use Rattle.nf_locked.specs.declared.work.Work.{Work}
use Rattle.nf_locked.specs.declared.work.Work.TheVariants as w
use Rattle.nf_locked.specs.declared.work.Begun.TheVariants as b
use Rattle.nf_locked.specs.Leaves.{IsOn}
use Rattle.nf_locked.specs.Entered.{Begins, Drops, EndsOrDrops, EntersOrDrops, Halts, IsTakenBy, Makes, MakesIfAny, MakesMove, MakesTake, Steps, TellsReady}

-- ---- the ticket wasn't found

-- z is the run, and y what callers see of it
module _ (z y f : Seen) (viewed : z ≡ y) where
  pub halted : Halts z f → Halts y f
  halted h = subst (λ v. Halts v f) viewed h

  pub not_found : (t : Ticket) → Halts z f → Drops y t f
  not_found t h = inr (halted h)

  pub not_entered : (t : Ticket) (x : Event) → Halts z f → EntersOrDrops y t x f
  not_entered t x h = inr (not_found t h)

  pub not_ended : (t : Ticket) (x : Event) (outs : Outs) → Halts z f → EndsOrDrops y t x outs false f
  not_ended t x outs h = inr (not_found t h)

-- ---- it was found: t is the ticket, and u its copy

module _ (z y f : Seen) (viewed : z ≡ y) (t u : Ticket) (same : t ≡ u) where
  carried : (P : Seen → Ticket → Type 0) → P z t → P y u
  carried P h = subst (P y) same (subst (λ v. P v t) viewed h)

  pub given_up : (cause : Option Stop) → f ≡ grown z (e.Abort (number_of t) cause) → f ≡ grown y (e.Abort (number_of u) cause)
  given_up cause is = carried (λ v k. f ≡ grown v (e.Abort (number_of k) cause)) is

  pub entered : (x : ℕ → Event) → (f ≡ grown z (x (number_of t))) ⊎ GivesUp z t f → EntersOrDrops y u (x (number_of u)) f
  entered x h = carried (λ v k. EntersOrDrops v k (x (number_of k)) f) (by_side h) where
    by_side : (f ≡ grown z (x (number_of t))) ⊎ GivesUp z t f → EntersOrDrops z t (x (number_of t)) f
    by_side (inl is) = inl is
    by_side (inr up) = inr (inl up)

  pub ended : (x : ℕ → Event) (outs : Outs) (back : Option Ticket) → back ≡ None → EndsOrUp z t (x (number_of t)) outs back f → EndsOrDrops y u (x (number_of u)) outs false f
  ended x outs back none h =
      carried (λ v k. EndsOrDrops v k (x (number_of k)) outs false f) (by_side (subst (λ o. EndsOrUp z t (x (number_of t)) outs o f) none h)) where
        by_side : EndsOrUp z t (x (number_of t)) outs None f → EndsOrDrops z t (x (number_of t)) outs false f
        by_side (inl ends) = inl ends
        by_side (inr up) = inr (inl up)

  pub ended_again : (x : ℕ → Event) (outs : Outs) (back : Option Ticket) (v : Ticket) → back ≡ Some v → EndsOrUp z t (x (number_of t)) outs back f
      → EndsOrDrops y u (x (number_of u)) outs true f
  ended_again x outs back v some h =
      let ends : Ends z t (x (number_of t)) outs (Some v) f = subst (λ o. EndsOrUp z t (x (number_of t)) outs o f) some h in
      let next : Ends z t (x (number_of t)) outs (Some (next_attempt t)) f = subst (λ k. Ends z t (x (number_of t)) outs (Some k) f) ends.again.1 ends in
      carried (λ q k. EndsOrDrops q k (x (number_of k)) outs true f) next

  -- ---- how an attempt begins

  pub begun_run : (F : Opening) (job : JobParts) (v : Ticket) (next : Next) → next ≡ Run v → IsNext F job z t next f → Begins y u b.Run f
  begun_run F job v next at h =
      let starts : IsNext F job z t (Run v) f = subst (λ n. IsNext F job z t n f) at h in
      carried (λ q k. Begins q k b.Run f) starts.1

  pub begun_look : (F : Opening) (job : JobParts) (v : Ticket) (r : Report) (next : Next) → next ≡ Look v r → IsNext F job z t next f → Begins y u (b.Look r) f
  begun_look F job v r next at h =
      let looks : IsNext F job z t (Look v r) f = subst (λ n. IsNext F job z t n f) at h in
      carried (λ q k. Begins q k (b.Look r) f) (looks.3, looks.2)

  pub begun_over : (F : Opening) (job : JobParts) (next : Next) → next ≡ Over → IsNext F job z t next f → Begins y u b.Over f
  begun_over F job next at h =
      let up : GivesUp z t f = subst (λ n. IsNext F job z t n f) at h in
      carried (λ q k. Begins q k b.Over f) (inl up)

  pub started : (cause : Cause) (back : Option Ticket) (v : Ticket) → back ≡ Some v → Starts z t cause back f → f ≡ grown y (e.Start (number_of u) cause)
  started cause back v some h =
      let starts : Starts z t cause (Some v) f = subst (λ o. Starts z t cause o f) some h in
      carried (λ q k. f ≡ grown q (e.Start (number_of k) cause)) starts.1

  pub not_started : (cause : Cause) (back : Option Ticket) → back ≡ None → Starts z t cause back f → Drops y u f
  not_started cause back none h =
      let up : GivesUp z t f = subst (λ o. Starts z t cause o f) none h in
      carried (λ q k. Drops q k f) (inl up)

-- ---- moves

pub moved : {A E : Type 0} (z f : Seen) (x : Event) (r : Result A E) → OnOk r (f ≡ grown z x) → OnErr r (f ≡ grown z e.Halt) → MakesMove z x w.Moved f
moved z f x (Ok v) ok err = inl ok
moved z f x (Err v) ok err = inr err

module _ (z y f : Seen) (viewed : z ≡ y) (node port place : ℕ) where
  at_view : (work : Work) → MakesTake z (take_of z node port place) work f → MakesTake y (take_of y node port place) work f
  at_view work h = subst (λ v. MakesTake v (take_of v node port place) work f) viewed h

  pub nothing_taken : Halts z f → MakesTake y (take_of y node port place) w.Nothing f
  nothing_taken h = at_view w.Nothing (inl h)

  -- it was given up at once
  pub taken_in_vain : (g : Seen) (t : Ticket) → g ≡ grown z (take_of z node port place) → number_of t ≡ (state_of z).next → f ≡ grown g (lost (number_of t))
      → MakesTake y (take_of y node port place) w.Nothing f
  taken_in_vain g t is number up =
      at_view w.Nothing (inr (up ∙ (ap (λ (v : Seen). grown v (lost (number_of t))) is ∙ ap (λ n. grown (grown z (take_of z node port place)) (lost n)) number)))

  pub taken : (t u : Ticket) (work : Work) → u ≡ t → IsOn u work → f ≡ grown z (take_of z node port place) → number_of t ≡ (state_of z).next → IsFlying f t
      → MakesTake y (take_of y node port place) work f
  taken t u work copy on is number flies = at_view work (by_work work on) where
    takes : (v : Ticket) → v ≡ u → IsTakenBy z (take_of z node port place) v f
    takes v at = subst (λ k. IsTakenBy z (take_of z node port place) k f) (sym (at ∙ copy)) (record { is = is; number = number; flying = flies })

    by_work : (left : Work) → IsOn u left → MakesTake z (take_of z node port place) left f
    by_work (w.Item v) at = takes v at
    by_work (w.Task v) at = takes v at
    by_work w.Moved at = absurd at
    by_work w.Nothing at = absurd at

-- the move at hand was made
pub made_pass : (z f : Seen) (next : Move) (port : ℕ) (work : Work) → next ≡ m.Pass port → MakesMove z (e.Pass port) work f → Makes z next work f
made_pass z f next port work at h = subst (λ n. Makes z n work f) (sym at) h

pub made_close : (z f : Seen) (next : Move) (node : ℕ) (work : Work) → next ≡ m.Close node → MakesMove z (e.Close node) work f → Makes z next work f
made_close z f next node work at h = subst (λ n. Makes z n work f) (sym at) h

pub made_take : (z f : Seen) (next : Move) (node port place : ℕ) (work : Work) → next ≡ m.Take node port place → MakesTake z (take_of z node port place) work f → Makes z next work f
made_take z f next node port place work at h = subst (λ n. Makes z n work f) (sym at) h

-- P is what the flow, a view of z, says of the move that it offers
module _ (P : Seen → Option Move → Type 0) (z g f : Seen) (r : Option Move) (flow : g ≡ z) (offered : P g r) where
  pub stepped : (next : Move) (work : Work) → r ≡ Some next → Makes z next work f → Steps (P z) z work f
  stepped next work at made = record {
    next = r;
    allowed = subst (λ v. P v r) flow offered;
    made = subst (λ o. MakesIfAny z o work f) (sym at) made;
  }

  pub no_step : r ≡ None → f ≡ z → Steps (P z) z w.Nothing f
  no_step at same = record {
    next = r;
    allowed = subst (λ v. P v r) flow offered;
    made = subst (λ o. MakesIfAny z o w.Nothing f) (sym at) (refl, same);
  }

pub tells_ready : (z g : Seen) (r : Option Move) (answer : Bool) → g ≡ z → IsReady g.graph (state_of g) r → answer ≡ is_some r → TellsReady z answer
tells_ready z g r answer flow ready is = (r, subst (λ (v : Seen). IsReady v.graph (state_of v) r) flow ready, is)
