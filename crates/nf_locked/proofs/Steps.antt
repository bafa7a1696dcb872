-- The tickets in flight after an event of one of them.
use Rattle.std.proofs.Common.{◌≡◌, ◌≢◌, ℕ, List, [], ◌∷◌, ◌++◌, true, false, refl, ap, arith, inl, inr}
use Rattle.std.specs.Prelude.{Option, Some, None, ◌==◌, Result, Ok, Err}
use Rattle.std.proofs.lemmas.Bool.{cases_Bool}
use Rattle.nf_opstream.proofs.Tally.{passes, one_if}
use Rattle.nf_value.specs.Plain.{Plain}
use Rattle.nf_value.specs.declared.fault.EvalFault.{EvalFault}
use Rattle.nf_job.specs.declared.report.Report.{Report}
use Rattle.nf_job.specs.declared.emitted.Outputs.TheVariants.{Emits, Ignored, Failed, Again}
use Rattle.nf_graph.specs.Node.{PlainNode}
use Rattle.nf_graph.specs.Rules.{Outs}
use Rattle.nf_machine.specs.declared.event.Cause.{Cause}
use Rattle.nf_machine.specs.Event.{PlainStop, give, start, finish, reuse, abort}
use Rattle.nf_machine.specs.State.{Ticket, State}
use Rattle.nf_machine.specs.Step.{step, ticket_at, without, with_ticket, do_give, do_finish, give_push, Given}
use Rattle.nf_opstream.specs.Push.{Push}

module _ (g : List PlainNode) (s : State) (t : ℕ) (k : Ticket) (there : ticket_at t s.tickets ≡ Some k) where
  pub abort_left : (c : Option PlainStop) → (step g s (abort t c)).tickets ≡ without t s.tickets
  abort_left c = rw there refl

  gave : (x : Push) (r : Given) → (give_push (record s { tickets = without t s.tickets }) k.node x r).tickets ≡ without t s.tickets
  gave x (Ok es) = refl
  gave x (Err f) = refl

  given : (a : Result Plain EvalFault) → (do_give g (record s { tickets = without t s.tickets }) k a).tickets ≡ without t s.tickets
  given (Ok a) = gave _ _
  given (Err f) = refl

  pub give_left : (a : Result Plain EvalFault) → (step g s (give t a)).tickets ≡ without t s.tickets
  give_left a = rw there (given a)

  pub start_with : (c : Cause) → (step g s (start t c)).tickets ≡ with_ticket (record k { started = true }) (without t s.tickets)
  start_with c = rw there refl

  ended : (r : Report) (outs : Outs) → outs ≢ Ok Again → (do_finish (record s { tickets = without t s.tickets }) k r outs).tickets ≡ without t s.tickets
  ended r (Ok Again) off = absurd (off refl)
  ended r (Ok (Emits vs)) off = refl
  ended r (Ok Ignored) off = refl
  ended r (Ok (Failed f)) off = refl
  ended r (Err f) off = refl

  pub finish_left : (r : Report) (outs : Outs) → outs ≢ Ok Again → (step g s (finish t r outs)).tickets ≡ without t s.tickets
  finish_left r outs off = rw there (ended r outs off)

  pub reuse_left : (r : Report) (outs : Outs) → outs ≢ Ok Again → (step g s (reuse t r outs)).tickets ≡ without t s.tickets
  reuse_left r outs off = rw there (ended r outs off)

  pub finish_with : (r : Report) (outs : Outs) → outs ≡ Ok Again → (step g s (finish t r outs)).tickets ≡ with_ticket (record k { told = k.told ++ r ∷ []; started = false }) (without t s.tickets)
  finish_with r outs again = rw (again, there) refl

  pub reuse_with : (r : Report) (outs : Outs) → outs ≡ Ok Again → (step g s (reuse t r outs)).tickets ≡ with_ticket (record k { told = k.told ++ r ∷ []; started = false }) (without t s.tickets)
  reuse_with r outs again = rw (again, there) refl

-- a number that isn't in flight is no ticket's
pub none_found : (t : ℕ) (ks : List Ticket) → passes (λ (k : Ticket). k.number == t) ks ≡ 0 → ticket_at t ks ≡ None
none_found t [] h = refl
none_found t (k ∷ ks) h = elim (cases_Bool (k.number == t)) [
  | inl e ↦ absurd (let f : one_if (k.number == t) ≡ 1 = ap one_if e in omega (arith, h, f))
  | inr e ↦ (let f : one_if (k.number == t) ≡ 0 = ap one_if e in rw e (none_found t ks (omega (arith, h, f))))
]
