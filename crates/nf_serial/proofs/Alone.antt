-- A run with one ticket at most in flight.
use Rattle.std.proofs.Common.{◌≡◌, ◌≢◌, ℕ, List, [], ◌∷◌, ◌++◌, true, false, refl, ap, ◌∙◌, arith}
use Rattle.std.specs.Prelude.{Option, Some, ◌==◌, Result, Ok, Err}
use Rattle.std.proofs.lemmas.Bool.Decides.{nat_tests}
use Rattle.nf_value.specs.Plain.{Plain}
use Rattle.nf_value.specs.declared.fault.EvalFault.{EvalFault}
use Rattle.nf_job.specs.declared.report.Report.{Report}
use Rattle.nf_job.specs.declared.emitted.Outputs.TheVariants.{Emits, Ignored, Failed, Again}
use Rattle.nf_graph.specs.Node.{PlainNode}
use Rattle.nf_graph.specs.Rules.{Outs}
use Rattle.nf_machine.specs.declared.event.Cause.{Cause}
use Rattle.nf_machine.specs.Event.{PlainStop, give, start, finish, reuse, abort}
use Rattle.nf_machine.specs.State.{Ticket, State}
use Rattle.nf_machine.specs.Step.{step, ticket_at, without, do_give, do_finish, give_push, Given}
use Rattle.nf_opstream.specs.Push.{Push}

-- the one ticket is found by its number, and nothing is left without it
pub here : (k : Ticket) (ts : List Ticket) (t : ℕ) → ts ≡ k ∷ [] → t ≡ k.number → ticket_at t ts ≡ Some k
here k ts t alone is = let e : (k.number == t) ≡ true = grind (arith, nat_tests, is) in rw alone (rw e refl)

pub gone : (k : Ticket) (ts : List Ticket) (t : ℕ) → ts ≡ k ∷ [] → t ≡ k.number → without t ts ≡ []
gone k ts t alone is = let e : (k.number == t) ≡ true = grind (arith, nat_tests, is) in rw alone (rw e refl)

module _ (g : List PlainNode) (s : State) (t : ℕ) (k : Ticket) (alone : s.tickets ≡ k ∷ []) (is : t ≡ k.number) where
  there : ticket_at t s.tickets ≡ Some k
  there = here k s.tickets t alone is

  left : without t s.tickets ≡ []
  left = gone k s.tickets t alone is

  pub abort_idle : (c : Option PlainStop) → (step g s (abort t c)).tickets ≡ []
  abort_idle c = rw there left

  gave : (x : Push) (r : Given) → (give_push (record s { tickets = without t s.tickets }) k.node x r).tickets ≡ without t s.tickets
  gave x (Ok es) = refl
  gave x (Err f) = refl

  given : (a : Result Plain EvalFault) → (do_give g (record s { tickets = without t s.tickets }) k a).tickets ≡ without t s.tickets
  given (Ok a) = gave _ _
  given (Err f) = refl

  pub give_idle : (a : Result Plain EvalFault) → (step g s (give t a)).tickets ≡ []
  give_idle a = rw there (given a ∙ left)

  pub start_alone : (c : Cause) → (step g s (start t c)).tickets ≡ record k { started = true } ∷ []
  start_alone c = rw there (ap (λ ts. ts ++ record k { started = true } ∷ []) left)

  ended : (r : Report) (outs : Outs) → outs ≢ Ok Again → (do_finish (record s { tickets = without t s.tickets }) k r outs).tickets ≡ without t s.tickets
  ended r (Ok Again) off = absurd (off refl)
  ended r (Ok (Emits vs)) off = refl
  ended r (Ok Ignored) off = refl
  ended r (Ok (Failed f)) off = refl
  ended r (Err f) off = refl

  pub finish_idle : (r : Report) (outs : Outs) → outs ≢ Ok Again → (step g s (finish t r outs)).tickets ≡ []
  finish_idle r outs off = rw there (ended r outs off ∙ left)

  pub reuse_idle : (r : Report) (outs : Outs) → outs ≢ Ok Again → (step g s (reuse t r outs)).tickets ≡ []
  reuse_idle r outs off = rw there (ended r outs off ∙ left)

  pub finish_alone : (r : Report) (outs : Outs) → outs ≡ Ok Again → (step g s (finish t r outs)).tickets ≡ record k { told = k.told ++ r ∷ []; started = false } ∷ []
  finish_alone r outs again = rw (again, there) (ap (λ ts. ts ++ record k { told = k.told ++ r ∷ []; started = false } ∷ []) left)

  pub reuse_alone : (r : Report) (outs : Outs) → outs ≡ Ok Again → (step g s (reuse t r outs)).tickets ≡ record k { told = k.told ++ r ∷ []; started = false } ∷ []
  reuse_alone r outs again = rw (again, there) (ap (λ ts. ts ++ record k { told = k.told ++ r ∷ []; started = false } ∷ []) left)
