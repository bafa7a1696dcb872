-- Attempts that started, and what they write.
use Rattle.std.proofs.Common.{◌≡◌, ℕ, ◌+◌, List, [], ◌∷◌, ◌++◌, Bool, true, false, cond, nat_lt, refl, sym, subst}
use Rattle.std.specs.Prelude.{Option, Some, None, MatchOption, Result, Ok, Err}
use Rattle.std.specs.List.{AllByRecursion}
use Rattle.nf_value.specs.Plain.{Plain}
use Rattle.nf_value.specs.declared.fault.EvalFault.{EvalFault}
use Rattle.nf_opstream.specs.Push.{Push}
use Rattle.nf_job.specs.declared.parts.JobParts.{JobParts}
use Rattle.nf_job.specs.declared.report.Report.{Report}
use Rattle.nf_job.specs.declared.emitted.Outputs.TheVariants.{Emits, Ignored, Failed, Again}
use Rattle.nf_graph.specs.Node.{PlainNode, node_at}
use Rattle.nf_graph.specs.Rules.{Outs}
use Rattle.nf_graph.specs.Meaning.{cost}
use Rattle.nf_machine.specs.Event.{PlainEvent, PlainStop, pass, taking, give, start, finish, reuse, close, abort, halt}
use Rattle.nf_machine.specs.State.{Ticket, State}
use Rattle.nf_machine.specs.Step.{step, limit, or_stop, ticket_at, without, with_ticket, at_ticket, do_pass, do_give, do_finish, do_close, take_at, give_push, next_item, op_ends, Given}
use Rattle.nf_machine.specs.Legal.{IsLegal, FinishIsLegal}
use Rattle.nf_machine.specs.History.{IsLawful}
use Rattle.nf_machine.proofs.Tickets.{found_each, without_each, each_with}
use Rattle.nf_stored.specs.Attempts.{IsJobOf, job_of}
use Rattle.nf_core.specs.Opening.{Opening}
use Rattle.nf_core.specs.Told.{told_from, attempt_at}
use Rattle.nf_core.specs.Records.{Write, puts, spoils, puts_of, spoils_of, is_recorded, writes_by, finish_writes, abort_writes}
use Rattle.nf_core.specs.Causes.{HasJobWith}
use Rattle.nf_core.proofs.Orderly.{all_more}

-- the ticket's attempt has a job with P, if it started
abbrev pub StartedWith : Opening → (JobParts → Type 0) → Ticket → Type 0
StartedWith F P k = k.started ≡ true → (job : JobParts) × IsJobOf F.rules (attempt_at k) job × P job

-- each start of these events has such a job
abbrev pub StartHas : Opening → (JobParts → Type 0) → State → PlainEvent → Type 0
StartHas F P s (start t c) = HasJobWith F s t P
StartHas F P s _ = Unit {0}

abbrev pub StartsHave : Opening → (JobParts → Type 0) → List PlainNode → State → List PlainEvent → Type 0
StartsHave F P g s [] = Unit {0}
StartsHave F P g s (e ∷ h) = StartHas F P s e × StartsHave F P g (step g s e) h

-- each of these writes is of such a job
abbrev pub WritesWith : (JobParts → Type 0) → Write → Type 0
WritesWith P (puts job r) = P job
WritesWith P (spoils job) = P job

module _ (F : Opening) (P : JobParts → Type 0) where
  left : (t : ℕ) (ts : List Ticket) → AllByRecursion (StartedWith F P) ts → AllByRecursion (StartedWith F P) (without t ts)
  left t ts h = without_each (StartedWith F P) t ts h

  back : (t : ℕ) (k : Ticket) (ts : List Ticket) → StartedWith F P k → AllByRecursion (StartedWith F P) ts → AllByRecursion (StartedWith F P) (with_ticket k (without t ts))
  back t k ts own h = each_with (StartedWith F P) (without t ts) k (left t ts h) own

  passed : (b : Bool) (s u v : State) → u.tickets ≡ s.tickets → v.tickets ≡ s.tickets → (cond b u v).tickets ≡ s.tickets
  passed true s u v e f = e
  passed false s u v e f = f

  pass_tickets : (s : State) (i k : ℕ) (x : Plain) → (do_pass s i k x).tickets ≡ s.tickets
  pass_tickets s i k x = passed (nat_lt limit (s.charge + cost x)) s _ _ refl refl

  closed : (s : State) (i : ℕ) (r : Given) → (do_close s i r).tickets ≡ s.tickets
  closed s i (Ok es) = refl
  closed s i (Err f) = refl

  pushed : (s : State) (i : ℕ) (x : Push) (r : Given) → (give_push s i x r).tickets ≡ s.tickets
  pushed s i x (Ok es) = refl
  pushed s i x (Err f) = refl

  gave : (g : List PlainNode) (s : State) (t : ℕ) (a : Result Plain EvalFault) → AllByRecursion (StartedWith F P) s.tickets
      → AllByRecursion (StartedWith F P) (at_ticket s t (ticket_at t s.tickets) (λ s' k. do_give g s' k a)).tickets
  gave g s t a h = by_ticket (ticket_at t s.tickets) a where
    by_ticket : (o : Option Ticket) (a : Result Plain EvalFault) → AllByRecursion (StartedWith F P) (at_ticket s t o (λ s' k. do_give g s' k a)).tickets
    by_ticket None a = h
    by_ticket (Some k) (Ok a) = subst (AllByRecursion (StartedWith F P)) (sym (pushed (record s { tickets = without t s.tickets }) k.node _ _)) (left t s.tickets h)
    by_ticket (Some k) (Err f) = left t s.tickets h

  idle : (k : Ticket) (told : List Report) → StartedWith F P (record k { told = told; started = false })
  idle k told = λ e. absurd (cc)

  ended : (s : State) (t : ℕ) (r : Report) (outs : Outs) → AllByRecursion (StartedWith F P) s.tickets
      → AllByRecursion (StartedWith F P) (at_ticket s t (ticket_at t s.tickets) (λ s' k. do_finish s' k r outs)).tickets
  ended s t r outs h = by_ticket (ticket_at t s.tickets) outs where
    by_ticket : (o : Option Ticket) (outs : Outs) → AllByRecursion (StartedWith F P) (at_ticket s t o (λ s' k. do_finish s' k r outs)).tickets
    by_ticket None outs = h
    by_ticket (Some k) (Ok Again) = back t (record k { told = k.told ++ r ∷ []; started = false }) s.tickets (idle k (k.told ++ r ∷ [])) h
    by_ticket (Some k) (Ok (Emits vs)) = left t s.tickets h
    by_ticket (Some k) (Ok Ignored) = left t s.tickets h
    by_ticket (Some k) (Ok (Failed f)) = left t s.tickets h
    by_ticket (Some k) (Err f) = left t s.tickets h

  began : (g : List PlainNode) (s : State) (t : ℕ) (o : Option Ticket) → MatchOption o ⊥ (λ k. (job : JobParts) × IsJobOf F.rules (attempt_at k) job × P job)
      → AllByRecursion (StartedWith F P) s.tickets → AllByRecursion (StartedWith F P) (at_ticket s t o (λ s' k. record s' { tickets = with_ticket (record k { started = true }) s'.tickets })).tickets
  began g s t None w h = h
  began g s t (Some k) w h = back t (record k { started = true }) s.tickets (λ e. w) h

  aborted : (s : State) (t : ℕ) (c : Option PlainStop) (o : Option Ticket) → AllByRecursion (StartedWith F P) s.tickets
      → AllByRecursion (StartedWith F P) (at_ticket s t o (λ s' k. record s' { gone = k ∷ s'.gone; stop = or_stop s'.stop c })).tickets
  aborted s t c None h = h
  aborted s t c (Some k) h = left t s.tickets h

  -- it stays so with each event
  pub started_step : (g : List PlainNode) (s : State) (e : PlainEvent) → StartHas F P s e → AllByRecursion (StartedWith F P) s.tickets → AllByRecursion (StartedWith F P) (step g s e).tickets
  started_step g s (pass i k) w h = subst (AllByRecursion (StartedWith F P)) (sym (pass_tickets s i k (next_item g s i k))) h
  started_step g s (taking i port place t n) w h =
      each_with (StartedWith F P) s.tickets (record { number = s.next; node = i; take = take_at g s i port place; told = []; started = false }) h (λ e. absurd (cc))
  started_step g s (give t a) w h = gave g s t a h
  started_step g s (start t c) w h = began g s t (ticket_at t s.tickets) w h
  started_step g s (finish t r outs) w h = ended s t r outs h
  started_step g s (reuse t r outs) w h = ended s t r outs h
  started_step g s (close i) w h = subst (AllByRecursion (StartedWith F P)) (sym (closed s i (op_ends (node_at g i).kind (s.spots i).pushed))) h
  started_step g s (abort t c) w h = aborted s t c (ticket_at t s.tickets) h
  started_step g s halt w h = h

  put_with : (b : Bool) (k : Ticket) (r : Report) → (job : JobParts) × IsJobOf F.rules (attempt_at k) job × P job → AllByRecursion (WritesWith P) (puts_of b (job_of F.rules (attempt_at k)) r)
  put_with true k r w = rw w.1.job (w.2, tt)
  put_with false k r w = tt

  spoil_with : (b : Bool) (k : Ticket) → k.started ≡ b → StartedWith F P k → AllByRecursion (WritesWith P) (spoils_of b (job_of F.rules (attempt_at k)))
  spoil_with true k e w = let x = w e in rw x.1.job (x.2, tt)
  spoil_with false k e w = tt

  -- an event writes of such a job alone
  writes_here : (g : List PlainNode) (s : State) (e : PlainEvent) → IsLegal g F.rules s e → AllByRecursion (StartedWith F P) s.tickets → AllByRecursion (WritesWith P) (writes_by F.rules s e)
  writes_here g s (pass i k) l h = tt
  writes_here g s (taking i port place t n) l h = tt
  writes_here g s (give t a) l h = tt
  writes_here g s (start t c) l h = tt
  writes_here g s (reuse t r outs) l h = tt
  writes_here g s (close i) l h = tt
  writes_here g s halt l h = tt
  writes_here g s (finish t r outs) l h = by_ticket (ticket_at t s.tickets) refl l where
    by_ticket : (o : Option Ticket) → ticket_at t s.tickets ≡ o → MatchOption o ⊥ (λ k. FinishIsLegal g F.rules k r outs) → AllByRecursion (WritesWith P) (finish_writes F.rules o r outs)
    by_ticket None there l = absurd l
    by_ticket (Some k) there l = put_with (is_recorded outs) k r (found_each (StartedWith F P) t s.tickets k there h l.started)
  writes_here g s (abort t c) l h = by_ticket (ticket_at t s.tickets) refl where
    by_ticket : (o : Option Ticket) → ticket_at t s.tickets ≡ o → AllByRecursion (WritesWith P) (abort_writes F.rules o)
    by_ticket None there = tt
    by_ticket (Some k) there = spoil_with k.started k refl (found_each (StartedWith F P) t s.tickets k there h)

  -- and so do all events of a history
  pub each_write : (g : List PlainNode) (s : State) (h : List PlainEvent) → IsLawful g F.rules s h → StartsHave F P g s h → AllByRecursion (StartedWith F P) s.tickets
      → AllByRecursion (WritesWith P) (told_from (writes_by F.rules) g s h)
  each_write g s [] l w k = tt
  each_write g s (e ∷ h) l w k =
      all_more (WritesWith P) (writes_by F.rules s e) (told_from (writes_by F.rules) g (step g s e) h) (writes_here g s e l.0 k) (each_write g (step g s e) h l.1 w.1 (started_step g s e w.0 k))
