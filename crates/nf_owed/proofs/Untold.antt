-- Only a process's ticket is told reports.
use Rattle.std.proofs.Common.{◌≡◌, ℕ, ◌+◌, List, [], ◌∷◌, ◌++◌, Bool, true, false, cond, refl}
use Rattle.std.specs.Prelude.{nat_lt, Option, Some, None, Result, Ok, Err, MatchOption}
use Rattle.std.specs.List.{AllByRecursion}
use Rattle.nf_value.specs.Plain.{Plain}
use Rattle.nf_value.specs.declared.fault.EvalFault.{EvalFault}
use Rattle.nf_job.specs.declared.report.Report.{Report}
use Rattle.nf_job.specs.declared.emitted.Outputs.TheVariants.{Emits, Ignored, Failed, Again}
use Rattle.nf_opstream.specs.Push.{Push}
use Rattle.nf_graph.specs.Rules.{Rules, Outs}
use Rattle.nf_graph.specs.Node.{PlainNode, node_at}
use Rattle.nf_graph.specs.Meaning.{cost}
use Rattle.nf_machine.specs.Event.{PlainStop, PlainEvent, pass, taking, give, start, finish, reuse, close, abort, halt}
use Rattle.nf_machine.specs.State.{Ticket, State, opening}
use Rattle.nf_machine.specs.Step.{limit, ticket_at, without, with_ticket, or_stop, do_pass, next_item, take_at, Given, op_gives, op_ends, push_with, give_push, do_give, do_finish, do_close, at_ticket, step, replay}
use Rattle.nf_machine.specs.Legal.{IsProcessKind, FinishIsLegal, ReuseIsLegal, IsLegal}
use Rattle.nf_machine.specs.History.{IsLawful, after, IsHistory}
use Rattle.nf_machine.proofs.Tickets.{each_with, found_each, without_each}

abbrev pub NoneTold : List PlainNode → Ticket → Type 0
NoneTold g k = (IsProcessKind (node_at g k.node).kind → ⊥) → k.told ≡ []

pub record Untold (g : List PlainNode) (s : State) : Type 0 where
  pub tickets : AllByRecursion (NoneTold g) s.tickets
  pub gone : AllByRecursion (NoneTold g) s.gone

module _ (g : List PlainNode) where
  -- what is done with a ticket that was in flight
  abbrev Keeps : (State → Ticket → State) → Type 0
  Keeps f = (s : State) (k : Ticket) → NoneTold g k → Untold g s → Untold g (f s k)

  ticket_untold : (s : State) (t : ℕ) (o : Option Ticket) (f : State → Ticket → State) → ticket_at t s.tickets ≡ o → Keeps f → Untold g s → Untold g (at_ticket s t o f)
  ticket_untold s t None f e keeps h = h
  ticket_untold s t (Some k) f e keeps h =
      keeps (record s { tickets = without t s.tickets }) k (found_each (NoneTold g) t s.tickets k e h.tickets)
      (record { tickets = without_each (NoneTold g) t s.tickets h.tickets; gone = h.gone })

  push_untold : (s : State) (i : ℕ) (x : Push) (r : Given) → Untold g s → Untold g (give_push s i x r)
  push_untold s i x (Ok es) h = record { tickets = h.tickets; gone = h.gone }
  push_untold s i x (Err f) h = record { tickets = h.tickets; gone = h.gone }

  give_untold : (a : Result Plain EvalFault) → Keeps (λ u k. do_give g u k a)
  give_untold (Ok v) s k none h = push_untold s k.node (push_with k.take v) (op_gives (node_at g k.node).kind (s.spots k.node).pushed (push_with k.take v)) h
  give_untold (Err f) s k none h = record { tickets = h.tickets; gone = h.gone }

  start_untold : Keeps (λ u k. record u { tickets = with_ticket (record k { started = true }) u.tickets })
  start_untold s k none h = record { tickets = each_with (NoneTold g) s.tickets (record k { started = true }) h.tickets none; gone = h.gone }

  finish_untold : (r : Report) (outs : Outs) (s : State) (k : Ticket) → IsProcessKind (node_at g k.node).kind → Untold g s → Untold g (do_finish s k r outs)
  finish_untold r (Ok (Emits vs)) s k is h = record { tickets = h.tickets; gone = h.gone }
  finish_untold r (Ok Ignored) s k is h = record { tickets = h.tickets; gone = h.gone }
  finish_untold r (Ok (Failed f)) s k is h = record { tickets = h.tickets; gone = h.gone }
  finish_untold r (Err f) s k is h = record { tickets = h.tickets; gone = h.gone }
  finish_untold r (Ok Again) s k is h = record {
    tickets = each_with (NoneTold g) s.tickets (record k { told = k.told ++ r ∷ []; started = false }) h.tickets (λ other. absurd (other is));
    gone = h.gone;
  }

  report_untold : (s : State) (t : ℕ) (r : Report) (outs : Outs) (P : Ticket → Type 0) → ((k : Ticket) → P k → IsProcessKind (node_at g k.node).kind) → (o : Option Ticket) → ticket_at t s.tickets ≡ o
      → MatchOption o ⊥ P → Untold g s → Untold g (at_ticket s t o (λ u k. do_finish u k r outs))
  report_untold s t r outs P kind None e l h = absurd l
  report_untold s t r outs P kind (Some k) e l h =
      finish_untold r outs (record s { tickets = without t s.tickets }) k (kind k l)
      (record { tickets = without_each (NoneTold g) t s.tickets h.tickets; gone = h.gone })

  abort_untold : (cause : Option PlainStop) → Keeps (λ u k. record u { gone = k ∷ u.gone; stop = or_stop u.stop cause })
  abort_untold cause s k none h = record { tickets = h.tickets; gone = (none, h.gone) }

  cond_untold : (b : Bool) (u v : State) → Untold g u → Untold g v → Untold g (cond b u v)
  cond_untold true u v x y = x
  cond_untold false u v x y = y

  pass_untold : (s : State) (i k : ℕ) (x : Plain) → Untold g s → Untold g (do_pass s i k x)
  pass_untold s i k x h =
      cond_untold (nat_lt limit (s.charge + cost x)) _ _ (record { tickets = h.tickets; gone = h.gone }) (record { tickets = h.tickets; gone = h.gone })

  close_untold : (s : State) (i : ℕ) (r : Given) → Untold g s → Untold g (do_close s i r)
  close_untold s i (Ok es) h = record { tickets = h.tickets; gone = h.gone }
  close_untold s i (Err f) h = record { tickets = h.tickets; gone = h.gone }

  step_untold : (R : Rules) (s : State) (e : PlainEvent) → IsLegal g R s e → Untold g s → Untold g (step g s e)
  step_untold R s (pass i k) l h = pass_untold s i k (next_item g s i k) h
  step_untold R s (taking i port place t n) l h = record {
    tickets = each_with (NoneTold g) s.tickets (record { number = s.next; node = i; take = take_at g s i port place; told = []; started = false }) h.tickets (λ other. refl);
    gone = h.gone;
  }
  step_untold R s (give t a) l h = ticket_untold s t (ticket_at t s.tickets) (λ u k. do_give g u k a) refl (give_untold a) h
  step_untold R s (start t cause) l h = ticket_untold s t (ticket_at t s.tickets) _ refl start_untold h
  step_untold R s (finish t r outs) l h = report_untold s t r outs (λ k. FinishIsLegal g R k r outs) (λ k w. w.report.kind) (ticket_at t s.tickets) refl l h
  step_untold R s (reuse t r outs) l h = report_untold s t r outs (λ k. ReuseIsLegal g R s k r outs) (λ k w. w.report.kind) (ticket_at t s.tickets) refl l h
  step_untold R s (close i) l h = close_untold s i (op_ends (node_at g i).kind (s.spots i).pushed) h
  step_untold R s (abort t cause) l h = ticket_untold s t (ticket_at t s.tickets) _ refl (abort_untold cause) h
  step_untold R s halt l h = record { tickets = h.tickets; gone = h.gone }

  replay_untold : (R : Rules) (s : State) (es : List PlainEvent) → IsLawful g R s es → Untold g s → Untold g (replay g s es)
  replay_untold R s [] l h = h
  replay_untold R s (e ∷ es) l h = replay_untold R (step g s e) es l.1 (step_untold R s e l.0 h)

-- in every lawful history
pub none_told : (g : List PlainNode) (R : Rules) (h : List PlainEvent) → IsHistory g R h → Untold g (after g h)
none_told g R h lawful = replay_untold g R (opening g) h lawful (record { tickets = tt; gone = tt })
