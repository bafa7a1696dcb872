-- A history that tells a world's reports tells fronts of what its tasks are given in that world.
use Rattle.std.proofs.Common.{◌≡◌, ℕ, ◌+◌, List, [], ◌∷◌, Bool, true, false, cond, refl, subst}
use Rattle.std.specs.Prelude.{nat_lt, Option, Some, None, Result, Ok, Err, MatchOption}
use Rattle.std.specs.List.{AllByRecursion}
use Rattle.nf_value.specs.Plain.{Plain}
use Rattle.nf_value.specs.declared.fault.EvalFault.{EvalFault}
use Rattle.nf_job.specs.declared.report.Report.{Report}
use Rattle.nf_job.specs.declared.emitted.Outputs.TheVariants.{Emits, Ignored, Failed, Again}
use Rattle.nf_opstream.specs.Push.{Push}
use Rattle.nf_graph.specs.Rules.{IsRules, Outs, Rules}
use Rattle.nf_graph.specs.Node.{Kind, source, operator, process, PlainNode, node_at}
use Rattle.nf_graph.specs.Meaning.{cost, put}
use Rattle.nf_graph.proofs.Lists.{put_all}
use Rattle.nf_lane.specs.World.{World}
use Rattle.nf_machine.specs.Event.{PlainStop, PlainEvent, pass, taking, give, start, finish, reuse, close, abort, halt}
use Rattle.nf_machine.specs.State.{Ended, Ticket, Spot, State, opened, opening}
use Rattle.nf_machine.specs.Step.{Given, at_ticket, do_close, do_finish, do_give, do_pass, end_of, ended_on, ends_at, give_push, limit, next_item, op_ends, op_gives, or_stop, push_with, replay, step, take_at, ticket_at, with_ticket, without}
use Rattle.nf_machine.specs.Legal.{FinishIsLegal, InFlight, IsLegal, IsProcessKind, ReportIsLegal, ReuseIsLegal}
use Rattle.nf_machine.specs.History.{IsLawful, IsPrefix, after, IsHistory}
use Rattle.nf_machine.proofs.Tickets.{each_with, found_each, without_each}
use Rattle.nf_steady.proofs.Fronts.{Front, IsGiven, back_with, came_back, given_at, nothing_told, tried_again}

module _ (w : World) (g : List PlainNode) (R : Rules) where
  -- a process's task came back, and what it was told begins what it is given
  pub record Came (i : ℕ) (e : Ended) : Type 0 where
    pub kind : IsProcessKind (node_at g i).kind
    pub front : IsPrefix e.told (given_at w R i e.take)

  abbrev AllCame : (ℕ → Spot) → Type 0
  AllCame E = (i : ℕ) → AllByRecursion (Came i) (E i).ended

  pub record Fronts (s : State) : Type 0 where
    pub tickets : AllByRecursion (Front w R) s.tickets
    pub gone : AllByRecursion (Front w R) s.gone
    pub ended : AllCame s.spots

  -- a Finish and a Reuse have the world's report
  abbrev pub Tells : State → PlainEvent → Type 0
  Tells s (finish t r outs) = InFlight s t (λ k. IsGiven w R k r)
  Tells s (reuse t r outs) = InFlight s t (λ k. IsGiven w R k r)
  Tells s _ = Unit {0}

  abbrev pub AllTell : State → List PlainEvent → Type 0
  AllTell s [] = Unit {0}
  AllTell s (e ∷ es) = Tells s e × AllTell (step g s e) es

  -- ---- one spot changes

  same_came : (E : ℕ → Spot) (i : ℕ) (sp : Spot) → (E i).ended ≡ sp.ended → AllCame E → AllCame (put E i sp)
  same_came E i sp same h =
      put_all (λ j (z : Spot). AllByRecursion (Came j) z.ended) E i sp (subst (AllByRecursion (Came i)) same (h i))
      (λ j n. h j)

  more_came : (E : ℕ → Spot) (i : ℕ) (e : Ended) → Came i e → AllCame E → AllCame (put E i (ended_on (E i) e))
  more_came E i e one h =
      put_all (λ j (z : Spot). AllByRecursion (Came j) z.ended) E i (ended_on (E i) e) (one, h i) (λ j n. h j)

  -- ---- tickets

  -- what is done with a ticket that was in flight
  abbrev Keeps : (State → Ticket → State) → Type 0
  Keeps f = (s : State) (k : Ticket) → Front w R k → Fronts s → Fronts (f s k)

  less : (s : State) (t : ℕ) → Fronts s → Fronts (record s { tickets = without t s.tickets })
  less s t h = record { tickets = without_each (Front w R) t s.tickets h.tickets; gone = h.gone; ended = h.ended }

  ticket_fronts : (s : State) (t : ℕ) (o : Option Ticket) (f : State → Ticket → State) → ticket_at t s.tickets ≡ o
      → Keeps f → Fronts s → Fronts (at_ticket s t o f)
  ticket_fronts s t None f e keeps h = h
  ticket_fronts s t (Some k) f e keeps h =
      keeps (record s { tickets = without t s.tickets }) k (found_each (Front w R) t s.tickets k e h.tickets)
      (less s t h)

  push_fronts : (s : State) (i : ℕ) (x : Push) (r : Given) → Fronts s → Fronts (give_push s i x r)
  push_fronts s i x (Ok es) h =
      record { tickets = h.tickets; gone = h.gone; ended = same_came s.spots i _ refl h.ended }
  push_fronts s i x (Err f) h = record { tickets = h.tickets; gone = h.gone; ended = h.ended }

  give_fronts : (a : Result Plain EvalFault) → Keeps (λ u k. do_give g u k a)
  give_fronts (Ok v) s k front h =
      push_fronts s k.node (push_with k.take v)
      (op_gives (node_at g k.node).kind (s.spots k.node).pushed (push_with k.take v)) h
  give_fronts (Err f) s k front h = record { tickets = h.tickets; gone = h.gone; ended = h.ended }

  start_fronts : Keeps (λ u k. record u { tickets = with_ticket (record k { started = true }) u.tickets })
  start_fronts s k front h = record {
    tickets =
        each_with (Front w R) s.tickets (record k { started = true }) h.tickets
        (record { more = front.more; left = front.left; is = front.is });
    gone = h.gone;
    ended = h.ended;
  }

  abort_fronts : (cause : Option PlainStop) → Keeps (λ u k. record u { gone = k ∷ u.gone; stop = or_stop u.stop cause })
  abort_fronts cause s k front h = record { tickets = h.tickets; gone = (front, h.gone); ended = h.ended }

  -- ---- reports

  ends_fronts : (s : State) (k : Ticket) (r : Report) (outs : Outs) → IsProcessKind (node_at g k.node).kind
      → IsGiven w R k r → Front w R k → Fronts s → Fronts (ends_at s k (end_of k r outs))
  ends_fronts s k r outs is given front h = record {
    tickets = h.tickets;
    gone = h.gone;
    ended =
        more_came s.spots k.node (end_of k r outs)
        (record { kind = is; front = came_back w R k r given front }) h.ended;
  }

  stops_fronts : (s : State) (stop : Option PlainStop) → Fronts s → Fronts (record s { stop = stop })
  stops_fronts s stop h = record { tickets = h.tickets; gone = h.gone; ended = h.ended }

  finish_fronts : IsRules R → (r : Report) (outs : Outs) (s : State) (k : Ticket) → ReportIsLegal g R k r outs
      → IsGiven w R k r → Front w R k → Fronts s → Fronts (do_finish s k r outs)
  finish_fronts rules r (Ok (Emits vs)) s k l given front h = ends_fronts s k r (Ok (Emits vs)) l.kind given front h
  finish_fronts rules r (Ok Ignored) s k l given front h = ends_fronts s k r (Ok Ignored) l.kind given front h
  finish_fronts rules r (Ok (Failed f)) s k l given front h =
      stops_fronts _ _ (ends_fronts s k r (Ok (Failed f)) l.kind given front h)
  finish_fronts rules r (Err f) s k l given front h = stops_fronts _ _ (ends_fronts s k r (Err f) l.kind given front h)
  finish_fronts rules r (Ok Again) s k l given front h = record {
    tickets =
        each_with (Front w R) s.tickets (back_with w R k r) h.tickets (tried_again w R rules k r given l.by_rule front);
    gone = h.gone;
    ended = h.ended;
  }

  report_fronts : IsRules R → (s : State) (t : ℕ) (r : Report) (outs : Outs) (P : Ticket → Type 0)
      → ((k : Ticket) → P k → ReportIsLegal g R k r outs) → (o : Option Ticket) → ticket_at t s.tickets ≡ o
      → MatchOption o ⊥ P → MatchOption o ⊥ (λ k. IsGiven w R k r) → Fronts s → Fronts (at_ticket s t o (λ u k. do_finish u k r outs))
  report_fronts rules s t r outs P legal None e l given h = absurd l
  report_fronts rules s t r outs P legal (Some k) e l given h =
      let rest : State = record s { tickets = without t s.tickets } in
      finish_fronts rules r outs rest k (legal k l) given (found_each (Front w R) t s.tickets k e h.tickets) (less s t h)

  -- ---- all events

  cond_fronts : (b : Bool) (u v : State) → Fronts u → Fronts v → Fronts (cond b u v)
  cond_fronts true u v x y = x
  cond_fronts false u v x y = y

  pass_fronts : (s : State) (i k : ℕ) (x : Plain) → Fronts s → Fronts (do_pass s i k x)
  pass_fronts s i k x h =
      cond_fronts (nat_lt limit (s.charge + cost x)) _ _
      (record { tickets = h.tickets; gone = h.gone; ended = same_came s.spots i _ refl h.ended })
      (record { tickets = h.tickets; gone = h.gone; ended = same_came s.spots i _ refl h.ended })

  close_fronts : (s : State) (i : ℕ) (r : Given) → Fronts s → Fronts (do_close s i r)
  close_fronts s i (Ok es) h = record { tickets = h.tickets; gone = h.gone; ended = same_came s.spots i _ refl h.ended }
  close_fronts s i (Err f) h = record { tickets = h.tickets; gone = h.gone; ended = same_came s.spots i _ refl h.ended }

  step_fronts : IsRules R → (s : State) (e : PlainEvent) → IsLegal g R s e → Tells s e → Fronts s → Fronts (step g s e)
  step_fronts rules s (pass i k) l tell h = pass_fronts s i k (next_item g s i k) h
  step_fronts rules s (taking i port place t n) l tell h =
      let k : Ticket =
      record { number = s.next; node = i; take = take_at g s i port place; told = []; started = false } in
      record {
        tickets = each_with (Front w R) s.tickets k h.tickets (nothing_told w R k refl);
        gone = h.gone;
        ended = same_came s.spots i _ refl h.ended;
      }
  step_fronts rules s (give t a) l tell h =
      ticket_fronts s t (ticket_at t s.tickets) (λ u k. do_give g u k a) refl (give_fronts a) h
  step_fronts rules s (start t cause) l tell h = ticket_fronts s t (ticket_at t s.tickets) _ refl start_fronts h
  step_fronts rules s (finish t r outs) l tell h =
      report_fronts rules s t r outs (λ k. FinishIsLegal g R k r outs) (λ k x. x.report)
      (ticket_at t s.tickets) refl l tell h
  step_fronts rules s (reuse t r outs) l tell h =
      report_fronts rules s t r outs (λ k. ReuseIsLegal g R s k r outs) (λ k x. x.report)
      (ticket_at t s.tickets) refl l tell h
  step_fronts rules s (close i) l tell h = close_fronts s i (op_ends (node_at g i).kind (s.spots i).pushed) h
  step_fronts rules s (abort t cause) l tell h = ticket_fronts s t (ticket_at t s.tickets) _ refl (abort_fronts cause) h
  step_fronts rules s halt l tell h = record { tickets = h.tickets; gone = h.gone; ended = h.ended }

  replay_fronts : IsRules R → (s : State) (es : List PlainEvent) → IsLawful g R s es → AllTell s es → Fronts s
      → Fronts (replay g s es)
  replay_fronts rules s [] l tell h = h
  replay_fronts rules s (e ∷ es) l tell h =
      replay_fronts rules (step g s e) es l.1 tell.1 (step_fronts rules s e l.0 tell.0 h)

  none_came : (i : ℕ) (kind : Kind) → AllByRecursion (Came i) (opened kind).ended
  none_came i (source items) = tt
  none_came i (operator op) = tt
  none_came i (process queue) = tt

  pub told_fronts : IsRules R → (h : List PlainEvent) → IsHistory g R h → AllTell (opening g) h → Fronts (after g h)
  told_fronts rules h lawful tell =
      replay_fronts rules (opening g) h lawful tell
      (record { tickets = tt; gone = tt; ended = λ i. none_came i (node_at g i).kind })
