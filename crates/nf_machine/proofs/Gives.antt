-- The events of tickets, and Close.
use Rattle.std.proofs.Common.{◌≡◌, ℕ, suc, ◌+◌, List, [], ◌∷◌, ◌++◌, length, Bool, true, false, refl, ap, sym, ◌∙◌, subst, arith, inl, inr, append-nil}
use Rattle.std.specs.Prelude.{Option, Some, None, is_none, is_ok, Result, Ok, Err, MatchOption}
use Rattle.std.proofs.lemmas.Bool.{cases_eq, cases_Bool, true≢false}
use Rattle.nf_value.specs.Plain.{Plain}
use Rattle.nf_value.specs.declared.fault.EvalFault.{EvalFault}
use Rattle.nf_job.specs.declared.parts.JobParts.{JobParts}
use Rattle.nf_job.specs.declared.report.Report.{Report}
use Rattle.nf_job.specs.declared.fault.TaskFault.{TaskFault}
use Rattle.nf_job.specs.declared.emitted.Outputs.TheVariants.{Emits, Ignored, Failed, Again}
use Rattle.nf_opstream.specs.Push.{Push}
use Rattle.nf_opstream.specs.Fault.{Fault}
use Rattle.nf_opstream.specs.Operator.{emitted as given_by, to_out}
use Rattle.nf_opstream.proofs.Tally.{one_if, passes, Sub, tally-map}
use Rattle.nf_graph.specs.Rules.{Rules, Outs, decided, decided_by, refused_by, AreTriedAgain}
use Rattle.nf_graph.specs.Node.{Kind, source, operator, process, PlainNode, node_at}
use Rattle.nf_graph.specs.Meaning.{put}
use Rattle.nf_graph.specs.Faults.{item_fails, op_fails}
use Rattle.nf_machine.specs.Event.{fault_stop, give, start}
use Rattle.nf_machine.specs.State.{Take, Ticket, Spot, State, port_of}
use Rattle.nf_machine.specs.Step.{ticket_at, without, with_ticket, with_stop, with_spot, Given, pushed_on, op_gives, push_with, give_push, do_give, at_ticket, step}
use Rattle.nf_machine.specs.Legal.{IsOperatorKind, GiveIsLegal, StartIsLegal, IsLegal}
use Rattle.nf_machine.specs.declared.event.Cause.{Cause}
use Rattle.nf_machine.proofs.Good.{take_of, flying, OpTake, Formed, MadeOk, SpotOk, TicketOk, OpStop, Good}
use Rattle.nf_machine.proofs.Frame.{More, Grows, no_more, grows_put, ports_kept, spot_kept, tickets_kept}
use Rattle.nf_machine.proofs.Tickets.{found_each, without_each, flying_less, same_less, same_as, none_in_flight, same_back, each_with}
use Rattle.nf_machine.proofs.Moves.{others, once_same}

pub still : (E : ℕ → Spot) → Grows E E
still E = record { emitted = λ i out. no_more ((E i).emitted out); frozen = λ i c. refl }

pub open_ticket : (g : List PlainNode) (R : Rules) (s : State) (t : ℕ) (k : Ticket) → Good g R s → ticket_at t s.tickets ≡ Some k → (s.spots k.node).closed ≡ false
open_ticket g R s t k good e = elim (cases_Bool (s.spots k.node).closed) [
  | inl c ↦ absurd (none_in_flight t s.tickets k e ((good.spots k.node).whole c).flight)
  | inr n ↦ n
]

-- what is in flight was taken
pub in_taken : (g : List PlainNode) (R : Rules) (s : State) (t : ℕ) (k : Ticket) → Good g R s → ticket_at t s.tickets ≡ Some k → Sub (k.take ∷ []) (s.spots k.node).taken
in_taken g R s t k good e = record { at = λ p. omega (arith, (good.spots k.node).flight.most p, flying_less p t s.tickets k e) }

-- a ticket that leaves with a stop
left_spot : (g : List PlainNode) (R : Rules) (E : ℕ → Spot) (ts : List Ticket) (going : Bool) (t : ℕ) (k : Ticket) → ticket_at t ts ≡ Some k
    → (E k.node).closed ≡ false → SpotOk g R E ts going k.node (E k.node) → SpotOk g R E (without t ts) false k.node (E k.node)
left_spot g R E ts going t k e isopen h = record {
  ports = ports_kept E E (still E) (node_at g k.node) going false (E k.node) (λ a. absurd (true≢false (sym a))) h.ports;
  flight = record {
    most = λ p. omega (arith, h.flight.most p, flying_less p t ts k e);
    all = λ a. absurd (true≢false (sym a ∙ isopen));
  };
  takes = h.takes;
  made = h.made;
  clean = λ a. absurd (true≢false (sym a));
  whole = λ c. absurd (true≢false (sym c ∙ isopen));
  quiet = λ a. absurd (true≢false (sym a));
}

pub left_spots : (g : List PlainNode) (R : Rules) (s : State) (t : ℕ) (k : Ticket) → Good g R s → ticket_at t s.tickets ≡ Some k
    → (j : ℕ) → SpotOk g R s.spots (without t s.tickets) false j (s.spots j)
left_spots g R s t k good e j = elim (cases_eq j k.node) [
  | inl same ↦ subst (λ m. SpotOk g R s.spots (without t s.tickets) false m (s.spots m)) (sym same)
      (left_spot g R s.spots s.tickets (is_none s.stop) t k e (open_ticket g R s t k good e) (good.spots k.node))
  | inr other ↦ spot_kept g R s.spots s.spots (still s.spots) s.tickets (without t s.tickets) (is_none s.stop) false j (s.spots j) (λ a. absurd (true≢false (sym a))) (same_less t s.tickets k e j other) (good.spots j)
]

-- ### Give

op_take_is : (nd : PlainNode) (t : Take) (a : Plain) → OpTake nd t → take_of (push_with t a) ≡ t
op_take_is nd t a h = takes_same (suc (port_of t.slot)) t.slot (t.item ∷ []) t.inputs 0 t.n t.item (sym h.slot) (sym h.inputs) (sym h.n)
  where
    takes_same : (a b : ℕ) (xs ys : List Plain) (m n : ℕ) (x : Plain) → a ≡ b → xs ≡ ys → m ≡ n → ◌≡◌ {A = Take} (record { slot = a; item = x; inputs = xs; n = m }) (record { slot = b; item = x; inputs = ys; n = n })
    takes_same a b xs ys m n x p q r = cc

op_kind : (g : List PlainNode) (R : Rules) (E : ℕ → Spot) (nd : PlainNode) (t : Take) → IsOperatorKind nd.kind → Formed E nd nd.kind t → OpTake nd t
op_kind g R E nd t o f = by nd.kind o f
  where
    by : (kind : Kind) → IsOperatorKind kind → Formed E nd kind t → OpTake nd t
    by (source items) o f = absurd o
    by (operator op) o f = f
    by (process q) o f = absurd o

pub more_append : (xs ys : List Plain) → More xs (xs ++ ys)
more_append xs ys = record { rest = ys; is = refl }

-- the spot given_by a push that is fine
push_made : (R : Rules) (i : ℕ) (kind : Kind) (sp : Spot) (x : Push) (es : List (ℕ × Plain)) → IsOperatorKind kind → sp.closed ≡ false
    → op_gives kind sp.pushed x ≡ Ok es → R.answer i x.item ≡ Ok x.answer → MadeOk R i kind sp → MadeOk R i kind (pushed_on sp x es)
push_made R i (source items) sp x es o isopen e r m = absurd o
push_made R i (process q) sp x es o isopen e r m = absurd o
push_made R i (operator op) sp x es o isopen e r m = record {
  emitted = λ out. (let a : sp.emitted out ≡ given_by op sp.pushed out = m.emitted out ∙ rw isopen (append-nil (given_by op sp.pushed out)) in
      rw (isopen, e, a) (sym (append-nil (given_by op sp.pushed out ++ to_out out es))));
  fine = (rw e refl, m.fine);
  by_rule = (r, m.by_rule);
  no_ended = m.no_ended;
}

module _ (g : List PlainNode) (R : Rules) (s : State) (t : ℕ) (k : Ticket) (a : Plain) (good : Good g R s) (found : ticket_at t s.tickets ≡ Some k) (run : s.stop ≡ None) (kind : IsOperatorKind (node_at g k.node).kind) (rule : R.answer k.node k.take.item ≡ Ok a) where
  pushed_is : take_of (push_with k.take a) ≡ k.take
  pushed_is = op_take_is (node_at g k.node) k.take a (op_kind g R s.spots (node_at g k.node) k.take kind (found_each (TicketOk g R s.spots) t s.tickets k found good.tickets).formed)

  push_good : (es : List (ℕ × Plain)) → op_gives (node_at g k.node).kind (s.spots k.node).pushed (push_with k.take a) ≡ Ok es
      → Good g R (with_spot (record s { tickets = without t s.tickets }) k.node (pushed_on (s.spots k.node) (push_with k.take a) es))
  push_good es e =
      let E = s.spots in
      let i = k.node in
      let sp = E i in
      let x = push_with k.take a in
      let us = without t s.tickets in
      let isopen = open_ticket g R s t k good found in
      let going : is_none s.stop ≡ true = ap is_none run in
      let old : (j : ℕ) → SpotOk g R E s.tickets true j (E j) = λ j. subst (λ b. SpotOk g R E s.tickets b j (E j)) going (good.spots j) in
      let new = pushed_on sp x es in
      let F = put E i new in
      let grows = grows_put E i new isopen (λ out. more_append (sp.emitted out) (to_out out es)) in
      let kept = spot_kept g R E F grows s.tickets s.tickets true true i sp (λ b. b) (same_as i s.tickets) (old i) in
      let flight : (p : Take → Bool) → (one_if (p (take_of x)) + passes (λ y. p (take_of y)) sp.pushed) + passes (λ z. p z.take) sp.ended + flying i p us ≡ passes p sp.taken =
      λ p. rw pushed_is (omega (arith, kept.flight.all refl p, flying_less p t s.tickets k found)) in
      rw run (record {
        spots = others g R E s.tickets us true true i new grows (λ b. refl) (λ j n. same_less t s.tickets k found j n) old (record {
          ports = record { fits = kept.ports.fits; most = kept.ports.most; all = kept.ports.all; held = kept.ports.held };
          flight = record { most = λ p. omega (arith, flight p); all = λ b p. flight p };
          takes = record { formed = kept.takes.formed; numbers = kept.takes.numbers; once = once_same (node_at g i).kind sp new refl kept.takes.once };
          made = push_made R i (node_at g i).kind sp x es kind isopen e rule kept.made;
          clean = λ b c. absurd (true≢false (sym c ∙ isopen));
          whole = λ c. absurd (true≢false (sym c ∙ isopen));
          quiet = λ b. kept.quiet refl;
        });
        tickets = tickets_kept g R E F grows us (without_each (TicketOk g R E) t s.tickets good.tickets);
        stop = tt;
      })

  push_fault : (f : Fault) → op_gives (node_at g k.node).kind (s.spots k.node).pushed (push_with k.take a) ≡ Err f
      → Good g R (with_stop (record s { tickets = without t s.tickets }) (fault_stop (op_fails k.node f)))
  push_fault f e = rw run (record {
    spots = left_spots g R s t k good found;
    tickets = without_each (TicketOk g R s.spots) t s.tickets good.tickets;
    stop = fault_by_kind (node_at g k.node).kind kind e;
  })
    where
      fault_by_kind : (kd : Kind) → IsOperatorKind kd → op_gives kd (s.spots k.node).pushed (push_with k.take a) ≡ Err f → OpStop g R s.spots k.node kd f
      fault_by_kind (source items) o h = o
      fault_by_kind (process q) o h = o
      fault_by_kind (operator op) o h = inl (record {
        push = push_with k.take a;
        by_rule = rule;
        taken = record { at = λ p. rw pushed_is (omega (arith, (good.spots k.node).flight.most p, flying_less p t s.tickets k found, tally-map (λ y. one_if (p y)) take_of (s.spots k.node).pushed)) };
        fault = h;
      })

  push_either : (r : Given) → op_gives (node_at g k.node).kind (s.spots k.node).pushed (push_with k.take a) ≡ r
      → Good g R (give_push (record s { tickets = without t s.tickets }) k.node (push_with k.take a) r)
  push_either (Ok es) e = push_good es e
  push_either (Err f) e = push_fault f e

item_fault : (g : List PlainNode) (R : Rules) (s : State) (t : ℕ) (k : Ticket) (f : EvalFault) → Good g R s → ticket_at t s.tickets ≡ Some k → s.stop ≡ None → IsOperatorKind (node_at g k.node).kind → R.answer k.node k.take.item ≡ Err f
    → Good g R (with_stop (record s { tickets = without t s.tickets }) (fault_stop (item_fails k.node k.take.item f)))
item_fault g R s t k f good found run kind rule = rw run (record {
  spots = left_spots g R s t k good found;
  tickets = without_each (TicketOk g R s.spots) t s.tickets good.tickets;
  stop = record { kind = kind; take = k.take; taken = in_taken g R s t k good found; item = refl; fault = rule };
})

give_found : (g : List PlainNode) (R : Rules) (s : State) (t : ℕ) (a : Result Plain EvalFault) (o : Option Ticket) → ticket_at t s.tickets ≡ o → Good g R s
    → MatchOption o ⊥ (λ k. GiveIsLegal g R s k a) → Good g R (at_ticket s t o (λ s' k. do_give g s' k a))
give_found g R s t a None e good h = absurd h
give_found g R s t (Ok a) (Some k) e good h = push_either g R s t k a good e h.running h.kind (sym h.by_rule) (op_gives (node_at g k.node).kind (s.spots k.node).pushed (push_with k.take a)) refl
give_found g R s t (Err f) (Some k) e good h = item_fault g R s t k f good e h.running h.kind (sym h.by_rule)

pub give_ok : (g : List PlainNode) (R : Rules) (s : State) (t : ℕ) (a : Result Plain EvalFault) → Good g R s → IsLegal g R s (give t a) → Good g R (step g s (give t a))
give_ok g R s t a good legal = give_found g R s t a (ticket_at t s.tickets) refl good legal

-- ### Start

start_found : (g : List PlainNode) (R : Rules) (s : State) (t : ℕ) (o : Option Ticket) → ticket_at t s.tickets ≡ o → Good g R s
    → MatchOption o ⊥ (StartIsLegal g R s) → Good g R (at_ticket s t o (λ s' k. record s' { tickets = with_ticket (record k { started = true }) (s'.tickets) }))
start_found g R s t None e good h = absurd h
start_found g R s t (Some k) e good h = record {
  spots = λ j. spot_kept g R s.spots s.spots (still s.spots) s.tickets (with_ticket (record k { started = true }) (without t s.tickets)) (is_none s.stop) (is_none s.stop) j (s.spots j) (λ b. b) (same_back t s.tickets k k.told true e j) (good.spots j);
  tickets = (let m = found_each (TicketOk g R s.spots) t s.tickets k e good.tickets in each_with (TicketOk g R s.spots) (without t s.tickets) (record k { started = true }) (without_each (TicketOk g R s.spots) t s.tickets good.tickets) (record { formed = m.formed; again = m.again; job = λ b. h.job }));
  stop = good.stop;
}

pub start_ok : (g : List PlainNode) (R : Rules) (s : State) (t : ℕ) (cause : Cause) → Good g R s → IsLegal g R s (start t cause) → Good g R (step g s (start t cause))
start_ok g R s t cause good legal = start_found g R s t (ticket_at t s.tickets) refl good legal

-- ### Reports

pub again_more : (job : ℕ → Result JobParts TaskFault) (outputs : ℕ → Report → Outs) (a : ℕ) (told : List Report) (r : Report) → AreTriedAgain job outputs a told
    → is_ok (job (a + length told)) ≡ true → outputs (a + length told) r ≡ Ok Again → AreTriedAgain job outputs a (told ++ r ∷ [])
again_more job outputs a [] r h j e = let z : a + 0 ≡ a = omega arith in (subst (λ n. is_ok (job n) ≡ true) z j, subst (λ n. outputs n r ≡ Ok Again) z e, tt)
again_more job outputs a (t ∷ told) r h j e =
    let z : a + suc (length told) ≡ suc a + length told = omega arith in
    (h.0, h.1, again_more job outputs (suc a) told r h.2 (subst (λ n. is_ok (job n) ≡ true) z j) (subst (λ n. outputs n r ≡ Ok Again) z e))

-- what decided still does with more reports
pub ended_prefix : (job : ℕ → Result JobParts TaskFault) (outputs : ℕ → Report → Outs) (a : ℕ) (told rest : List Report) (outs : Outs) → decided job outputs a told ≡ Some outs → decided job outputs a (told ++ rest) ≡ Some outs
ended_prefix job outputs a [] rest outs h = none_yet rest (job a) refl h
  where
    none_yet : (rest : List Report) (j : Result JobParts TaskFault) → job a ≡ j → refused_by (job a) ≡ Some outs → decided job outputs a rest ≡ Some outs
    none_yet [] j e h = h
    none_yet (r ∷ rest) (Ok p) e h = absurd (let w : None ≡ Some outs = ap refused_by (sym e) ∙ h in cc)
    none_yet (r ∷ rest) (Err f) e h = let w : Some (Err f) ≡ Some outs = ap refused_by (sym e) ∙ h in ap (λ x. decided_by x (outputs a r) (decided job outputs (suc a) rest)) e ∙ w
ended_prefix job outputs a (r ∷ told) rest outs h = by (job a) (outputs a r) (decided job outputs (suc a) told) (decided job outputs (suc a) (told ++ rest)) (λ e. ended_prefix job outputs (suc a) told rest outs e) h
  where
    by : (j : Result JobParts TaskFault) (o : Outs) (d e : Option Outs) → (d ≡ Some outs → e ≡ Some outs) → decided_by j o d ≡ Some outs → decided_by j o e ≡ Some outs
    by (Err f) o d e ih h = h
    by (Ok p) (Ok (Emits vs)) d e ih h = h
    by (Ok p) (Ok Ignored) d e ih h = h
    by (Ok p) (Ok (Failed x)) d e ih h = h
    by (Ok p) (Ok Again) d e ih h = ih h
    by (Ok p) (Err f) d e ih h = h
