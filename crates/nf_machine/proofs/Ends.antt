-- Finish, Close, Abort, Halt, and whole histories.
use Rattle.std.proofs.Common.{◌≡◌, ℕ, suc, ◌+◌, ◌<◌, List, [], ◌∷◌, ◌++◌, length, Bool, true, false, refl, ap, sym, ◌∙◌, subst, arith, inl, inr, append-nil}
use Rattle.std.specs.Prelude.{◌==◌, Option, Some, None, is_none, is_ok, Result, Ok, Err, MatchOption}
use Rattle.std.specs.List.{AllByRecursion}
use Rattle.std.proofs.lemmas.Bool.{true≢false}
use Rattle.nf_value.specs.Plain.{Plain}
use Rattle.nf_job.specs.declared.parts.JobParts.{JobParts}
use Rattle.nf_job.specs.declared.report.Report.{Report}
use Rattle.nf_job.specs.declared.fault.TaskFault.{TaskFault}
use Rattle.nf_job.specs.declared.emitted.Outputs.TheVariants.{Emits, Ignored, Failed, Again}
use Rattle.nf_opstream.specs.Fault.{Fault}
use Rattle.nf_opstream.specs.Operator.{emitted as given_by, to_out, oks}
use Rattle.nf_opstream.proofs.Tally.{sub_map, count_is_passes}
use Rattle.nf_opstream.proofs.Members.{In}
use Rattle.nf_graph.specs.declared.port.Port.{Port}
use Rattle.nf_graph.specs.Rules.{Rules, Outs, decided, decided_by, AreTriedAgain, emit_at, fault_of, fault_by}
use Rattle.nf_graph.specs.Node.{Kind, source, operator, process, PlainNode, port_at, node_at, IsGraph}
use Rattle.nf_graph.specs.Meaning.{put}
use Rattle.nf_graph.specs.Faults.{GraphFault, item_fails, op_fails, task_fails}
use Rattle.nf_graph.proofs.Lists.{put_same, put_all}
use Rattle.nf_machine.specs.Event.{PlainStop, fault_stop, charge_stop, outside_stop, memory_stop, PlainEvent, pass, taking, give, start, finish, reuse, close, abort, halt}
use Rattle.nf_machine.specs.State.{Ended, Ticket, Spot, State, attempt_of, instance, opened, opening}
use Rattle.nf_machine.specs.Step.{ticket_at, without, with_ticket, or_stop, with_stop, Given, op_ends, ended_on, end_of, ends_at, do_finish, do_close, at_ticket, step, replay}
use Rattle.nf_machine.specs.Legal.{IsOperatorKind, IsProcessKind, MayClose, CloseIsLegal, HasJob, ReportIsLegal, FinishIsLegal, ReuseIsLegal, IsOwnFault, MayCause, AbortIsLegal, IsLegal}
use Rattle.nf_machine.specs.History.{IsLawful, ClosedWell}
use Rattle.nf_graph.proofs.Refused.{refused_decides, again_then}
use Rattle.nf_machine.proofs.Good.{PortsOk, FlightOk, TakesOk, MadeOk, Done, Whole, SpotOk, TicketOk, OpStop, FaultOk, StopOk, Good}
use Rattle.nf_machine.proofs.Frame.{Grows, grows_put, spot_kept, tickets_kept}
use Rattle.nf_machine.proofs.Tickets.{found_each, without_each, flying_less, same_less, same_as, same_back, each_with}
use Rattle.nf_machine.proofs.Moves.{others, pass_good, once_same, take_good}
use Rattle.nf_machine.proofs.Gives.{still, open_ticket, in_taken, left_spots, more_append, give_ok, start_ok, again_more, ended_prefix}

-- what a stop that stands rests on stays
record Later (g : List PlainNode) (E F : ℕ → Spot) (gone gone' : List Ticket) : Type 0 where
  taken : (j : ℕ) → (F j).taken ≡ (E j).taken
  ended : (j : ℕ) (e : Ended) → In e (E j).ended → In e (F j).ended
  ops : (j : ℕ) → IsOperatorKind (node_at g j).kind → F j ≡ E j
  gone_more : (k : Ticket) → In k gone → In k gone'

stop_kept : (g : List PlainNode) (R : Rules) (E F : ℕ → Spot) (gone gone' : List Ticket) (o : Option PlainStop) → Later g E F gone gone' → StopOk g R E gone o → StopOk g R F gone' o
stop_kept g R E F gone gone' None l h = tt
stop_kept g R E F gone gone' (Some (charge_stop sum)) l h = tt
stop_kept g R E F gone gone' (Some memory_stop) l h = tt
stop_kept g R E F gone gone' (Some (outside_stop u)) l h = tt
stop_kept g R E F gone gone' (Some (fault_stop (task_fails i inputs n f))) l h = record {
  kind = h.kind;
  told = h.told;
  was_told = elim h.was_told [ inl w ↦ inl (w.0, l.ended i w.0 w.1, w.2, w.3, w.4) | inr w ↦ inr (w.0, l.gone_more w.0 w.1, w.2, w.3, w.4, w.5) ];
  taken = rw (l.taken i) h.taken;
  fault = h.fault;
}
stop_kept g R E F gone gone' (Some (fault_stop (item_fails i x f))) l h = record { kind = h.kind; take = h.take; taken = rw (l.taken i) h.taken; item = h.item; fault = h.fault }
stop_kept g R E F gone gone' (Some (fault_stop (op_fails i f))) l h = by (node_at g i).kind (l.ops i) h
  where
    by : (kind : Kind) → (IsOperatorKind kind → F i ≡ E i) → OpStop g R E i kind f → OpStop g R F i kind f
    by (source items) same w = w
    by (process q) same w = w
    by (operator op) same w = elim w [
      | inl p ↦ inl (let e = same tt in record { push = p.push; by_rule = p.by_rule; taken = rw e p.taken; fault = rw e p.fault })
      | inr c ↦ inr (let e = same tt in record { closed = rw e c.closed; fault = rw e c.fault })
    ]

-- ### Finish

-- no further attempt follows
abbrev IsFinal : Outs → Type 0
IsFinal (Ok (Emits vs)) = Unit {0}
IsFinal (Ok Ignored) = Unit {0}
IsFinal (Ok (Failed f)) = Unit {0}
IsFinal (Ok Again) = ⊥
IsFinal (Err f) = Unit {0}

final_decides : (j : Result JobParts TaskFault) (outs : Outs) (rest : Option Outs) → is_ok j ≡ true → IsFinal outs → decided_by j outs rest ≡ Some outs
final_decides (Err x) outs rest h f = absurd (true≢false (sym h))
final_decides (Ok p) (Ok (Emits vs)) rest h f = refl
final_decides (Ok p) (Ok Ignored) rest h f = refl
final_decides (Ok p) (Ok (Failed x)) rest h f = refl
final_decides (Ok p) (Ok Again) rest h f = absurd f
final_decides (Ok p) (Err x) rest h f = refl

process_made : (R : Rules) (i : ℕ) (kind : Kind) (sp : Spot) (e : Ended) → IsProcessKind kind → decided (R.job i e.take.inputs e.take.n) (R.outputs i e.take.inputs) 1 e.told ≡ Some e.outs → MadeOk R i kind sp → MadeOk R i kind (ended_on sp e)
process_made R i (source items) sp e pr d m = absurd pr
process_made R i (operator op) sp e pr d m = absurd pr
process_made R i (process q) sp e pr d m = record {
  emitted = λ out. ap (λ xs. xs ++ emit_at e.outs out) (m.emitted out);
  decision = (d, m.decision);
  no_pushed = m.no_pushed;
}

in_put : (E : ℕ → Spot) (i : ℕ) (e : Ended) (j : ℕ) (x : Ended) → In x (E j).ended → In x (put E i (ended_on (E i) e) j).ended
in_put E i e j x h = put_all (λ j (z : Spot). In x (E j).ended → In x z.ended) E i (ended_on (E i) e) (λ w. inr w) (λ j n w. w) j h

not_process : (kind : Kind) → IsOperatorKind kind → IsProcessKind kind → ⊥
not_process (source items) o p = o
not_process (operator op) o p = p
not_process (process q) o p = o

module _ (g : List PlainNode) (R : Rules) (s : State) (t : ℕ) (k : Ticket) (r : Report) (outs : Outs) (good : Good g R s) (found : ticket_at t s.tickets ≡ Some k) (legal : ReportIsLegal g R k r outs) (job : HasJob R k) where
  before : AreTriedAgain (R.job k.node k.take.inputs k.take.n) (R.outputs k.node k.take.inputs) 1 k.told
  before = (found_each (TicketOk g R s.spots) t s.tickets k found good.tickets).again

  this_attempt : suc (length k.told) ≡ 1 + length k.told
  this_attempt = omega arith

  job_now : is_ok (R.job k.node k.take.inputs k.take.n (1 + length k.told)) ≡ true
  job_now = subst (λ n. is_ok (R.job k.node k.take.inputs k.take.n n) ≡ true) this_attempt job

  outs_now : R.outputs k.node k.take.inputs (1 + length k.told) r ≡ outs
  outs_now = ap (λ n. R.outputs k.node k.take.inputs n r) (sym this_attempt) ∙ sym legal.by_rule

  told_now : IsFinal outs → decided (R.job k.node k.take.inputs k.take.n) (R.outputs k.node k.take.inputs) 1 (k.told ++ r ∷ []) ≡ Some outs
  told_now final =
      let rest = decided (R.job k.node k.take.inputs k.take.n) (R.outputs k.node k.take.inputs) (suc (1 + length k.told)) [] in
      again_then (R.job k.node k.take.inputs k.take.n) (R.outputs k.node k.take.inputs) 1 k.told (r ∷ []) before
      ∙ ap (λ o. decided_by (R.job k.node k.take.inputs k.take.n (1 + length k.told)) o rest) outs_now
      ∙ final_decides (R.job k.node k.take.inputs k.take.n (1 + length k.told)) outs rest job_now final

  ended_later : (e : Ended) → Later g s.spots (put s.spots k.node (ended_on (s.spots k.node) e)) s.gone s.gone
  ended_later e = record {
    taken = put_all (λ j (z : Spot). z.taken ≡ (s.spots j).taken) s.spots k.node (ended_on (s.spots k.node) e) refl (λ j n. refl);
    ended = in_put s.spots k.node e;
    ops = put_all (λ j z. IsOperatorKind (node_at g j).kind → z ≡ s.spots j) s.spots k.node (ended_on (s.spots k.node) e) (λ o. absurd (not_process (node_at g k.node).kind o legal.kind)) (λ j n o. refl);
    gone_more = λ u h. h;
  }

  finish_ends : (going' : Bool) → (going' ≡ true → is_none s.stop ≡ true) → (going' ≡ true → fault_of outs ≡ []) → IsFinal outs
      → (j : ℕ) → SpotOk g R (put s.spots k.node (ended_on (s.spots k.node) (end_of k r outs))) (without t s.tickets) going' j (put s.spots k.node (ended_on (s.spots k.node) (end_of k r outs)) j)
  finish_ends going' w well final =
      let E = s.spots in
      let i = k.node in
      let sp = E i in
      let us = without t s.tickets in
      let isopen = open_ticket g R s t k good found in
      let going = is_none s.stop in
      let e = end_of k r outs in
      let new = ended_on sp e in
      let F = put E i new in
      let grows = grows_put E i new isopen (λ out. more_append (sp.emitted out) (emit_at outs out)) in
      let kept = spot_kept g R E F grows s.tickets s.tickets going going' i sp w (same_as i s.tickets) (good.spots i) in
      others g R E s.tickets us going going' i new grows w (λ j n. same_less t s.tickets k found j n) good.spots (record {
        ports = record { fits = kept.ports.fits; most = kept.ports.most; all = kept.ports.all; held = kept.ports.held };
        flight = record {
          most = λ p. omega (arith, kept.flight.most p, flying_less p t s.tickets k found);
          all = λ b p. omega (arith, kept.flight.all b p, flying_less p t s.tickets k found);
        };
        takes = record { formed = kept.takes.formed; numbers = kept.takes.numbers; once = once_same (node_at g i).kind sp new refl kept.takes.once };
        made = process_made R i (node_at g i).kind sp e legal.kind (told_now final) kept.made;
        clean = λ b c. absurd (true≢false (sym c ∙ isopen));
        whole = λ c. absurd (true≢false (sym c ∙ isopen));
        quiet = λ b. (well b, kept.quiet b);
      })

  ended_grows : Grows s.spots (put s.spots k.node (ended_on (s.spots k.node) (end_of k r outs)))
  ended_grows = grows_put s.spots k.node (ended_on (s.spots k.node) (end_of k r outs)) (open_ticket g R s t k good found) (λ out. more_append ((s.spots k.node).emitted out) (emit_at outs out))

  finish_good : IsFinal outs → fault_of outs ≡ [] → Good g R (ends_at (record s { tickets = without t s.tickets }) k (end_of k r outs))
  finish_good final well = record {
    spots = finish_ends (is_none s.stop) (λ b. b) (λ b. well) final;
    tickets = tickets_kept g R s.spots (put s.spots k.node (ended_on (s.spots k.node) (end_of k r outs))) ended_grows (without t s.tickets) (without_each (TicketOk g R s.spots) t s.tickets good.tickets);
    stop = stop_kept g R s.spots (put s.spots k.node (ended_on (s.spots k.node) (end_of k r outs))) s.gone s.gone s.stop (ended_later (end_of k r outs)) good.stop;
  }

  finish_again : outs ≡ Ok Again → Good g R (record s { tickets = with_ticket (record k { told = k.told ++ r ∷ []; started = false }) (without t s.tickets) })
  finish_again again = record {
    spots = λ j. spot_kept g R s.spots s.spots (still s.spots) s.tickets (with_ticket (record k { told = k.told ++ r ∷ []; started = false }) (without t s.tickets)) (is_none s.stop) (is_none s.stop) j (s.spots j) (λ b. b) (same_back t s.tickets k (k.told ++ r ∷ []) false found j) (good.spots j);
    tickets = each_with (TicketOk g R s.spots) (without t s.tickets) (record k { told = k.told ++ r ∷ []; started = false }) (without_each (TicketOk g R s.spots) t s.tickets good.tickets) (record {
      formed = (found_each (TicketOk g R s.spots) t s.tickets k found good.tickets).formed;
      again = again_more (R.job k.node k.take.inputs k.take.n) (R.outputs k.node k.take.inputs) 1 k.told r before job_now (outs_now ∙ again);
      job = λ b. absurd (true≢false (sym b));
    });
    stop = good.stop;
  }

stop_some : (o : Option PlainStop) (x : PlainStop) → is_none (or_stop o (Some x)) ≡ true → is_none o ≡ true
stop_some None x h = refl
stop_some (Some y) x h = h

stopped : (o : Option PlainStop) (x : PlainStop) → is_none (or_stop o (Some x)) ≡ true → ⊥
stopped None x h = true≢false (sym h)
stopped (Some y) x h = true≢false (sym h)

-- outputs that end the run by f
finish_fails : (g : List PlainNode) (R : Rules) (s : State) (t : ℕ) (k : Ticket) (r : Report) (outs : Outs) (f : TaskFault) → Good g R s → ticket_at t s.tickets ≡ Some k → ReportIsLegal g R k r outs → HasJob R k
    → IsFinal outs → fault_of outs ≡ f ∷ [] → Good g R (with_stop (ends_at (record s { tickets = without t s.tickets }) k (end_of k r outs)) (fault_stop (task_fails k.node k.take.inputs k.take.n f)))
finish_fails g R s t k r outs f good found legal job final fails =
    let F = put s.spots k.node (ended_on (s.spots k.node) (end_of k r outs)) in
    let x = fault_stop (task_fails k.node k.take.inputs k.take.n f) in
    record {
      spots = finish_ends g R s t k r outs good found legal job (is_none (or_stop s.stop (Some x))) (stop_some s.stop x) (λ b. absurd (stopped s.stop x b)) final;
      tickets = tickets_kept g R s.spots F (ended_grows g R s t k r outs good found legal job) (without t s.tickets) (without_each (TicketOk g R s.spots) t s.tickets good.tickets);
      stop = by s.stop good.stop;
    }
  where
    first_stop : StopOk g R (put s.spots k.node (ended_on (s.spots k.node) (end_of k r outs))) s.gone (Some (fault_stop (task_fails k.node k.take.inputs k.take.n f)))
    first_stop =
        let e = end_of k r outs in
        let F = put s.spots k.node (ended_on (s.spots k.node) e) in
        let here : F k.node ≡ ended_on (s.spots k.node) e = put_same s.spots k.node (ended_on (s.spots k.node) e) in
        let tk = in_taken g R s t k good found in
        record {
          kind = legal.kind;
          told = k.told ++ r ∷ [];
          was_told = inl (e, (rw here (inl refl)), refl, refl, refl);
          taken = rw here (sub_map instance tk);
          fault = λ rest. ap fault_by (ended_prefix (R.job k.node k.take.inputs k.take.n) (R.outputs k.node k.take.inputs) 1 (k.told ++ r ∷ []) rest outs (told_now g R s t k r outs good found legal job final)) ∙ fails;
        }

    by : (o : Option PlainStop) → StopOk g R s.spots s.gone o → StopOk g R (put s.spots k.node (ended_on (s.spots k.node) (end_of k r outs))) s.gone (or_stop o (Some (fault_stop (task_fails k.node k.take.inputs k.take.n f))))
    by None h = first_stop
    by (Some x) h = stop_kept g R s.spots (put s.spots k.node (ended_on (s.spots k.node) (end_of k r outs))) s.gone s.gone (Some x) (ended_later g R s t k r outs good found legal job (end_of k r outs)) h

report_good : (g : List PlainNode) (R : Rules) (s : State) (t : ℕ) (r : Report) (outs : Outs) (k : Ticket) → ticket_at t s.tickets ≡ Some k → Good g R s → ReportIsLegal g R k r outs → HasJob R k → Good g R (do_finish (record s { tickets = without t s.tickets }) k r outs)
report_good g R s t r (Ok (Emits vs)) k e good h job = finish_good g R s t k r (Ok (Emits vs)) good e h job tt refl
report_good g R s t r (Ok Ignored) k e good h job = finish_good g R s t k r (Ok Ignored) good e h job tt refl
report_good g R s t r (Ok (Failed f)) k e good h job = finish_fails g R s t k r (Ok (Failed f)) f good e h job tt refl
report_good g R s t r (Ok Again) k e good h job = finish_again g R s t k r (Ok Again) good e h job refl
report_good g R s t r (Err f) k e good h job = finish_fails g R s t k r (Err f) f good e h job tt refl

finish_found : (g : List PlainNode) (R : Rules) (s : State) (t : ℕ) (r : Report) (outs : Outs) (o : Option Ticket) → ticket_at t s.tickets ≡ o → Good g R s
    → MatchOption o ⊥ (λ k. FinishIsLegal g R k r outs) → Good g R (at_ticket s t o (λ s' k. do_finish s' k r outs))
finish_found g R s t r outs None e good h = absurd h
finish_found g R s t r outs (Some k) e good h = report_good g R s t r outs k e good h.report ((found_each (TicketOk g R s.spots) t s.tickets k e good.tickets).job h.started)

reuse_found : (g : List PlainNode) (R : Rules) (s : State) (t : ℕ) (r : Report) (outs : Outs) (o : Option Ticket) → ticket_at t s.tickets ≡ o → Good g R s
    → MatchOption o ⊥ (λ k. ReuseIsLegal g R s k r outs) → Good g R (at_ticket s t o (λ s' k. do_finish s' k r outs))
reuse_found g R s t r outs None e good h = absurd h
reuse_found g R s t r outs (Some k) e good h = report_good g R s t r outs k e good h.report h.start.job

-- ### Abort

own_fault : (g : List PlainNode) (R : Rules) (s : State) (t : ℕ) (k : Ticket) (x : GraphFault) → Good g R s → ticket_at t s.tickets ≡ Some k → IsOwnFault R (node_at g k.node).kind k x → FaultOk g R s.spots (k ∷ s.gone) x
own_fault g R s t k (item_fails i v f) good e h = absurd h
own_fault g R s t k (op_fails i f) good e h = absurd h
own_fault g R s t k (task_fails i inputs n f) good e h =
    let job : R.job k.node k.take.inputs k.take.n (attempt_of k) ≡ Err f = subst (λ z. R.job k.node k.take.inputs z (attempt_of k) ≡ Err f) h.3 (subst (λ z. R.job k.node z n (attempt_of k) ≡ Err f) h.2 (subst (λ z. R.job z inputs n (attempt_of k) ≡ Err f) h.1 h.4)) in
    let q : suc (length k.told) ≡ 1 + length k.told = omega arith in
    let now : R.job k.node k.take.inputs k.take.n (1 + length k.told) ≡ Err f = subst (λ n. R.job k.node k.take.inputs k.take.n n ≡ Err f) q job in
    let again = (found_each (TicketOk g R s.spots) t s.tickets k e good.tickets).again in
    rw (h.1, h.2, h.3) (record {
      kind = h.0;
      told = k.told;
      was_told = inr (k, inl refl, refl, refl, refl, refl);
      taken = sub_map instance (in_taken g R s t k good e);
      fault = λ rest. ap fault_by (again_then (R.job k.node k.take.inputs k.take.n) (R.outputs k.node k.take.inputs) 1 k.told rest again
          ∙ refused_decides (R.job k.node k.take.inputs k.take.n) (R.outputs k.node k.take.inputs) (1 + length k.told) rest f now);
    })

abort_stop : (g : List PlainNode) (R : Rules) (s : State) (t : ℕ) (k : Ticket) (x : PlainStop) → Good g R s → ticket_at t s.tickets ≡ Some k → MayCause R (node_at g k.node).kind k x → StopOk g R s.spots (k ∷ s.gone) (Some x)
abort_stop g R s t k memory_stop good e h = tt
abort_stop g R s t k (outside_stop u) good e h = tt
abort_stop g R s t k (charge_stop sum) good e h = tt
abort_stop g R s t k (fault_stop f) good e h = own_fault g R s t k f good e h

abort_found : (g : List PlainNode) (R : Rules) (s : State) (t : ℕ) (cause : Option PlainStop) (o : Option Ticket) → ticket_at t s.tickets ≡ o → Good g R s
    → MatchOption o ⊥ (λ k. AbortIsLegal g R s k cause) → Good g R (at_ticket s t o (λ s' k. record s' { gone = k ∷ s'.gone; stop = or_stop s'.stop cause }))
abort_found g R s t cause None e good h = absurd h
abort_found g R s t cause (Some k) e good h = record {
  spots = λ j. rw (over cause s.stop h) (left_spots g R s t k good e j);
  tickets = without_each (TicketOk g R s.spots) t s.tickets good.tickets;
  stop = by cause s.stop h good.stop;
}
  where
    over : (cause o : Option PlainStop) → AbortIsLegal g R (record s { stop = o }) k cause → is_none (or_stop o cause) ≡ false
    over None None h = cc
    over None (Some x) h = refl
    over (Some x) None h = refl
    over (Some x) (Some y) h = refl

    by : (cause o : Option PlainStop) → AbortIsLegal g R (record s { stop = o }) k cause → StopOk g R s.spots s.gone o → StopOk g R s.spots (k ∷ s.gone) (or_stop o cause)
    by None None h st = tt
    by (Some x) None h st = abort_stop g R s t k x good e h
    by cause (Some y) h st = stop_kept g R s.spots s.spots s.gone (k ∷ s.gone) (Some y) (record { taken = λ j. refl; ended = λ j e w. w; ops = λ j o. refl; gone_more = λ u w. inr w }) st

halt_good : (g : List PlainNode) (R : Rules) (s : State) → Good g R s → Good g R (record s { stop = Some memory_stop })
halt_good g R s good = record {
  spots = λ j. spot_kept g R s.spots s.spots (still s.spots) s.tickets s.tickets (is_none s.stop) false j (s.spots j) (λ b. absurd (true≢false (sym b))) (same_as j s.tickets) (good.spots j);
  tickets = good.tickets;
  stop = tt;
}

-- ### Close

done_of : (nd : PlainNode) (kind : Kind) (sp new : Spot) → new.waiting ≡ sp.waiting → new.taken ≡ sp.taken → MayClose nd kind sp → Done nd kind new
done_of nd (source items) sp new w t m = tt
done_of nd (operator op) sp new w t m = rw w m
done_of nd (process None) sp new w t m = elim m [
  | inl l ↦ inl (record { port = l.port; within = l.within; value = l.value; nothing = rw w l.nothing })
  | inr o ↦ inr (rw t o)
]
done_of nd (process (Some q)) sp new w t m = elim m [
  | inl l ↦ inl (record { port = l.port; within = l.within; value = l.value; nothing = rw w l.nothing })
  | inr o ↦ inr (rw w o)
]

-- the two ways to close differ in what is emitted
abbrev shut_on : Spot → (ℕ → List Plain) → Spot
shut_on sp emitted = record sp { closed = true; emitted = emitted }

close_made : (R : Rules) (i : ℕ) (kind : Kind) (sp : Spot) (emitted : ℕ → List Plain) → sp.closed ≡ false
    → ((out : ℕ) → emitted out ≡ sp.emitted out ++ to_out out (oks (op_ends kind sp.pushed))) → MadeOk R i kind sp → MadeOk R i kind (shut_on sp emitted)
close_made R i (source items) sp emitted isopen e m = absurd (true≢false (sym m.shut ∙ isopen))
close_made R i (process q) sp emitted isopen e m = record { emitted = λ out. e out ∙ append-nil (sp.emitted out) ∙ m.emitted out; decision = m.decision; no_pushed = m.no_pushed }
close_made R i (operator op) sp emitted isopen e m = record {
  emitted = λ out. e out ∙ (let a : sp.emitted out ≡ given_by op sp.pushed out = m.emitted out ∙ rw isopen (append-nil (given_by op sp.pushed out)) in rw a refl);
  fine = m.fine;
  by_rule = m.by_rule;
  no_ended = m.no_ended;
}

module _ (g : List PlainNode) (R : Rules) (s : State) (i : ℕ) (good : Good g R s) (legal : CloseIsLegal g s i) where
  close_spots : (emitted : ℕ → List Plain) (going' : Bool) → ((out : ℕ) → emitted out ≡ (s.spots i).emitted out ++ to_out out (oks (op_ends (node_at g i).kind (s.spots i).pushed)))
      → (going' ≡ true → ClosedWell (node_at g i).kind (shut_on (s.spots i) emitted))
      → (AllByRecursion (TicketOk g R (put s.spots i (shut_on (s.spots i) emitted))) s.tickets) × ((j : ℕ) → SpotOk g R (put s.spots i (shut_on (s.spots i) emitted)) s.tickets going' j (put s.spots i (shut_on (s.spots i) emitted) j))
  close_spots emitted going' is clean =
      let E = s.spots in
      let sp = E i in
      let nd = node_at g i in
      let isopen = legal.still in
      let going : is_none s.stop ≡ true = ap is_none legal.running in
      let old : (j : ℕ) → SpotOk g R E s.tickets true j (E j) = λ j. subst (λ b. SpotOk g R E s.tickets b j (E j)) going (good.spots j) in
      let new = shut_on sp emitted in
      let F = put E i new in
      let grows = grows_put E i new isopen (λ out. record { rest = to_out out (oks (op_ends nd.kind sp.pushed)); is = is out }) in
      let kept = spot_kept g R E F grows s.tickets s.tickets true true i sp (λ b. b) (same_as i s.tickets) (old i) in
      let frozen : (k : ℕ) → k < length nd.ports → F (port_at nd k).from ≡ E (port_at nd k).from = λ k l. grows.frozen (port_at nd k).from (legal.producers k l) in (
        tickets_kept g R E F grows s.tickets good.tickets,
        others g R E s.tickets s.tickets true going' i new grows (λ b. refl) (λ j n. same_as j s.tickets) old (record {
          ports = record { fits = kept.ports.fits; most = kept.ports.most; all = λ b. kept.ports.all refl; held = λ b. kept.ports.held refl };
          flight = record { most = kept.flight.most; all = λ b. kept.flight.all refl };
          takes = record { formed = kept.takes.formed; numbers = kept.takes.numbers; once = once_same nd.kind sp new refl kept.takes.once };
          made = close_made R i nd.kind sp emitted isopen is kept.made;
          clean = λ b c. clean b;
          whole = λ c. record {
            producers = λ k l. subst (λ (z : Spot). (z.closed ≡ true) × ClosedWell (node_at g (port_at nd k).from).kind z) (sym (frozen k l)) (legal.producers k l, (good.spots (port_at nd k).from).clean going (legal.producers k l));
            passed = λ k l. legal.passed k l ∙ ap (λ (z : Spot). length (z.emitted (port_at nd k).out)) (sym (frozen k l));
            flight = sym (count_is_passes (λ k. k.node == i) s.tickets) ∙ legal.flight;
            done = done_of nd nd.kind sp new refl refl legal.done;
          };
          quiet = λ b. kept.quiet refl;
        }),
      )

  clean_by : (kind : Kind) (sp new : Spot) (es : List (ℕ × Plain)) → op_ends kind sp.pushed ≡ Ok es → new.pushed ≡ sp.pushed → ClosedWell kind new
  clean_by (source items) sp new es e w = tt
  clean_by (process q) sp new es e w = tt
  clean_by (operator op) sp new es e w = rw (w, e) refl

  fault_by_kind : (kind : Kind) (E : ℕ → Spot) (f : Fault) → (E i).closed ≡ true → op_ends kind (E i).pushed ≡ Err f → OpStop g R E i kind f
  fault_by_kind (source items) E f c e = cc
  fault_by_kind (process q) E f c e = cc
  fault_by_kind (operator op) E f c e = inr (record { closed = c; fault = e })

  close_by : (r : Given) → op_ends (node_at g i).kind (s.spots i).pushed ≡ r → Good g R (do_close s i r)
  close_by (Ok es) e =
      let emitted : ℕ → List Plain = λ o. (s.spots i).emitted o ++ to_out o es in
      let w = close_spots emitted true (λ out. rw e refl) (λ b. clean_by (node_at g i).kind (s.spots i) (shut_on (s.spots i) emitted) es e refl) in
      rw legal.running (record { spots = w.1; tickets = w.0; stop = tt })
  close_by (Err f) e =
      let emitted : ℕ → List Plain = (s.spots i).emitted in
      let w = close_spots emitted false (λ out. rw e (sym (append-nil ((s.spots i).emitted out)))) (λ b. absurd (true≢false (sym b))) in
      let here : put s.spots i (shut_on (s.spots i) emitted) i ≡ shut_on (s.spots i) emitted = put_same s.spots i (shut_on (s.spots i) emitted) in
      rw legal.running (record {
        spots = w.1;
        tickets = w.0;
        stop = fault_by_kind (node_at g i).kind (put s.spots i (shut_on (s.spots i) emitted)) f (rw here refl) (rw here e);
      })

-- ### Histories

pub step_good : (g : List PlainNode) (R : Rules) (ok : IsGraph g) (s : State) (e : PlainEvent) → Good g R s → IsLegal g R s e → Good g R (step g s e)
step_good g R ok s (pass i k) good legal = pass_good g R s i k good legal
step_good g R ok s (taking i port place t n) good legal = take_good g R ok s i port place t n good legal
step_good g R ok s (give t a) good legal = give_ok g R s t a good legal
step_good g R ok s (start t cause) good legal = start_ok g R s t cause good legal
step_good g R ok s (finish t r outs) good legal = finish_found g R s t r outs (ticket_at t s.tickets) refl good legal
step_good g R ok s (reuse t r outs) good legal = reuse_found g R s t r outs (ticket_at t s.tickets) refl good legal
step_good g R ok s (close i) good legal = close_by g R s i good legal (op_ends (node_at g i).kind (s.spots i).pushed) refl
step_good g R ok s (abort t cause) good legal = abort_found g R s t cause (ticket_at t s.tickets) refl good legal
step_good g R ok s halt good legal = halt_good g R s good

pub replay_good : (g : List PlainNode) (R : Rules) (ok : IsGraph g) (s : State) (es : List PlainEvent) → Good g R s → IsLawful g R s es → Good g R (replay g s es)
replay_good g R ok s [] good h = good
replay_good g R ok s (e ∷ es) good h = replay_good g R ok (step g s e) es (step_good g R ok s e good h.0) h.1

-- ### The opening

taken_none : (E : ℕ → Spot) (nd : PlainNode) (going : Bool) (kind : Kind) → PortsOk E nd going (opened kind)
taken_none E nd going (source items) = record { fits = λ k. omega arith; most = λ k p. omega arith; all = λ s k p. refl; held = λ s pr k single. refl }
taken_none E nd going (operator op) = record { fits = λ k. omega arith; most = λ k p. omega arith; all = λ s k p. refl; held = λ s pr k single. refl }
taken_none E nd going (process q) = record { fits = λ k. omega arith; most = λ k p. omega arith; all = λ s k p. refl; held = λ s pr k single. refl }

open_flight : (i : ℕ) (kind : Kind) → FlightOk [] true i (opened kind)
open_flight i (source items) = record { most = λ p. omega arith; all = λ s p. refl }
open_flight i (operator op) = record { most = λ p. omega arith; all = λ s p. refl }
open_flight i (process q) = record { most = λ p. omega arith; all = λ s p. refl }

open_takes : (E : ℕ → Spot) (ports : List Port) (kind : Kind) → TakesOk E (record { kind = kind; ports = ports }) (opened kind)
open_takes E ports (source items) = record { formed = tt; numbers = λ p. refl; once = tt }
open_takes E ports (operator op) = record { formed = tt; numbers = λ p. refl; once = tt }
open_takes E ports (process None) = record { formed = tt; numbers = λ p. refl; once = (omega arith, tt) }
open_takes E ports (process (Some q)) = record { formed = tt; numbers = λ p. refl; once = tt }

open_made : (R : Rules) (i : ℕ) (kind : Kind) → MadeOk R i kind (opened kind)
open_made R i (source items) = record { emitted = λ out. refl; shut = refl }
open_made R i (operator op) = record { emitted = λ out. refl; fine = tt; by_rule = tt; no_ended = refl }
open_made R i (process q) = record { emitted = λ out. refl; decision = tt; no_pushed = refl }

open_clean : (kind : Kind) → (opened kind).closed ≡ true → ClosedWell kind (opened kind)
open_clean (source items) c = tt
open_clean (operator op) c = cc
open_clean (process q) c = tt

open_whole : (g : List PlainNode) (E : ℕ → Spot) (i : ℕ) (ports : List Port) (kind : Kind) → node_at g i ≡ record { kind = kind; ports = ports }
    → ((items : List Plain) → kind ≡ source items → ports ≡ []) → (opened kind).closed ≡ true → Whole g E [] i (opened kind)
open_whole g E i ports (source items) e bare c = (let z = bare items refl in record {
  producers = λ k l. absurd (none k (rw (e, z) at l));
  passed = λ k l. absurd (none k (rw (e, z) at l));
  flight = refl;
  done = rw e tt;
})
  where
    none : (k : ℕ) → k < 0 → ⊥
    none k h = omega arith
open_whole g E i ports (operator op) e bare c = absurd cc
open_whole g E i ports (process q) e bare c = absurd cc

open_quiet : (kind : Kind) → AllByRecursion (λ e. fault_of e.outs ≡ []) (opened kind).ended
open_quiet (source items) = tt
open_quiet (operator op) = tt
open_quiet (process q) = tt

pub opening_good : (g : List PlainNode) (R : Rules) (ok : IsGraph g) → Good g R (opening g)
opening_good g R ok = record {
  spots = λ i. record {
    ports = taken_none (opening g).spots (node_at g i) true (node_at g i).kind;
    flight = open_flight i (node_at g i).kind;
    takes = open_takes (opening g).spots (node_at g i).ports (node_at g i).kind;
    made = open_made R i (node_at g i).kind;
    clean = λ b c. open_clean (node_at g i).kind c;
    whole = λ c. open_whole g (opening g).spots i (node_at g i).ports (node_at g i).kind refl (ok.no_ports i) c;
    quiet = λ b. open_quiet (node_at g i).kind;
  };
  tickets = tt;
  stop = tt;
}

pub history_good : (g : List PlainNode) (R : Rules) (ok : IsGraph g) (es : List PlainEvent) → IsLawful g R (opening g) es → Good g R (replay g (opening g) es)
history_good g R ok es h = replay_good g R ok (opening g) es (opening_good g R ok) h
