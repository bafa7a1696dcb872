-- What a run published is what the tasks publish that came back.
use Rattle.std.proofs.Common.{◌≡◌, ℕ, zero, suc, ◌+◌, ◌<◌, ◌≤◌, List, [], ◌∷◌, ◌++◌, map, length, Bool, true, false, cond, ◌&&◌, refl, ap, sym, ◌∙◌, subst, arith, inl, inr}
use Rattle.std.specs.Prelude.{nat_lt, Option, Some, None, is_none, MatchOption, Result, Ok, Err}
use Rattle.std.specs.List.{AllByRecursion, flat_map}
use Rattle.std.proofs.lemmas.Bool.{cases_eq, true≢false}
use Rattle.nf_value.specs.Plain.{Plain}
use Rattle.nf_value.specs.declared.fault.EvalFault.{EvalFault}
use Rattle.nf_job.specs.declared.parts.JobParts.{JobParts}
use Rattle.nf_job.specs.declared.report.Report.{Report}
use Rattle.nf_job.specs.declared.fault.TaskFault.{TaskFault}
use Rattle.nf_job.specs.declared.emitted.Outputs.TheVariants.{Emits, Ignored, Failed, Again}
use Rattle.nf_opstream.specs.Push.{Push}
use Rattle.nf_opstream.proofs.Tally.{passes, tally-append, one_if, Same, same_flat_map}
use Rattle.nf_opstream.proofs.Members.{In, contains}
use Rattle.nf_graph.specs.Rules.{Rules, Outs, decided, decided_by, refused_by, AreTriedAgain, fault_of}
use Rattle.nf_graph.specs.Node.{Kind, source, operator, process, PlainNode, node_at, IsGraph}
use Rattle.nf_graph.specs.Meaning.{Outcomes, Instance, put, bags, cost, instances}
use Rattle.nf_graph.proofs.Fix.{made_by_nodes}
use Rattle.nf_graph.proofs.Lists.{put_all, put_same, put_other}
use Rattle.nf_graph.proofs.Singles.{has_singles}
use Rattle.nf_machine.specs.Event.{PlainEvent, PlainStop, pass, taking, give, start, finish, reuse, close, abort, halt}
use Rattle.nf_machine.specs.History.{Agrees, IsHistory, IsLawful, IsPrefix, after, all_closed, ended_well}
use Rattle.nf_machine.specs.Legal.{IsLegal, IsProcessKind, FinishIsLegal, ReuseIsLegal, ReportIsLegal}
use Rattle.nf_machine.specs.State.{Ended, Take, Ticket, Spot, State, attempt_of, instance, opened, opening}
use Rattle.nf_machine.specs.Step.{Given, at_ticket, do_close, do_finish, do_give, do_pass, end_of, ended_on, give_push, limit, next_item, op_ends, op_gives, push_with, replay, step, ticket_at, without}
use Rattle.nf_machine.proofs.Ends.{history_good, opening_good, step_good}
use Rattle.nf_machine.proofs.Faultless.{closed_at}
use Rattle.nf_machine.proofs.Good.{FlightOk, Formed, Good, MadeOk, ProcessMade, TicketOk}
use Rattle.nf_machine.proofs.Theorem.{all_fit, proc_ended, process_within}
use Rattle.nf_machine.proofs.Tickets.{found_each}
use Rattle.nf_core.specs.Told.{told_from}
use Rattle.nf_tasks.specs.Judged.{Judged}
use Rattle.nf_tasks.specs.declared.target_list.Target.{Target}
use Rattle.nf_meaning.specs.Tasks.{targets_if, targets_from}
use Rattle.nf_published.specs.Published.{Publishing, published_for, published_by, published_in}

-- ---- the reports of one task

-- where all reports but the last are tried again, the last one decides
last_decides : (job : ℕ → Result JobParts TaskFault) (outs : ℕ → Report → Outs) (published : ℕ → Report → Judged (List Target)) (a : ℕ) (told : List Report) (r : Report) → AreTriedAgain job outs a told
    → targets_from outs published a (told ++ r ∷ []) ≡ targets_if (outs (a + length told) r) (published (a + length told) r) []
last_decides job outs published a [] r again = ap (λ m. targets_if (outs m r) (published m r) []) (omega arith)
last_decides job outs published a (x ∷ told) r again =
    ap (λ (y : Outs). targets_if y (published a x) (targets_from outs published (suc a) (told ++ r ∷ []))) again.1
    ∙ last_decides job outs published (suc a) told r again.2
    ∙ ap (λ m. targets_if (outs m r) (published m r) []) (omega arith)

-- what comes after the report that decides publishes nothing
later_alike : (outs : Outs) (published : Judged (List Target)) (a z : List Target) → (outs ≡ Ok Again → a ≡ z) → targets_if outs published a ≡ targets_if outs published z
later_alike (Ok Again) published a z same = same refl
later_alike (Ok (Emits vs)) (Ok ts) a z same = refl
later_alike (Ok (Emits vs)) (Err f) a z same = refl
later_alike (Ok Ignored) published a z same = refl
later_alike (Ok (Failed f)) published a z same = refl
later_alike (Err f) published a z same = refl

fault_decided : (f : TaskFault) (x : Outs) → ◌≡◌ {A = Option Outs} (Some (Err f)) (Some x) → fault_of x ≡ [] → ⊥
fault_decided f (Err y) e none = absurd cc
fault_decided f (Ok y) e none = absurd cc

undecided : (x : Outs) → ◌≡◌ {A = Option Outs} None (Some x) → ⊥
undecided x e = absurd cc

module _ (job : ℕ → Result JobParts TaskFault) (outs : ℕ → Report → Outs) (published : ℕ → Report → Judged (List Target)) (x : Outs) (fine : fault_of x ≡ []) where
  enough : (a : ℕ) (told rest : List Report) → decided job outs a told ≡ Some x → targets_from outs published a (told ++ rest) ≡ targets_from outs published a told
  enough a [] rest d = by (job a) d
    where
      by : (j : Result JobParts TaskFault) → refused_by j ≡ Some x → targets_from outs published a rest ≡ []
      by (Err f) e = absurd (fault_decided f x e fine)
      by (Ok p) e = absurd (undecided x e)
  enough a (r ∷ told) rest d = by (job a) (outs a r) refl d (λ e. enough (suc a) told rest e)
    where
      by : (j : Result JobParts TaskFault) (y : Outs) → outs a r ≡ y → decided_by j y (decided job outs (suc a) told) ≡ Some x
          → (decided job outs (suc a) told ≡ Some x → targets_from outs published (suc a) (told ++ rest) ≡ targets_from outs published (suc a) told)
          → targets_if (outs a r) (published a r) (targets_from outs published (suc a) (told ++ rest)) ≡ targets_if (outs a r) (published a r) (targets_from outs published (suc a) told)
      by (Err f) y is e more = absurd (fault_decided f x e fine)
      by (Ok p) (Ok Again) is e more = ap (targets_if (outs a r) (published a r)) (more e)
      by (Ok p) (Ok (Emits vs)) is e more = later_alike (outs a r) (published a r) _ _ (λ again. absurd (let z : ◌≡◌ {A = Outs} (Ok (Emits vs)) (Ok Again) = sym is ∙ again in cc))
      by (Ok p) (Ok Ignored) is e more = later_alike (outs a r) (published a r) _ _ (λ again. absurd (let z : ◌≡◌ {A = Outs} (Ok Ignored) (Ok Again) = sym is ∙ again in cc))
      by (Ok p) (Ok (Failed f)) is e more = later_alike (outs a r) (published a r) _ _ (λ again. absurd (let z : ◌≡◌ {A = Outs} (Ok (Failed f)) (Ok Again) = sym is ∙ again in cc))
      by (Ok p) (Err f) is e more = absurd (fault_decided f x e fine)

-- ---- what the tasks publish that came back to a node

some_stop : (x : PlainStop) → Some x ≡ None → ⊥
some_stop x e = cc

plus_none : (a b : ℕ) → a ≡ b → a ≡ 0 + b
plus_none a b e = omega (arith, e)

module _ (P : Publishing) (R : Rules) where
  -- what a task publishes, by the reports of its attempts
  abbrev pub of_reports : ℕ → List Plain → List Report → List Target
  of_reports i inputs told = targets_from (R.outputs i inputs) (P i inputs) 1 told

  abbrev pub of_ended : ℕ → List Ended → List Target
  of_ended i es = flat_map (λ (e : Ended). of_reports i e.take.inputs e.told) es

  module _ (p : Target → Bool) where
    -- how many of them pass a test, at the first so many nodes
    abbrev pub many : (ℕ → Spot) → ℕ → ℕ
    many E zero = 0
    many E (suc i) = passes p (of_ended i (E i).ended) + many E i

    many_same : (E F : ℕ → Spot) → ((i : ℕ) → (F i).ended ≡ (E i).ended) → (m : ℕ) → many F m ≡ many E m
    many_same E F same zero = refl
    many_same E F same (suc i) = (
        let a = ap (λ (es : List Ended). passes p (of_ended i es)) (same i) in
        let z = many_same E F same i in
        omega (arith, a, z))

    put_kept : (E : ℕ → Spot) (j : ℕ) (sp : Spot) → sp.ended ≡ (E j).ended → (m : ℕ) → many (put E j sp) m ≡ many E m
    put_kept E j sp same m = many_same E (put E j sp) (put_all (λ i (z : Spot). z.ended ≡ (E i).ended) E j sp same (λ i n. refl)) m

    put_past : (E : ℕ → Spot) (j : ℕ) (sp : Spot) (m : ℕ) → m ≤ j → many (put E j sp) m ≡ many E m
    put_past E j sp zero l = refl
    put_past E j sp (suc i) l = (
        let a = ap (λ (z : Spot). passes p (of_ended i z.ended)) (put_other E j sp i (λ e. omega (arith, e, l))) in
        let z = put_past E j sp i (omega (arith, l)) in
        omega (arith, a, z))

    put_more : (E : ℕ → Spot) (j : ℕ) (sp : Spot) (more : ℕ) → passes p (of_ended j sp.ended) ≡ more + passes p (of_ended j (E j).ended) → (m : ℕ) → j < m → many (put E j sp) m ≡ more + many E m
    put_more E j sp more is zero l = absurd (omega (arith, l))
    put_more E j sp more is (suc i) l = elim (cases_eq i j) [
      | inl e ↦ (
          let a : passes p (of_ended i (put E j sp i).ended) ≡ passes p (of_ended i sp.ended) = ap (λ (z : Spot). passes p (of_ended i z.ended)) (ap (put E j sp) e ∙ put_same E j sp) in
          let c : passes p (of_ended i sp.ended) ≡ more + passes p (of_ended i (E i).ended) = subst (λ n. passes p (of_ended n sp.ended) ≡ more + passes p (of_ended n (E n).ended)) (sym e) is in
          let z = put_past E j sp i (omega (arith, e)) in
          omega (arith, a, c, z))
      | inr n ↦ (
          let a : passes p (of_ended i (put E j sp i).ended) ≡ passes p (of_ended i (E i).ended) = ap (λ (z : Spot). passes p (of_ended i z.ended)) (put_other E j sp i n) in
          let within : j < i = grind (arith) in
          let z = put_more E j sp more is i within in
          omega (arith, a, z))
    ]

    -- ---- one event

    cond_kept : (b : Bool) (u v : State) (m n : ℕ) → many u.spots m ≡ n → many v.spots m ≡ n → many (cond b u v).spots m ≡ n
    cond_kept true u v m n x y = x
    cond_kept false u v m n x y = y

    pass_kept : (s : State) (j k : ℕ) (x : Plain) (m : ℕ) → many (do_pass s j k x).spots m ≡ many s.spots m
    pass_kept s j k x m = cond_kept (nat_lt limit (s.charge + cost x)) _ _ m (many s.spots m) (put_kept s.spots j _ refl m) (put_kept s.spots j _ refl m)

    push_kept : (s : State) (i : ℕ) (x : Push) (r : Given) (m : ℕ) → many (give_push s i x r).spots m ≡ many s.spots m
    push_kept s i x (Ok es) m = put_kept s.spots i _ refl m
    push_kept s i x (Err f) m = refl

    give_kept : (g : List PlainNode) (s : State) (k : Ticket) (a : Result Plain EvalFault) (m : ℕ) → many (do_give g s k a).spots m ≡ many s.spots m
    give_kept g s k (Ok v) m = push_kept s k.node (push_with k.take v) (op_gives (node_at g k.node).kind (s.spots k.node).pushed (push_with k.take v)) m
    give_kept g s k (Err f) m = refl

    close_kept : (s : State) (i : ℕ) (r : Given) (m : ℕ) → many (do_close s i r).spots m ≡ many s.spots m
    close_kept s i (Ok es) m = put_kept s.spots i _ refl m
    close_kept s i (Err f) m = put_kept s.spots i _ refl m

    ticket_kept : (s : State) (t : ℕ) (o : Option Ticket) (f : State → Ticket → State) (m : ℕ) → ((u : State) (k : Ticket) → many (f u k).spots m ≡ many u.spots m) → many (at_ticket s t o f).spots m ≡ many s.spots m
    ticket_kept s t None f m keeps = refl
    ticket_kept s t (Some k) f m keeps = keeps (record s { tickets = without t s.tickets }) k

    module _ (g : List PlainNode) where
      -- a task came back
      back_more : (s : State) (k : Ticket) (r : Report) (outs due : Outs) → k.node < length g → AreTriedAgain (R.job k.node k.take.inputs k.take.n) (R.outputs k.node k.take.inputs) 1 k.told
          → due ≡ R.outputs k.node k.take.inputs (attempt_of k) r
          → many (put s.spots k.node (ended_on (s.spots k.node) (end_of k r outs))) (length g) ≡ passes p (published_for P r due (Some k)) + many s.spots (length g)
      back_more s k r outs due within again is =
          put_more s.spots k.node (ended_on (s.spots k.node) (end_of k r outs)) (passes p (published_for P r due (Some k)))
          (tally-append (λ x. one_if (p x)) (of_reports k.node k.take.inputs (k.told ++ r ∷ [])) (of_ended k.node (s.spots k.node).ended)
          ∙ ap (λ (ts : List Target). passes p ts + passes p (of_ended k.node (s.spots k.node).ended))
          (last_decides (R.job k.node k.take.inputs k.take.n) (R.outputs k.node k.take.inputs) (P k.node k.take.inputs) 1 k.told r again
          ∙ ap (λ n. targets_if (R.outputs k.node k.take.inputs n r) (P k.node k.take.inputs n r) []) (omega arith)
          ∙ ap (λ (y : Outs). targets_if y (P k.node k.take.inputs (attempt_of k) r) []) (sym is)))
          (length g) within

      finish_more : (s : State) (k : Ticket) (r : Report) (outs : Outs) → k.node < length g → AreTriedAgain (R.job k.node k.take.inputs k.take.n) (R.outputs k.node k.take.inputs) 1 k.told
          → outs ≡ R.outputs k.node k.take.inputs (attempt_of k) r
          → many (do_finish s k r outs).spots (length g) ≡ passes p (published_for P r outs (Some k)) + many s.spots (length g)
      finish_more s k r (Ok Again) within again is = plus_none _ _ refl
      finish_more s k r (Ok (Emits vs)) within again is = back_more s k r (Ok (Emits vs)) (Ok (Emits vs)) within again is
      finish_more s k r (Ok Ignored) within again is = back_more s k r (Ok Ignored) (Ok Ignored) within again is
      finish_more s k r (Ok (Failed f)) within again is = back_more s k r (Ok (Failed f)) (Ok (Failed f)) within again is
      finish_more s k r (Err f) within again is = back_more s k r (Err f) (Err f) within again is

      report_more : (s : State) (t : ℕ) (r : Report) (outs : Outs) (o : Option Ticket) → ticket_at t s.tickets ≡ o → Good g R s → MatchOption o ⊥ (λ k. ReportIsLegal g R k r outs)
          → many (at_ticket s t o (λ u k. do_finish u k r outs)).spots (length g) ≡ passes p (published_for P r outs o) + many s.spots (length g)
      report_more s t r outs None e good l = absurd l
      report_more s t r outs (Some k) e good l =
          finish_more (record s { tickets = without t s.tickets }) k r outs (process_within g k.node l.kind)
          (found_each (TicketOk g R s.spots) t s.tickets k e good.tickets).again l.by_rule

      finish_legal : (s : State) (r : Report) (outs : Outs) (o : Option Ticket) → MatchOption o ⊥ (λ k. FinishIsLegal g R k r outs) → MatchOption o ⊥ (λ k. ReportIsLegal g R k r outs)
      finish_legal s r outs None l = l
      finish_legal s r outs (Some k) l = l.report

      reuse_legal : (s : State) (r : Report) (outs : Outs) (o : Option Ticket) → MatchOption o ⊥ (λ k. ReuseIsLegal g R s k r outs) → MatchOption o ⊥ (λ k. ReportIsLegal g R k r outs)
      reuse_legal s r outs None l = l
      reuse_legal s r outs (Some k) l = l.report

      step_more : (s : State) (e : PlainEvent) → Good g R s → IsLegal g R s e → many (step g s e).spots (length g) ≡ passes p (published_by P s e) + many s.spots (length g)
      step_more s (pass j k) good l = plus_none _ _ (pass_kept s j k (next_item g s j k) (length g))
      step_more s (taking j port place t n) good l = plus_none _ _ (put_kept s.spots j _ refl (length g))
      step_more s (give t a) good l = plus_none _ _ (ticket_kept s t (ticket_at t s.tickets) _ (length g) (λ u k. give_kept g u k a (length g)))
      step_more s (start t cause) good l = plus_none _ _ (ticket_kept s t (ticket_at t s.tickets) _ (length g) (λ u k. refl))
      step_more s (finish t r outs) good l = report_more s t r outs (ticket_at t s.tickets) refl good (finish_legal s r outs (ticket_at t s.tickets) l)
      step_more s (reuse t r outs) good l = report_more s t r outs (ticket_at t s.tickets) refl good (reuse_legal s r outs (ticket_at t s.tickets) l)
      step_more s (close j) good l = plus_none _ _ (close_kept s j (op_ends (node_at g j).kind (s.spots j).pushed) (length g))
      step_more s (abort t cause) good l = plus_none _ _ (ticket_kept s t (ticket_at t s.tickets) _ (length g) (λ u k. refl))
      step_more s halt good l = plus_none _ _ refl

      replay_more : IsGraph g → (s : State) (h : List PlainEvent) → Good g R s → IsLawful g R s h → many (replay g s h).spots (length g) ≡ passes p (told_from (published_by P) g s h) + many s.spots (length g)
      replay_more ok s [] good l = plus_none _ _ refl
      replay_more ok s (e ∷ h) good l = (
          let one = step_more s e good l.0 in
          let rest = replay_more ok (step g s e) h (step_good g R ok s e good l.0) l.1 in
          let both = tally-append (λ y. one_if (p y)) (published_by P s e) (told_from (published_by P) g (step g s e) h) in
          omega (arith, one, rest, both))

      opened_none : (i : ℕ) (kind : Kind) → passes p (of_ended i (opened kind).ended) ≡ 0
      opened_none i (source items) = refl
      opened_none i (operator op) = refl
      opened_none i (process q) = refl

      opening_none : (m : ℕ) → many (opening g).spots m ≡ 0
      opening_none zero = refl
      opening_none (suc i) = (let a = opened_none i (node_at g i).kind in let z = opening_none i in omega (arith, a, z))

      -- all that was published is what the tasks publish that came back
      pub told_many : IsGraph g → (h : List PlainEvent) → IsHistory g R h → passes p (published_in P g h) ≡ many (after g h).spots (length g)
      told_many ok h lawful = (
          let a = replay_more ok (opening g) h (opening_good g R ok) lawful in
          let z = opening_none (length g) in
          omega (arith, a, z))

-- ---- a run that ended well

both_true : (a b : Bool) → (a && b) ≡ true → (a ≡ true) × (b ≡ true)
both_true true b h = (refl, h)
both_true false b h = absurd (true≢false (sym h))

none_is : (o : Option PlainStop) → is_none o ≡ true → o ≡ None
none_is None h = refl
none_is (Some x) h = absurd (true≢false (sym h))

none_taken : (E : ℕ → Spot) (nd : PlainNode) (items : List Plain) (ts : List Take) → AllByRecursion (Formed E nd (source items)) ts → passes (λ (t : Take). true) ts ≡ 0
none_taken E nd items [] f = refl
none_taken E nd items (t ∷ ts) f = absurd f.0

none_in : {A : Type 0} (xs : List A) → passes (λ (x : A). true) xs ≡ 0 → xs ≡ []
none_in [] z = refl
none_in (x ∷ xs) z = absurd (omega (arith, z))

-- only a process's tasks come back
none_ended : (E : ℕ → Spot) (nd : PlainNode) (R : Rules) (ts : List Ticket) (going : Bool) (i : ℕ) (sp : Spot) → FlightOk ts going i sp → (kind : Kind) → MadeOk R i kind sp → AllByRecursion (Formed E nd kind) sp.taken
    → (IsProcessKind kind → ⊥) → sp.ended ≡ []
none_ended E nd R ts going i sp flight (source items) made formed other =
    none_in sp.ended (let a = none_taken E nd items sp.taken formed in let most = flight.most (λ t. true) in omega (arith, a, most))
none_ended E nd R ts going i sp flight (operator op) made formed other = made.no_ended
none_ended E nd R ts going i sp flight (process q) made formed other = absurd (other tt)

module _ (P : Publishing) (g : List PlainNode) (R : Rules) (o : Outcomes) (h : List PlainEvent) (ok : IsGraph g) (lawful : IsHistory g R h) (agree : Agrees o (after g h)) (well : ended_well g (after g h) ≡ true) where
  abbrev s : State
  s = after g h

  abbrev of_instance : ℕ → Instance → List Target
  of_instance i z = of_reports P R i z.0 (o i z.0 z.1)

  good : Good g R s
  good = history_good g R ok h lawful

  running : s.stop ≡ None
  running = none_is s.stop (both_true (all_closed g s) (is_none s.stop) well).1

  -- the outcomes tell of each task that came back what it was told
  as_told : (i : ℕ) (es : List Ended) → AllByRecursion (λ e. decided (R.job i e.take.inputs e.take.n) (R.outputs i e.take.inputs) 1 e.told ≡ Some e.outs) es → AllByRecursion (λ e. fault_of e.outs ≡ []) es
      → ((e : Ended) → In e es → IsPrefix e.told (o i e.take.inputs e.take.n)) → flat_map (of_instance i) (map (λ e. instance e.take) es) ≡ of_ended P R i es
  as_told i [] d q a = refl
  as_told i (e ∷ es) d q a =
      let pre = a e (inl refl) in
      let one : of_instance i (instance e.take) ≡ of_reports P R i e.take.inputs e.told =
      ap (of_reports P R i e.take.inputs) pre.is ∙ enough (R.job i e.take.inputs e.take.n) (R.outputs i e.take.inputs) (P i e.take.inputs) e.outs q.0 1 e.told pre.rest d.0 in
      ap (λ (ts : List Target). ts ++ flat_map (of_instance i) (map (λ e. instance e.take) es)) one
      ∙ ap (λ (ts : List Target). of_reports P R i e.take.inputs e.told ++ ts) (as_told i es d.1 q.1 (λ u w. a u (inr w)))

  -- a process's tasks that came back are its instances
  pub process_published : (i : ℕ) (q : Option ℕ) → i < length g → (node_at g i).kind ≡ process q → Same (of_ended P R i (s.spots i).ended) (flat_map (of_instance i) (instances (bags R o g) (node_at g i) q))
  process_published i q within is =
      let made : ProcessMade R i (s.spots i) = (rw is at (good.spots i).made) in
      let shut = closed_at s.spots (length g) i (both_true (all_closed g s) (is_none s.stop) well).0 within in
      let means = made_by_nodes g R o ok in
      let lone = has_singles g R o ok in
      let before = λ (j : ℕ) (l : j < i). all_fit g R ok o s good agree (bags R o g) means lone j in
      let told = as_told i (s.spots i).ended made.decision ((good.spots i).quiet (ap is_none running)) (λ e m. agree.ended i e (contains e (s.spots i).ended m)) in
      subst (λ (ts : List Target). Same ts (flat_map (of_instance i) (instances (bags R o g) (node_at g i) q))) told
      (same_flat_map (of_instance i) (proc_ended g R ok o s good agree (bags R o g) means lone i before q is made shut))

  pub other_published : (i : ℕ) → (IsProcessKind (node_at g i).kind → ⊥) → of_ended P R i (s.spots i).ended ≡ []
  other_published i other =
      let spot = good.spots i in
      ap (of_ended P R i) (none_ended s.spots (node_at g i) R s.tickets _ i (s.spots i) spot.flight (node_at g i).kind spot.made spot.takes.formed other)
