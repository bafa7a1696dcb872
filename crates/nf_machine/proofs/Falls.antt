-- Each event leaves less to do.
use Rattle.std.proofs.Common.{◌≡◌, ℕ, zero, suc, ◌+◌, ◌*◌, ◌-◌, ◌<◌, ◌≤◌, List, [], ◌∷◌, ◌++◌, length, Bool, true, false, cond, refl, ap, sym, ◌∙◌, subst, arith, inl, inr, length-append}
use Rattle.std.specs.Prelude.{nat_lt, Option, Some, None, is_none, Result, Ok, Err, MatchOption, sum_by}
use Rattle.std.proofs.lemmas.Bool.{cases_Bool}
use Rattle.std.proofs.lemmas.Bool.Decides.{nat_tests}
use Rattle.std.proofs.lemmas.List.{get_or_past}
use Rattle.nf_value.specs.Plain.{Plain}
use Rattle.nf_value.specs.declared.fault.EvalFault.{EvalFault}
use Rattle.nf_job.specs.declared.parts.JobParts.{JobParts}
use Rattle.nf_job.specs.declared.report.Report.{Report}
use Rattle.nf_job.specs.declared.fault.TaskFault.{TaskFault}
use Rattle.nf_job.specs.declared.emitted.Outputs.TheVariants.{Emits, Ignored, Failed, Again}
use Rattle.nf_opstream.specs.Push.{Push}
use Rattle.nf_opstream.proofs.Tally.{tally-append, sum_is_tally}
use Rattle.nf_graph.specs.Rules.{Rules, IsRules, Outs, AreTriedAgain}
use Rattle.nf_graph.specs.Node.{source, PlainNode, no_node, node_at, IsGraph}
use Rattle.nf_graph.specs.Meaning.{put, cost}
use Rattle.nf_graph.specs.Faults.{item_fails, op_fails, task_fails}
use Rattle.nf_machine.specs.Event.{PlainStop, fault_stop, charge_stop, PlainEvent, pass, taking, give, start, finish, reuse, close, abort, halt}
use Rattle.nf_machine.specs.State.{Ended, Ticket, Spot, State, opening}
use Rattle.nf_machine.specs.Step.{limit, ticket_at, without, with_ticket, or_stop, passed_on, do_pass, next_item, take_at, Given, pushed_on, op_gives, op_ends, push_with, give_push, do_give, ended_on, end_of, ends_at, do_finish, do_close, at_ticket, step}
use Rattle.nf_machine.specs.Legal.{MayTake, MayClose, PassIsLegal, TakeIsLegal, CloseIsLegal, GiveIsLegal, StartIsLegal, FinishIsLegal, ReuseIsLegal, AbortIsLegal, IsLegal}
use Rattle.nf_machine.specs.History.{after, IsHistory}
use Rattle.nf_machine.specs.Going.{spot_work, work_to, moves_left, ticket_work, work}
use Rattle.nf_machine.proofs.Limit.{ChargeOk, replay_limit, opening_limit}
use Rattle.nf_machine.proofs.Measure.{work_put, pass_less, take_less, close_less}
use Rattle.nf_machine.proofs.Good.{TicketOk, Good}
use Rattle.nf_machine.proofs.Tickets.{found_tally, found_each}
use Rattle.nf_machine.proofs.Ends.{history_good}

-- ---- sums

falls_by : (m m' f f' b b' : ℕ) → m' ≡ m → f' < f → b' ≤ b → 204 * m' + f' + b' < 204 * m + f + b
falls_by m m' f f' b b' em lf lb = omega (arith, em, lf, lb)

moves_by : (m m' f f' b b' : ℕ) → m' < m → f' ≤ f + 203 → b' ≤ b → 204 * m' + f' + b' < 204 * m + f + b
moves_by m m' f f' b b' lm lf lb = omega (arith, lm, lf, lb)

at_most_one : (b : Bool) → cond b 1 0 ≤ 1
at_most_one true = omega arith
at_most_one false = omega arith

run_one : (o : Option PlainStop) → o ≡ None → (b : Bool) → cond b 1 0 ≤ cond (is_none o) 1 0
run_one None e b = at_most_one b
run_one (Some x) e b = absurd cc

stops_less : (a o : Option PlainStop) → cond (is_none (or_stop a o)) 1 0 ≤ cond (is_none a) 1 0
stops_less None o = at_most_one (is_none o)
stops_less (Some x) o = omega arith

work_same : (g : List PlainNode) (E : ℕ → Spot) (i : ℕ) (sp : Spot) (n : ℕ) → spot_work (node_at g i) sp ≡ spot_work (node_at g i) (E i) → work_to g (put E i sp) n ≡ work_to g E n
work_same g E i sp n e = elim (cases_Bool (nat_lt i n)) [
  | inl t ↦ (let l : i < n = grind (arith, nat_tests) in let a = (work_put g E i sp n).0 l in omega (arith, a, e))
  | inr f ↦ (let l : n ≤ i = grind (arith, nat_tests) in (work_put g E i sp n).1 l)
]

moves_same : (g : List PlainNode) (s u : State) (i : ℕ) (sp : Spot) → u.spots ≡ put s.spots i sp → u.charge ≡ s.charge → spot_work (node_at g i) sp ≡ spot_work (node_at g i) (s.spots i) → moves_left g u ≡ moves_left g s
moves_same g s u i sp e c w =
    let a : work_to g u.spots (length g) ≡ work_to g s.spots (length g) = ap (λ (E : ℕ → Spot). work_to g E (length g)) e ∙ work_same g s.spots i sp (length g) w in
    let b : limit + 1 - u.charge ≡ limit + 1 - s.charge = ap (λ n. limit + 1 - n) c in
    omega (arith, a, b)

-- ---- tickets

again_at : (job : ℕ → Result JobParts TaskFault) (outputs : ℕ → Report → Outs) (a : ℕ) (told : List Report) → AreTriedAgain job outputs a told → (j : ℕ) → j < length told → (r : Report) × (outputs (a + j) r ≡ Ok Again)
again_at job outputs a [] h j l = absurd (omega arith)
again_at job outputs a (r ∷ told) h zero l = let z : a + 0 ≡ a = omega arith in (r, ap (λ n. outputs n r) z ∙ h.1)
again_at job outputs a (r ∷ told) h (suc j) l =
    let w = again_at job outputs (suc a) told h.2 j (omega arith) in
    let z : a + suc j ≡ suc a + j = omega arith in
    (w.0, ap (λ n. outputs n w.0) z ∙ w.1)

few_told : (R : Rules) → IsRules R → (i : ℕ) (inputs : List Plain) (n : ℕ) (told : List Report) → AreTriedAgain (R.job i inputs n) (R.outputs i inputs) 1 told → length told ≤ 100
few_told R rules i inputs n told h = elim (cases_Bool (nat_lt 100 (length told))) [
  | inl t ↦ absurd (let l : 100 < length told = grind (arith, nat_tests) in
      let w = again_at (R.job i inputs n) (R.outputs i inputs) 1 told h 100 l in rules.last i inputs w.0 w.1)
  | inr f ↦ grind (arith, nat_tests)
]

cond_least : (b : Bool) → 0 ≤ cond b 0 1
cond_least b = omega arith

some_left : (k : Ticket) → length k.told ≤ 100 → 0 < ticket_work k
some_left k l = omega (arith, l, cond_least k.started)

module _ (g : List PlainNode) (R : Rules) (rules : IsRules R) (s : State) (t : ℕ) (k : Ticket) (good : Good g R s) (found : ticket_at t s.tickets ≡ Some k) where
  short : length k.told ≤ 100
  short = few_told R rules k.node k.take.inputs k.take.n k.told (found_each (TicketOk g R s.spots) t s.tickets k found good.tickets).again

  sums : sum_by ticket_work s.tickets ≡ ticket_work k + sum_by ticket_work (without t s.tickets)
  sums = sum_is_tally ticket_work s.tickets ∙ found_tally ticket_work t s.tickets k found ∙ ap (λ n. ticket_work k + n) (sym (sum_is_tally ticket_work (without t s.tickets)))

  one_less : sum_by ticket_work (without t s.tickets) < sum_by ticket_work s.tickets
  one_less = omega (arith, sums, some_left k short)

  back : (k' : Ticket) → sum_by ticket_work (with_ticket k' (without t s.tickets)) ≡ sum_by ticket_work (without t s.tickets) + ticket_work k'
  back k' =
      sum_is_tally ticket_work (with_ticket k' (without t s.tickets)) ∙ tally-append ticket_work (without t s.tickets) (k' ∷ [])
      ∙ (let a = sum_is_tally ticket_work (without t s.tickets) in omega (arith, a))

  swapped_less : (k' : Ticket) → ticket_work k' < ticket_work k → sum_by ticket_work (with_ticket k' (without t s.tickets)) < sum_by ticket_work s.tickets
  swapped_less k' l = omega (arith, sums, back k', l)

  start_falls : k.started ≡ false → ticket_work (record k { started = true }) < ticket_work k
  start_falls f = let a : ◌≡◌ {A = ℕ} (cond k.started 0 1) 1 = ap (λ b. cond b 0 1) f in omega (arith, a)

  again_falls : (r : Report) → ticket_work (record k { told = k.told ++ r ∷ []; started = false }) < ticket_work k
  again_falls r = let a : length (k.told ++ r ∷ []) ≡ length k.told + 1 = length-append k.told (r ∷ []) in omega (arith, a, short, cond_least k.started)

  push_falls : (u : State) (i : ℕ) (x : Push) (r : Given) → u.spots ≡ s.spots → u.charge ≡ s.charge → u.stop ≡ s.stop → u.tickets ≡ without t s.tickets → work g (give_push u i x r) < work g s
  push_falls u i x (Ok es) e c st tk =
      falls_by (moves_left g s) (moves_left g (give_push u i x (Ok es))) (sum_by ticket_work s.tickets) (sum_by ticket_work u.tickets) (cond (is_none s.stop) 1 0) (cond (is_none u.stop) 1 0)
      (moves_same g s (give_push u i x (Ok es)) i (pushed_on (u.spots i) x es) (ap (λ (E : ℕ → Spot). put E i (pushed_on (u.spots i) x es)) e) c (ap (λ (E : ℕ → Spot). spot_work (node_at g i) (E i)) e))
      (subst (λ ts. sum_by ticket_work ts < sum_by ticket_work s.tickets) (sym tk) one_less)
      (let a : ◌≡◌ {A = ℕ} (cond (is_none u.stop) 1 0) (cond (is_none s.stop) 1 0) = ap (λ o. cond (is_none o) 1 0) st in omega (arith, a))
  push_falls u i x (Err f) e c st tk =
      falls_by (moves_left g s) (moves_left g (give_push u i x (Err f))) (sum_by ticket_work s.tickets) (sum_by ticket_work u.tickets) (cond (is_none s.stop) 1 0) (cond (is_none (or_stop u.stop (Some (fault_stop (op_fails i f))))) 1 0)
      (let a : work_to g u.spots (length g) ≡ work_to g s.spots (length g) = ap (λ (E : ℕ → Spot). work_to g E (length g)) e in let b : limit + 1 - u.charge ≡ limit + 1 - s.charge = ap (λ n. limit + 1 - n) c in omega (arith, a, b))
      (subst (λ ts. sum_by ticket_work ts < sum_by ticket_work s.tickets) (sym tk) one_less)
      (subst (λ o. cond (is_none (or_stop o (Some (fault_stop (op_fails i f))))) 1 0 ≤ cond (is_none s.stop) 1 0) (sym st) (stops_less s.stop (Some (fault_stop (op_fails i f)))))

  give_falls : (a : Result Plain EvalFault) → work g (do_give g (record s { tickets = without t s.tickets }) k a) < work g s
  give_falls (Ok a) = push_falls (record s { tickets = without t s.tickets }) k.node (push_with k.take a) (op_gives (node_at g k.node).kind (s.spots k.node).pushed (push_with k.take a)) refl refl refl refl
  give_falls (Err f) =
      falls_by (moves_left g s) (moves_left g s) (sum_by ticket_work s.tickets) (sum_by ticket_work (without t s.tickets)) (cond (is_none s.stop) 1 0) (cond (is_none (or_stop s.stop (Some (fault_stop (item_fails k.node k.take.item f))))) 1 0)
      refl one_less (stops_less s.stop (Some (fault_stop (item_fails k.node k.take.item f))))

  -- a task that came back
  ends_fall : (e : Ended) (o : Option PlainStop) → work g (record (ends_at (record s { tickets = without t s.tickets }) k e) { stop = or_stop s.stop o }) < work g s
  ends_fall e o =
      falls_by (moves_left g s) (moves_left g (ends_at (record s { tickets = without t s.tickets }) k e)) (sum_by ticket_work s.tickets) (sum_by ticket_work (without t s.tickets)) (cond (is_none s.stop) 1 0) (cond (is_none (or_stop s.stop o)) 1 0)
      (moves_same g s (ends_at (record s { tickets = without t s.tickets }) k e) k.node (ended_on (s.spots k.node) e) refl refl refl)
      one_less (stops_less s.stop o)

  ends_run : (e : Ended) → work g (ends_at (record s { tickets = without t s.tickets }) k e) < work g s
  ends_run e =
      falls_by (moves_left g s) (moves_left g (ends_at (record s { tickets = without t s.tickets }) k e)) (sum_by ticket_work s.tickets) (sum_by ticket_work (without t s.tickets)) (cond (is_none s.stop) 1 0) (cond (is_none s.stop) 1 0)
      (moves_same g s (ends_at (record s { tickets = without t s.tickets }) k e) k.node (ended_on (s.spots k.node) e) refl refl refl)
      one_less (omega arith)

  swap_falls : (k' : Ticket) → ticket_work k' < ticket_work k → work g (record s { tickets = with_ticket k' (without t s.tickets) }) < work g s
  swap_falls k' l =
      falls_by (moves_left g s) (moves_left g s) (sum_by ticket_work s.tickets) (sum_by ticket_work (with_ticket k' (without t s.tickets))) (cond (is_none s.stop) 1 0) (cond (is_none s.stop) 1 0)
      refl (swapped_less k' l) (omega arith)

  finish_falls : (r : Report) (outs : Outs) → work g (do_finish (record s { tickets = without t s.tickets }) k r outs) < work g s
  finish_falls r (Ok (Emits vs)) = ends_run (end_of k r (Ok (Emits vs)))
  finish_falls r (Ok Ignored) = ends_run (end_of k r (Ok Ignored))
  finish_falls r (Ok (Failed f)) = ends_fall (end_of k r (Ok (Failed f))) (Some (fault_stop (task_fails k.node k.take.inputs k.take.n f)))
  finish_falls r (Ok Again) = swap_falls (record k { told = k.told ++ r ∷ []; started = false }) (again_falls r)
  finish_falls r (Err f) = ends_fall (end_of k r (Err f)) (Some (fault_stop (task_fails k.node k.take.inputs k.take.n f)))

  abort_falls : (cause : Option PlainStop) → work g (record s { tickets = without t s.tickets; gone = k ∷ s.gone; stop = or_stop s.stop cause }) < work g s
  abort_falls cause =
      falls_by (moves_left g s) (moves_left g s) (sum_by ticket_work s.tickets) (sum_by ticket_work (without t s.tickets)) (cond (is_none s.stop) 1 0) (cond (is_none (or_stop s.stop cause)) 1 0)
      refl one_less (stops_less s.stop cause)

-- ---- moves

node_of_take : (g : List PlainNode) (s : State) (i port place t n : ℕ) → TakeIsLegal g s i port place t n → i < length g
node_of_take g s i port place t n legal = elim (cases_Bool (nat_lt i (length g))) [
  | inl e ↦ grind (arith, nat_tests)
  | inr f ↦ absurd (let z : length g ≤ i = grind (arith, nat_tests) in let e : node_at g i ≡ no_node = get_or_past g i no_node z in
      let m : MayTake no_node (source []) (s.spots i) port place = subst (λ (node : PlainNode). MayTake node node.kind (s.spots i) port place) e legal.ready in m)
]

take_falls : (g : List PlainNode) (ok : IsGraph g) (s : State) (i port place t n : ℕ) → TakeIsLegal g s i port place t n → work g (step g s (taking i port place t n)) < work g s
take_falls g ok s i port place t n legal =
    let u = step g s (taking i port place t n) in
    let k : Ticket = record { number = s.next; node = i; take = take_at g s i port place; told = []; started = false } in
    let a : sum_by ticket_work (with_ticket k s.tickets) ≡ sum_by ticket_work s.tickets + 203 =
    sum_is_tally ticket_work (with_ticket k s.tickets) ∙ tally-append ticket_work s.tickets (k ∷ []) ∙ (let b = sum_is_tally ticket_work s.tickets in omega (arith, b)) in
    moves_by (moves_left g s) (moves_left g u) (sum_by ticket_work s.tickets) (sum_by ticket_work (with_ticket k s.tickets)) (cond (is_none s.stop) 1 0) (cond (is_none s.stop) 1 0)
    (take_less g ok s i port place t n (node_of_take g s i port place t n legal) legal) (omega (arith, a)) (omega arith)

pass_falls : (g : List PlainNode) (R : Rules) (s : State) (i k : ℕ) → ChargeOk s → PassIsLegal g s i k → work g (step g s (pass i k)) < work g s
pass_falls g R s i k limited legal =
    let m = pass_less g R s i k (limited.low legal.running) legal in
    by (next_item g s i k) m
  where
    by : (x : Plain) → moves_left g (do_pass s i k x) < moves_left g s → work g (do_pass s i k x) < work g s
    by x m = elim (cases_Bool (nat_lt limit (s.charge + cost x))) [
      | inl over ↦ rw over (moves_by (moves_left g s) (moves_left g (record s { spots = put s.spots i (passed_on (s.spots i) k); charge = s.charge + cost x; stop = Some (charge_stop (s.charge + cost x)) })) (sum_by ticket_work s.tickets) (sum_by ticket_work s.tickets) (cond (is_none s.stop) 1 0) 0
          (rw over at m) (omega arith) (omega arith))
      | inr below ↦ rw below (moves_by (moves_left g s) (moves_left g (record s { spots = put s.spots i (record (passed_on (s.spots i) k) { waiting = put (s.spots i).waiting k ((s.spots i).waiting k ++ x ∷ []) }); charge = s.charge + cost x })) (sum_by ticket_work s.tickets) (sum_by ticket_work s.tickets) (cond (is_none s.stop) 1 0) (cond (is_none s.stop) 1 0)
          (rw below at m) (omega arith) (omega arith))
    ]

closed_node : (g : List PlainNode) (R : Rules) (ok : IsGraph g) (s : State) (i : ℕ) → CloseIsLegal g s i → i < length g
closed_node g R ok s i legal = elim (cases_Bool (nat_lt i (length g))) [
  | inl e ↦ grind (arith, nat_tests)
  | inr f ↦ absurd (let z : length g ≤ i = grind (arith, nat_tests) in let e : node_at g i ≡ no_node = get_or_past g i no_node z in
      let m : MayClose no_node (source []) (s.spots i) = subst (λ (node : PlainNode). MayClose node node.kind (s.spots i)) e legal.done in m)
]

close_falls : (g : List PlainNode) (s : State) (i : ℕ) (r : Given) → i < length g → s.stop ≡ None → (s.spots i).closed ≡ false → work g (do_close s i r) < work g s
close_falls g s i (Ok es) l run isopen = moves_by (moves_left g s) (moves_left g (do_close s i (Ok es))) (sum_by ticket_work s.tickets) (sum_by ticket_work s.tickets) (cond (is_none s.stop) 1 0) (cond (is_none s.stop) 1 0) (close_less g s i (Ok es) l isopen) (omega arith) (omega arith)
close_falls g s i (Err f) l run isopen = moves_by (moves_left g s) (moves_left g (do_close s i (Err f))) (sum_by ticket_work s.tickets) (sum_by ticket_work s.tickets) (cond (is_none s.stop) 1 0) (cond (is_none (or_stop s.stop (Some (fault_stop (op_fails i f))))) 1 0) (close_less g s i (Err f) l isopen) (omega arith) (stops_less s.stop (Some (fault_stop (op_fails i f))))

-- ---- all events

module _ (g : List PlainNode) (R : Rules) (ok : IsGraph g) (rules : IsRules R) (s : State) (good : Good g R s) (limited : ChargeOk s) where
  give_found : (t : ℕ) (a : Result Plain EvalFault) (o : Option Ticket) → ticket_at t s.tickets ≡ o → MatchOption o ⊥ (λ k. GiveIsLegal g R s k a) → work g (at_ticket s t o (λ s' k. do_give g s' k a)) < work g s
  give_found t a None e h = absurd h
  give_found t a (Some k) e h = give_falls g R rules s t k good e a

  start_found : (t : ℕ) (o : Option Ticket) → ticket_at t s.tickets ≡ o → MatchOption o ⊥ (StartIsLegal g R s) → work g (at_ticket s t o (λ s' k. record s' { tickets = with_ticket (record k { started = true }) (s'.tickets) })) < work g s
  start_found t None e h = absurd h
  start_found t (Some k) e h = swap_falls g R rules s t k good e (record k { started = true }) (start_falls g R rules s t k good e h.fresh)

  report_found : (t : ℕ) (r : Report) (outs : Outs) (P : Ticket → Type 0) (o : Option Ticket) → ticket_at t s.tickets ≡ o → MatchOption o ⊥ P → work g (at_ticket s t o (λ s' k. do_finish s' k r outs)) < work g s
  report_found t r outs P None e h = absurd h
  report_found t r outs P (Some k) e h = finish_falls g R rules s t k good e r outs

  abort_found : (t : ℕ) (cause : Option PlainStop) (o : Option Ticket) → ticket_at t s.tickets ≡ o → MatchOption o ⊥ (λ k. AbortIsLegal g R s k cause) → work g (at_ticket s t o (λ s' k. record s' { gone = k ∷ s'.gone; stop = or_stop s'.stop cause })) < work g s
  abort_found t cause None e h = absurd h
  abort_found t cause (Some k) e h = abort_falls g R rules s t k good e cause

  step_falls : (e : PlainEvent) → IsLegal g R s e → work g (step g s e) < work g s
  step_falls (pass i k) l = pass_falls g R s i k limited l
  step_falls (taking i port place t n) l = take_falls g ok s i port place t n l
  step_falls (give t a) l = give_found t a (ticket_at t s.tickets) refl l
  step_falls (start t cause) l = start_found t (ticket_at t s.tickets) refl l
  step_falls (finish t r outs) l = report_found t r outs (λ k. FinishIsLegal g R k r outs) (ticket_at t s.tickets) refl l
  step_falls (reuse t r outs) l = report_found t r outs (λ k. ReuseIsLegal g R s k r outs) (ticket_at t s.tickets) refl l
  step_falls (close i) l = close_falls g s i (op_ends (node_at g i).kind (s.spots i).pushed) (closed_node g R ok s i l) l.running l.still
  step_falls (abort t cause) l = abort_found t cause (ticket_at t s.tickets) refl l
  step_falls halt l =
      let a : ◌≡◌ {A = ℕ} (cond (is_none s.stop) 1 0) 1 = ap (λ o. cond (is_none o) 1 0) l in omega (arith, a)

pub comes_to_an_end : (g : List PlainNode) (R : Rules) (h : List PlainEvent) (e : PlainEvent) → IsGraph g → IsRules R → IsHistory g R h → IsLegal g R (after g h) e → work g (step g (after g h) e) < work g (after g h)
comes_to_an_end g R h e ok rules lawful legal = step_falls g R ok rules (after g h) (history_good g R ok h lawful) (replay_limit g R (opening g) h lawful (opening_limit g)) e legal
