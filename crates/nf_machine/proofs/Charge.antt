-- The charge is the cost of what passed.
use Rattle.std.proofs.Common.{◌≡◌, ℕ, zero, suc, ◌+◌, ◌<◌, ◌≤◌, List, [], ◌∷◌, ◌++◌, map, length, take, get_or, true, refl, ap, sym, ◌∙◌, subst, arith, inl, inr, add-one}
use Rattle.std.specs.Prelude.{nat_lt, Option, Some, None, Result, Ok, Err}
use Rattle.std.proofs.lemmas.Bool.{cases_eq, cases_Bool}
use Rattle.std.proofs.lemmas.Bool.Decides.{nat_tests}
use Rattle.std.proofs.lemmas.List.{take_more, get_or_past}
use Rattle.nf_value.specs.Plain.{Plain, null}
use Rattle.nf_value.specs.declared.fault.EvalFault.{EvalFault}
use Rattle.nf_job.specs.declared.report.Report.{Report}
use Rattle.nf_job.specs.declared.emitted.Outputs.TheVariants.{Emits, Ignored, Failed, Again}
use Rattle.nf_opstream.specs.Push.{Push}
use Rattle.nf_opstream.specs.Operator.{to_out}
use Rattle.nf_opstream.proofs.Tally.{tally, Sub, tally-append, tally-map, tally_sub, sub_trans, sum_is_tally}
use Rattle.nf_graph.specs.declared.port.Port.{Port}
use Rattle.nf_graph.specs.Rules.{Rules, Outs, emit_at}
use Rattle.nf_graph.specs.Node.{PlainNode, port_in, port_at, no_node, node_at}
use Rattle.nf_graph.specs.Meaning.{Bags, put, delivered, deliveries, cost, charge_to}
use Rattle.nf_graph.specs.Faults.{item_fails}
use Rattle.nf_graph.proofs.Lists.{put_same, put_other, put_all}
use Rattle.nf_machine.specs.Event.{PlainStop, fault_stop, charge_stop, memory_stop, PlainEvent, pass, taking, give, start, finish, reuse, close, abort, halt}
use Rattle.nf_machine.specs.State.{Ended, Ticket, Spot, State, feed}
use Rattle.nf_machine.specs.Step.{limit, ticket_at, without, with_ticket, or_stop, with_stop, passed_on, take_at, left_at, Given, pushed_on, op_gives, op_ends, push_with, give_push, do_give, ended_on, end_of, do_finish, do_close, at_ticket, step}
use Rattle.nf_machine.specs.Legal.{PassIsLegal, IsLegal}
use Rattle.nf_machine.proofs.Good.{Good}
use Rattle.nf_machine.proofs.Frame.{More, no_more, take_same, unmoved}
use Rattle.nf_machine.proofs.Gives.{more_append}
use Rattle.nf_machine.proofs.Delivery.{sub_take}

-- what the ports from k on passed
abbrev pub spent : (ℕ → Spot) → (ℕ → ℕ) → ℕ → List Port → ℕ
spent E passed k [] = 0
spent E passed k (p ∷ ps) = tally cost (take (passed k) (feed E p)) + spent E passed (suc k) ps

abbrev pub spent_to : (ℕ → Spot) → List PlainNode → ℕ → ℕ
spent_to E g zero = 0
spent_to E g (suc i) = spent E (E i).passed 0 (node_at g i).ports + spent_to E g i

abbrev pub Charged : List PlainNode → State → Type 0
Charged g s = s.charge ≡ spent_to s.spots g (length g)

-- nothing passed
pub record Quiet (s u : State) : Type 0 where
  pub passed : (i : ℕ) → (u.spots i).passed ≡ (s.spots i).passed
  pub emitted : (i out : ℕ) → More ((s.spots i).emitted out) ((u.spots i).emitted out)
  pub charge : u.charge ≡ s.charge

spent_same : (E F : ℕ → Spot) (passed : ℕ → ℕ) (k : ℕ) (ps : List Port) → ((i out : ℕ) → More ((E i).emitted out) ((F i).emitted out))
    → ((j : ℕ) → j < length ps → passed (k + j) ≤ length (feed E (port_in ps j))) → spent F passed k ps ≡ spent E passed k ps
spent_same E F passed k [] m h = refl
spent_same E F passed k (p ∷ ps) m h =
    let l : passed k ≤ length (feed E p) = (let e : k + 0 ≡ k = omega arith in subst (λ z. passed z ≤ length (feed E p)) e (h 0 (omega arith))) in
    let a : take (passed k) (feed F p) ≡ take (passed k) (feed E p) = take_same (passed k) (feed E p) (feed F p) l (m p.from p.out) in
    rw a (ap (λ n. tally cost (take (passed k) (feed E p)) + n) (spent_same E F passed (suc k) ps m (λ j b. let e : suc k + j ≡ k + suc j = omega arith in rw e (h (suc j) (omega arith)))))

quiet_to : (g : List PlainNode) (R : Rules) (s u : State) → Good g R s → Quiet s u → (n : ℕ) → spent_to u.spots g n ≡ spent_to s.spots g n
quiet_to g R s u good q zero = refl
quiet_to g R s u good q (suc i) =
    let a : spent u.spots (u.spots i).passed 0 (node_at g i).ports ≡ spent s.spots (s.spots i).passed 0 (node_at g i).ports =
    rw (q.passed i) (spent_same s.spots u.spots (s.spots i).passed 0 (node_at g i).ports q.emitted (λ j l. let e : 0 + j ≡ j = omega arith in rw e ((good.spots i).ports.fits j))) in
    omega (arith, a, quiet_to g R s u good q i)

pub quiet_charged : (g : List PlainNode) (R : Rules) (s u : State) → Good g R s → Quiet s u → Charged g s → Charged g u
quiet_charged g R s u good q h = q.charge ∙ h ∙ sym (quiet_to g R s u good q (length g))

-- one spot changes
quiet_put : (s u : State) (i : ℕ) (sp : Spot) → u.spots ≡ put s.spots i sp → u.charge ≡ s.charge → sp.passed ≡ (s.spots i).passed → ((out : ℕ) → More ((s.spots i).emitted out) (sp.emitted out)) → Quiet s u
quiet_put s u i sp e c p m = record {
  passed = rw e (put_all (λ j (z : Spot). z.passed ≡ (s.spots j).passed) s.spots i sp p (λ j n. refl));
  emitted = rw e (put_all (λ j (z : Spot). (out : ℕ) → More ((s.spots j).emitted out) (z.emitted out)) s.spots i sp m (λ j n out. no_more ((s.spots j).emitted out)));
  charge = c;
}

quiet_none : (s u : State) → u.spots ≡ s.spots → u.charge ≡ s.charge → Quiet s u
quiet_none s u e c = record { passed = rw e (λ i. refl); emitted = rw e (λ i out. no_more ((s.spots i).emitted out)); charge = c }

quiet_result : (g : List PlainNode) (s u : State) (i : ℕ) (x : Push) (r : Given) → u.spots ≡ s.spots → u.charge ≡ s.charge → Quiet s (give_push u i x r)
quiet_result g s u i x (Ok es) e c = quiet_put s (give_push u i x (Ok es)) i (pushed_on (u.spots i) x es) (rw e refl) c (rw e refl) (λ out. rw e (more_append ((s.spots i).emitted out) (to_out out es)))
quiet_result g s u i x (Err f) e c = quiet_none s (give_push u i x (Err f)) e c

quiet_give : (g : List PlainNode) (s : State) (t : ℕ) (a : Result Plain EvalFault) (o : Option Ticket) → Quiet s (at_ticket s t o (λ s' k. do_give g s' k a))
quiet_give g s t a None = quiet_none s s refl refl
quiet_give g s t (Ok a) (Some k) = quiet_result g s (record s { tickets = without t s.tickets }) k.node (push_with k.take a) (op_gives (node_at g k.node).kind (s.spots k.node).pushed (push_with k.take a)) refl refl
quiet_give g s t (Err f) (Some k) = quiet_none s (with_stop (record s { tickets = without t s.tickets }) (fault_stop (item_fails k.node k.take.item f))) refl refl

quiet_start : (s : State) (t : ℕ) (o : Option Ticket) → Quiet s (at_ticket s t o (λ s' k. record s' { tickets = with_ticket (record k { started = true }) (s'.tickets) }))
quiet_start s t None = quiet_none s s refl refl
quiet_start s t (Some k) = quiet_none s (record s { tickets = with_ticket (record k { started = true }) (without t s.tickets) }) refl refl

quiet_ends : (s u : State) (k : Ticket) (e : Ended) → u.spots ≡ put s.spots k.node (ended_on (s.spots k.node) e) → u.charge ≡ s.charge → Quiet s u
quiet_ends s u k e is c = quiet_put s u k.node (ended_on (s.spots k.node) e) is c refl (λ out. more_append ((s.spots k.node).emitted out) (emit_at e.outs out))

quiet_finish : (s : State) (t : ℕ) (r : Report) (outs : Outs) (o : Option Ticket) → Quiet s (at_ticket s t o (λ s' k. do_finish s' k r outs))
quiet_finish s t r outs None = quiet_none s s refl refl
quiet_finish s t r (Ok (Emits vs)) (Some k) = quiet_ends s (do_finish (record s { tickets = without t s.tickets }) k r (Ok (Emits vs))) k (end_of k r (Ok (Emits vs))) refl refl
quiet_finish s t r (Ok Ignored) (Some k) = quiet_ends s (do_finish (record s { tickets = without t s.tickets }) k r (Ok Ignored)) k (end_of k r (Ok Ignored)) refl refl
quiet_finish s t r (Ok (Failed f)) (Some k) = quiet_ends s (do_finish (record s { tickets = without t s.tickets }) k r (Ok (Failed f))) k (end_of k r (Ok (Failed f))) refl refl
quiet_finish s t r (Ok Again) (Some k) = quiet_none s (do_finish (record s { tickets = without t s.tickets }) k r (Ok Again)) refl refl
quiet_finish s t r (Err f) (Some k) = quiet_ends s (do_finish (record s { tickets = without t s.tickets }) k r (Err f)) k (end_of k r (Err f)) refl refl

quiet_abort : (s : State) (t : ℕ) (cause : Option PlainStop) (o : Option Ticket) → Quiet s (at_ticket s t o (λ s' k. record s' { gone = k ∷ s'.gone; stop = or_stop s'.stop cause }))
quiet_abort s t cause None = quiet_none s s refl refl
quiet_abort s t cause (Some k) = quiet_none s (record s { tickets = without t s.tickets; gone = k ∷ s.gone; stop = or_stop s.stop cause }) refl refl

quiet_close : (s : State) (i : ℕ) (r : Given) → Quiet s (do_close s i r)
quiet_close s i (Ok es) = quiet_put s (do_close s i (Ok es)) i (record (s.spots i) { closed = true; emitted = λ o. (s.spots i).emitted o ++ to_out o es }) refl refl refl (λ out. more_append ((s.spots i).emitted out) (to_out out es))
quiet_close s i (Err f) = quiet_put s (do_close s i (Err f)) i (record (s.spots i) { closed = true }) refl refl refl (λ out. no_more ((s.spots i).emitted out))

-- ### Pass

beyond_same : (E : ℕ → Spot) (f h : ℕ → ℕ) (k : ℕ) (ps : List Port) → ((j : ℕ) → h (k + j) ≡ f (k + j)) → spent E h k ps ≡ spent E f k ps
beyond_same E f h k [] e = refl
beyond_same E f h k (p ∷ ps) e =
    let a : h k ≡ f k = (let z : k + 0 ≡ k = omega arith in subst (λ n. h n ≡ f n) z (e 0)) in
    let b = beyond_same E f h (suc k) ps (λ j. let z : suc k + j ≡ k + suc j = omega arith in rw z (e (suc j))) in
    rw (a, b) refl

-- what one port more passed: m is k + at
spent_more : (E : ℕ → Spot) (passed : ℕ → ℕ) (k at m : ℕ) (ps : List Port) → k + at ≡ m → at < length ps
    → passed m < length (feed E (port_in ps at))
    → spent E (put passed m (suc (passed m))) k ps ≡ cost (get_or (feed E (port_in ps at)) (passed m) null) + spent E passed k ps
spent_more E passed k at m [] is l h = absurd (omega arith)
spent_more E passed k zero m (p ∷ ps) is l h =
    let e : k ≡ m = omega arith in
    let here : put passed m (suc (passed m)) k ≡ suc (passed m) = rw e (put_same passed m (suc (passed m))) in
    let old : passed k ≡ passed m = ap passed e in
    let t : take (suc (passed m)) (feed E p) ≡ take (passed m) (feed E p) ++ get_or (feed E p) (passed m) null ∷ [] = rw (← add-one) (take_more (feed E p) (passed m) null h) in
    let rest : spent E (put passed m (suc (passed m))) (suc k) ps ≡ spent E passed (suc k) ps = beyond_same E passed (put passed m (suc (passed m))) (suc k) ps (λ j. put_other passed m (suc (passed m)) (suc k + j) (λ z. omega arith)) in
    rw (here, old, t, rest) (omega (arith, tally-append cost (take (passed m) (feed E p)) (get_or (feed E p) (passed m) null ∷ [])))
spent_more E passed k (suc at) m (p ∷ ps) is l h =
    let there : put passed m (suc (passed m)) k ≡ passed k = put_other passed m (suc (passed m)) k (λ z. omega arith) in
    let rest = spent_more E passed (suc k) at m ps (omega arith) (omega arith) h in
    rw there (omega (arith, rest))

-- the sum over the nodes changes at one
total_more : (E F : ℕ → Spot) (g : List PlainNode) (i c : ℕ) → ((j : ℕ) → (j ≡ i → ⊥) → spent F (F j).passed 0 (node_at g j).ports ≡ spent E (E j).passed 0 (node_at g j).ports)
    → spent F (F i).passed 0 (node_at g i).ports ≡ c + spent E (E i).passed 0 (node_at g i).ports → (n : ℕ) → (i < n → spent_to F g n ≡ c + spent_to E g n) × (n ≤ i → spent_to F g n ≡ spent_to E g n)
total_more E F g i c other here zero = ((λ l. absurd (omega arith)), (λ l. refl))
total_more E F g i c other here (suc j) =
    let ih = total_more E F g i c other here j in
    elim (cases_eq j i) [
      | inl e ↦ ((λ l. let b = ih.1 (omega arith) in let h : spent F (F j).passed 0 (node_at g j).ports ≡ c + spent E (E j).passed 0 (node_at g j).ports = (subst (λ m. spent F (F m).passed 0 (node_at g m).ports ≡ c + spent E (E m).passed 0 (node_at g m).ports) (sym e) here) in omega (arith, b, h)), (λ l. absurd (omega arith)))
      | inr n ↦ (let o = other j n in ((λ l. let a = ih.0 (not_last j l n) in omega (arith, a, o)), (λ l. let b = ih.1 (omega arith) in omega (arith, b, o))))
    ]
  where
    not_last : (j : ℕ) → i < suc j → (j ≡ i → ⊥) → i < j
    not_last j l n = elim (cases_eq j i) [ inl e ↦ absurd (n e) | inr m ↦ grind arith ]

pub node_within : (g : List PlainNode) (i k : ℕ) → k < length (node_at g i).ports → i < length g
node_within g i k l = elim (cases_Bool (nat_lt i (length g))) [
  | inl t ↦ grind (arith, nat_tests)
  | inr f ↦ absurd (let z : length g ≤ i = grind (arith, nat_tests) in let e : node_at g i ≡ no_node = get_or_past g i no_node z in let m : k < 0 = (rw e at l) in omega arith)
]

pass_charged : (g : List PlainNode) (s : State) (i k : ℕ) (new : Spot) (u : State) → PassIsLegal g s i k → Charged g s → new.emitted ≡ (s.spots i).emitted → new.passed ≡ put (s.spots i).passed k (suc ((s.spots i).passed k))
    → u.spots ≡ put s.spots i new → u.charge ≡ s.charge + cost (get_or (feed s.spots (port_at (node_at g i) k)) ((s.spots i).passed k) null) → Charged g u
pass_charged g s i k new u legal h em pa sp ch =
    let E = s.spots in
    let F = put E i new in
    let x = get_or (feed E (port_at (node_at g i) k)) ((E i).passed k) null in
    let fd : (p : Port) → feed F p ≡ feed E p = unmoved E i new em in
    let sums : (passed : ℕ → ℕ) (n : ℕ) (ps : List Port) → spent F passed n ps ≡ spent E passed n ps = same_feed E F fd in
    let z : 0 + k ≡ k = omega arith in
    let one : spent E (put (E i).passed k (suc ((E i).passed k))) 0 (node_at g i).ports ≡ cost x + spent E (E i).passed 0 (node_at g i).ports =
    spent_more E (E i).passed 0 k k (node_at g i).ports z legal.within legal.more in
    let here : spent F (F i).passed 0 (node_at g i).ports ≡ cost x + spent E (E i).passed 0 (node_at g i).ports =
    ap (λ (z : Spot). spent F z.passed 0 (node_at g i).ports) (put_same E i new) ∙ ap (λ (f : ℕ → ℕ). spent F f 0 (node_at g i).ports) pa ∙ sums (put (E i).passed k (suc ((E i).passed k))) 0 (node_at g i).ports ∙ one in
    let other : (j : ℕ) → (j ≡ i → ⊥) → spent F (F j).passed 0 (node_at g j).ports ≡ spent E (E j).passed 0 (node_at g j).ports =
    λ j n. rw (put_other E i new j n) (sums (E j).passed 0 (node_at g j).ports) in
    let t = (total_more E F g i (cost x) other here (length g)).0 (node_within g i k legal.within) in
    ch ∙ rw sp (omega (arith, t, h))
  where
    same_feed : (E F : ℕ → Spot) → ((p : Port) → feed F p ≡ feed E p) → (passed : ℕ → ℕ) (n : ℕ) (ps : List Port) → spent F passed n ps ≡ spent E passed n ps
    same_feed E F h passed n [] = refl
    same_feed E F h passed n (p ∷ ps) = rw (h p, same_feed E F h passed (suc n) ps) refl

pub step_charged : (g : List PlainNode) (R : Rules) (s : State) (e : PlainEvent) → Good g R s → IsLegal g R s e → Charged g s → Charged g (step g s e)
step_charged g R s (pass i k) good legal h =
    let x = get_or (feed s.spots (port_at (node_at g i) k)) ((s.spots i).passed k) null in
    elim (cases_Bool (nat_lt limit (s.charge + cost x))) [
      | inl over ↦ rw over (pass_charged g s i k (passed_on (s.spots i) k) (record s { spots = put s.spots i (passed_on (s.spots i) k); charge = s.charge + cost x; stop = Some (charge_stop (s.charge + cost x)) }) legal h refl refl refl refl)
      | inr below ↦ rw below (
          let new = record (passed_on (s.spots i) k) { waiting = put (s.spots i).waiting k ((s.spots i).waiting k ++ x ∷ []) } in
          pass_charged g s i k new (record s { spots = put s.spots i new; charge = s.charge + cost x }) legal h refl refl refl refl)
    ]
step_charged g R s (taking i port place t n) good legal h =
    let k = take_at g s i port place in
    let new = record (s.spots i) { waiting = left_at k.slot place (s.spots i).waiting; taken = k ∷ (s.spots i).taken } in
    quiet_charged g R s (step g s (taking i port place t n)) good (quiet_put s (step g s (taking i port place t n)) i new refl refl refl (λ out. no_more ((s.spots i).emitted out))) h
step_charged g R s (give t a) good legal h = quiet_charged g R s (step g s (give t a)) good (quiet_give g s t a (ticket_at t s.tickets)) h
step_charged g R s (start t cause) good legal h = quiet_charged g R s (step g s (start t cause)) good (quiet_start s t (ticket_at t s.tickets)) h
step_charged g R s (finish t r outs) good legal h = quiet_charged g R s (step g s (finish t r outs)) good (quiet_finish s t r outs (ticket_at t s.tickets)) h
step_charged g R s (reuse t r outs) good legal h = quiet_charged g R s (step g s (reuse t r outs)) good (quiet_finish s t r outs (ticket_at t s.tickets)) h
step_charged g R s (close i) good legal h = quiet_charged g R s (step g s (close i)) good (quiet_close s i (op_ends (node_at g i).kind (s.spots i).pushed)) h
step_charged g R s (abort t cause) good legal h = quiet_charged g R s (step g s (abort t cause)) good (quiet_abort s t cause (ticket_at t s.tickets)) h
step_charged g R s halt good legal h = quiet_charged g R s (step g s halt) good (quiet_none s (record s { stop = Some memory_stop }) refl refl) h

-- ### Beside the meaning

spent_sub : (E : ℕ → Spot) (B : Bags) (passed : ℕ → ℕ) (k : ℕ) (ps : List Port) → ((j : ℕ) → j < length ps → (let p = port_in ps j in Sub (feed E p) (B p.from p.out)))
    → spent E passed k ps ≤ tally (λ d. cost d.1) (delivered B k ps)
spent_sub E B passed k [] h = omega arith
spent_sub E B passed k (p ∷ ps) h =
    let a = tally_sub cost (sub_trans (sub_take (passed k) (feed E p)) (h 0 (omega arith))) in
    let b = spent_sub E B passed (suc k) ps (λ j l. h (suc j) (omega arith)) in
    omega (arith, a, b, tally-append (λ (d : ℕ × Plain). cost d.1) (map (λ x. (k, x)) (B p.from p.out)) (delivered B (suc k) ps), tally-map (λ (d : ℕ × Plain). cost d.1) (λ (x : Plain). (k, x)) (B p.from p.out))

pub spent_charge : (E : ℕ → Spot) (g : List PlainNode) (B : Bags) → ((i k : ℕ) → k < length (node_at g i).ports → Sub (feed E (port_at (node_at g i) k)) (B (port_at (node_at g i) k).from (port_at (node_at g i) k).out))
    → (n : ℕ) → spent_to E g n ≤ charge_to B g n
spent_charge E g B h zero = omega arith
spent_charge E g B h (suc i) = let q = sum_is_tally (λ (d : ℕ × Plain). cost d.1) (deliveries B (node_at g i)) in omega (arith, q, spent_sub E B (E i).passed 0 (node_at g i).ports (h i), spent_charge E g B h i)
