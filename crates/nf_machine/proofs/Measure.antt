-- AllByRecursion own move leaves less to do.
use Rattle.std.proofs.Common.{◌≡◌, ℕ, zero, suc, ◌+◌, ◌<◌, ◌≤◌, List, [], ◌∷◌, ◌++◌, length, take, drop, get_or, true, false, refl, ap, sym, subst, arith, inl, inr, length-append, length-take, length-drop}
use Rattle.std.specs.Prelude.{nat_lt, Some, None, Ok, Err, remove}
use Rattle.std.proofs.lemmas.Bool.{cases_eq, cases_Bool}
use Rattle.std.proofs.lemmas.Bool.Decides.{nat_tests}
use Rattle.nf_value.specs.Plain.{Plain, null}
use Rattle.nf_opstream.specs.Operator.{to_out}
use Rattle.nf_graph.specs.declared.port.Port.{Port}
use Rattle.nf_graph.specs.Rules.{Rules}
use Rattle.nf_graph.specs.Node.{Kind, source, operator, process, PlainNode, port_at, node_at, IsGraph}
use Rattle.nf_graph.specs.Meaning.{put, cost}
use Rattle.nf_graph.proofs.Lists.{put_same, put_other}
use Rattle.nf_machine.specs.Event.{pass, taking}
use Rattle.nf_machine.specs.State.{Spot, State, feed}
use Rattle.nf_machine.specs.Step.{limit, passed_on, takes, take_at, left_at, Given, do_close, step}
use Rattle.nf_machine.specs.Legal.{MayTake, PassIsLegal, TakeIsLegal}
use Rattle.nf_machine.specs.Going.{waits_to, is_new, spot_work, work_to, moves_left}
use Rattle.nf_machine.proofs.Charge.{node_within}

pub work_put : (g : List PlainNode) (E : ℕ → Spot) (i : ℕ) (sp : Spot) (n : ℕ) → (i < n → work_to g (put E i sp) n + spot_work (node_at g i) (E i) ≡ work_to g E n + spot_work (node_at g i) sp) × (n ≤ i → work_to g (put E i sp) n ≡ work_to g E n)
work_put g E i sp zero = ((λ l. absurd (omega arith)), (λ l. refl))
work_put g E i sp (suc j) =
    let ih = work_put g E i sp j in
    elim (cases_eq j i) [
      | inl e ↦ (
        (λ l. (let a = ih.1 (omega arith) in
            let b : spot_work (node_at g j) (put E i sp j) ≡ spot_work (node_at g i) sp = subst (λ m. spot_work (node_at g m) (put E i sp m) ≡ spot_work (node_at g i) sp) (sym e) (ap (spot_work (node_at g i)) (put_same E i sp)) in
            let c : spot_work (node_at g j) (E j) ≡ spot_work (node_at g i) (E i) = ap (λ m. spot_work (node_at g m) (E m)) e in omega (arith, a, b, c))),
        (λ l. absurd (omega arith)),
      )
      | inr n ↦ (let b : spot_work (node_at g j) (put E i sp j) ≡ spot_work (node_at g j) (E j) = ap (spot_work (node_at g j)) (put_other E i sp j n) in
          ((λ l. (let m : i < j = less j l n in let a = ih.0 m in omega (arith, a, b))), (λ l. (let a = ih.1 (omega arith) in omega (arith, a, b)))))
    ]
  where
    less : (j : ℕ) → i < suc j → (j ≡ i → ⊥) → i < j
    less j l n = grind arith

-- one port's waiting list changes
waits_put : (waiting : ℕ → List Plain) (k : ℕ) (xs : List Plain) (n : ℕ) → (k < n → waits_to (put waiting k xs) n + length (waiting k) ≡ waits_to waiting n + length xs) × (n ≤ k → waits_to (put waiting k xs) n ≡ waits_to waiting n)
waits_put waiting k xs zero = ((λ l. absurd (omega arith)), (λ l. refl))
waits_put waiting k xs (suc j) =
    let ih = waits_put waiting k xs j in
    elim (cases_eq j k) [
      | inl e ↦ (
        (λ l. (let a = ih.1 (omega arith) in
            let b : length (put waiting k xs j) ≡ length xs = subst (λ m. length (put waiting k xs m) ≡ length xs) (sym e) (ap length (put_same waiting k xs)) in
            let c : length (waiting j) ≡ length (waiting k) = ap (λ m. length (waiting m)) e in omega (arith, a, b, c))),
        (λ l. absurd (omega arith)),
      )
      | inr n ↦ (let b : length (put waiting k xs j) ≡ length (waiting j) = ap length (put_other waiting k xs j n) in
          ((λ l. (let m : k < j = less j l n in let a = ih.0 m in omega (arith, a, b))), (λ l. (let a = ih.1 (omega arith) in omega (arith, a, b)))))
    ]
  where
    less : (j : ℕ) → k < suc j → (j ≡ k → ⊥) → k < j
    less j l n = grind arith

pub pass_less : (g : List PlainNode) (R : Rules) (s : State) (i k : ℕ) → s.charge ≤ limit → PassIsLegal g s i k → moves_left g (step g s (pass i k)) < moves_left g s
pass_less g R s i k low legal =
    let x = get_or (feed s.spots (port_at (node_at g i) k)) ((s.spots i).passed k) null in
    let sp = s.spots i in
    let l = node_within g i k legal.within in
    elim (cases_Bool (nat_lt limit (s.charge + cost x))) [
      | inl over ↦ rw over (let a = (work_put g s.spots i (passed_on sp k) (length g)).0 l in
          let b : spot_work (node_at g i) (passed_on sp k) ≡ spot_work (node_at g i) sp = refl in omega (arith, a, b))
      | inr below ↦ rw below (let new = record (passed_on sp k) { waiting = put sp.waiting k (sp.waiting k ++ x ∷ []) } in
          let a = (work_put g s.spots i new (length g)).0 l in
          let b = (waits_put sp.waiting k (sp.waiting k ++ x ∷ []) (length (node_at g i).ports)).0 legal.within in
          let c : length (sp.waiting k ++ x ∷ []) ≡ length (sp.waiting k) + 1 = length-append (sp.waiting k) (x ∷ []) in
          let d : spot_work (node_at g i) new ≡ spot_work (node_at g i) sp + 1 = omega (arith, b, c) in
          let f : s.charge + cost x ≤ limit = grind (arith, nat_tests) in omega (arith, a, d, f))
    ]

length_removed : (xs : List Plain) (i : ℕ) → i < length xs → length (remove xs i) + 1 ≡ length xs
length_removed xs i h = omega (arith, length-append (take i xs) (drop (suc i) xs), length-take i xs, length-drop (suc i) xs)

-- an item leaves a port, or a process without a queue takes for the first time
take_work : (ports : List Port) (kind : Kind) (sp : Spot) (port place : ℕ) → MayTake (record { kind = kind; ports = ports }) kind sp port place
    → ((q : ℕ) → kind ≡ process (Some q) → q < length ports)
    → (let nd : PlainNode = record { kind = kind; ports = ports } in let t = takes nd sp port place in spot_work nd (record sp { waiting = left_at t.slot place sp.waiting; taken = t ∷ sp.taken }) < spot_work nd sp)
take_work ports (source items) sp port place m queue = absurd m
take_work ports (operator op) sp port place m queue =
    let a = (waits_put sp.waiting port (remove (sp.waiting port) place) (length ports)).0 m.0 in
    let b = length_removed (sp.waiting port) place m.1 in omega (arith, a, b)
take_work ports (process (Some q)) sp port place m queue =
    let a = (waits_put sp.waiting q (remove (sp.waiting q) place) (length ports)).0 (queue q refl) in
    let b = length_removed (sp.waiting q) place m.1 in omega (arith, a, b)
take_work ports (process None) sp port place m queue =
    let e : is_new (process None) sp.taken ≡ true = ap (is_new (process None)) m.3 in rw e (omega arith)

pub take_less : (g : List PlainNode) (ok : IsGraph g) (s : State) (i port place t n : ℕ) → i < length g → TakeIsLegal g s i port place t n → moves_left g (step g s (taking i port place t n)) < moves_left g s
take_less g ok s i port place t n l legal =
    let k = take_at g s i port place in
    let new = record (s.spots i) { waiting = left_at k.slot place (s.spots i).waiting; taken = k ∷ (s.spots i).taken } in
    let a = (work_put g s.spots i new (length g)).0 l in
    let b = take_work (node_at g i).ports (node_at g i).kind (s.spots i) port place legal.ready (λ q e. (ok.queues i q e).within) in
    let c : spot_work (node_at g i) new < spot_work (node_at g i) (s.spots i) = b in omega (arith, a, c)

pub close_less : (g : List PlainNode) (s : State) (i : ℕ) (r : Given) → i < length g → (s.spots i).closed ≡ false → moves_left g (do_close s i r) < moves_left g s
close_less g s i (Ok es) l isopen =
    let new : Spot = record (s.spots i) { closed = true; emitted = λ o. (s.spots i).emitted o ++ to_out o es } in
    let a = (work_put g s.spots i new (length g)).0 l in
    let b : spot_work (node_at g i) new < spot_work (node_at g i) (s.spots i) = rw isopen (omega arith) in omega (arith, a, b)
close_less g s i (Err f) l isopen =
    let new : Spot = record (s.spots i) { closed = true } in
    let a = (work_put g s.spots i new (length g)).0 l in
    let b : spot_work (node_at g i) new < spot_work (node_at g i) (s.spots i) = rw isopen (omega arith) in omega (arith, a, b)
