-- Every node and every stop beside the meaning.
use Rattle.std.proofs.Common.{◌≡◌, ℕ, zero, suc, ◌<◌, ◌≤◌, List, [], ◌∷◌, map, length, true, refl, ap, sym, ◌∙◌, subst, arith, inl, inr}
use Rattle.std.specs.Prelude.{nat_lt, Option, None, Err}
use Rattle.std.specs.List.{AllByRecursion, Contains, flat_map}
use Rattle.std.proofs.lemmas.Bool.{cases_eq, cases_Bool}
use Rattle.std.proofs.lemmas.Bool.Decides.{nat_tests}
use Rattle.std.proofs.lemmas.List.{get_or_past}
use Rattle.nf_value.specs.Plain.{Plain, null}
use Rattle.nf_value.specs.declared.fault.EvalFault.{EvalFault}
use Rattle.nf_job.specs.declared.fault.TaskFault.{TaskFault}
use Rattle.nf_opstream.specs.Push.{Push}
use Rattle.nf_opstream.specs.Fault.{Fault}
use Rattle.nf_opstream.specs.Operator.{Operator}
use Rattle.nf_opstream.proofs.Tally.{one_if, passes, Sub, Same, tally-map, sub_of_same, sub_trans, sub_map, sub_flat_map, same_flat_map, same_refl, same_trans, same_of_eq}
use Rattle.nf_opstream.proofs.Members.{In, contains, in_larger}
use Rattle.nf_graph.specs.Rules.{Rules, fault_by}
use Rattle.nf_graph.specs.Node.{Kind, source, operator, process, PlainNode, no_node, node_at, IsGraph}
use Rattle.nf_graph.specs.Meaning.{Outcomes, Bags, deliveries, answered, pushes, same_inputs, input_lists, numbered, instances, decided_under, emits}
use Rattle.nf_graph.specs.Faults.{GraphFault, item_fails, op_fails, task_fails, item_faults, task_faults, node_faults, faults_to}
use Rattle.nf_graph.specs.Singles.{HasSingles, IsMadeByNodes}
use Rattle.nf_graph.proofs.Bags.{sub_refl, numbered_same, numbered_sub}
use Rattle.nf_graph.proofs.Lists.{inputs_law}
use Rattle.nf_machine.specs.State.{Ended, Spot, State, instance, pair_of}
use Rattle.nf_machine.specs.Legal.{IsOperatorKind, IsProcessKind}
use Rattle.nf_machine.specs.History.{IsPrefix, Agrees}
use Rattle.nf_opstream.proofs.Members.{in_flat_map}
use Rattle.nf_machine.proofs.Membership.{in_left, in_right, in_map, in_of, same_instance, instance_law, same_item, item_law}
use Rattle.nf_machine.proofs.Bridge.{within_of_sub, input_of_same}
use Rattle.nf_machine.proofs.Good.{take_of, Once, OpMade, ProcessMade, SourceMade, Told, TaskStop, ItemStop, PushStop, CloseStop, OpStop, FaultOk, Good}
use Rattle.nf_machine.proofs.Delivery.{answered_back}
use Rattle.nf_machine.proofs.Confluence.{ended_emits, outs_flat_map, NodeFits, fed_sub, taken_sub, all_seen, all_done, op_taken, op_whole, op_fits, inputs_sub, inputs_same}

once_of : (kind : Kind) (q : Option ℕ) (sp : Spot) → kind ≡ process q → Once kind sp → q ≡ None → (length sp.taken ≤ 1) × AllByRecursion (λ t. t.item ≡ null) sp.taken
once_of kind q sp e o n = (subst (λ z. Once z sp) (e ∙ ap process n) o)

module _ (g : List PlainNode) (R : Rules) (ok : IsGraph g) (o : Outcomes) (s : State) (good : Good g R s) (agree : Agrees o s) (B : Bags) (means : IsMadeByNodes g R o B) (lone : HasSingles g B) (i : ℕ)
    (before : (j : ℕ) → j < i → NodeFits g s B j) where
  proc_inputs : (q : Option ℕ) → (node_at g i).kind ≡ process q → Sub (map (λ t. t.inputs) (s.spots i).taken) (input_lists B (node_at g i) q)
  proc_inputs q is = inputs_sub s.spots (node_at g i) q B (s.spots i).taken
      (fed_sub g R ok s good B i before) (lone i) (taken_sub g R ok s good B i before)
      (λ z e. (ok.queues i z (is ∙ ap process e)).within)
      (once_of (node_at g i).kind q (s.spots i) is (good.spots i).takes.once)
      (rw is at (good.spots i).takes.formed)

  proc_all : (q : Option ℕ) → (node_at g i).kind ≡ process q → (s.spots i).closed ≡ true → Same (map (λ t. t.inputs) (s.spots i).taken) (input_lists B (node_at g i) q)
  proc_all q is shut = inputs_same s.spots (node_at g i) q B (s.spots i) (s.spots i).taken refl
      (fed_sub g R ok s good B i before) (lone i) (all_seen g R ok s good B i before shut)
      (λ z e. (let w = ok.queues i z (is ∙ ap process e) in (w.within, w.queue)))
      (fed_sub g R ok s good B i before)
      (once_of (node_at g i).kind q (s.spots i) is (good.spots i).takes.once)
      (rw is at (good.spots i).takes.formed)
      (rw is at ((good.spots i).whole shut).done)

  proc_numbers : (q : Option ℕ) → (node_at g i).kind ≡ process q → map instance (s.spots i).taken ≡ numbered same_inputs (map (λ t. t.inputs) (s.spots i).taken)
  proc_numbers q is = (good.spots i).takes.numbers (rw is tt)

  pub proc_instances : (q : Option ℕ) → (node_at g i).kind ≡ process q → Sub (map instance (s.spots i).taken) (instances B (node_at g i) q)
  proc_instances q is = rw (proc_numbers q is) (numbered_sub same_inputs inputs_law (map (λ t. t.inputs) (s.spots i).taken) (input_lists B (node_at g i) q) (proc_inputs q is))

  pub proc_all_instances : (q : Option ℕ) → (node_at g i).kind ≡ process q → (s.spots i).closed ≡ true → Same (map instance (s.spots i).taken) (instances B (node_at g i) q)
  proc_all_instances q is shut = rw (proc_numbers q is) (numbered_same same_inputs inputs_law (map (λ t. t.inputs) (s.spots i).taken) (input_lists B (node_at g i) q) (proc_all q is shut))

  proc_emitted : (q : Option ℕ) → (node_at g i).kind ≡ process q → ProcessMade R i (s.spots i) → (out : ℕ) → Same ((s.spots i).emitted out) (flat_map (emits R o i out) (map (λ e. instance e.take) (s.spots i).ended))
  proc_emitted q is made out = same_trans (same_of_eq (made.emitted out)) (same_trans (outs_flat_map (s.spots i).ended out)
      (same_of_eq (ended_emits R o i out (s.spots i).ended made.decision (λ e h. agree.ended i e (contains e (s.spots i).ended h)))))

  pub proc_ended : (q : Option ℕ) → (node_at g i).kind ≡ process q → ProcessMade R i (s.spots i) → (s.spots i).closed ≡ true → Same (map (λ e. instance e.take) (s.spots i).ended) (instances B (node_at g i) q)
  proc_ended q is made shut =
      let a : Same (map (λ e. instance e.take) (s.spots i).ended) (map instance (s.spots i).taken) =
      record {
        at = λ p. (let z : passes (λ x. p (instance (take_of x))) (s.spots i).pushed ≡ 0 = rw made.no_pushed refl in
            omega (arith, tally-map (λ y. one_if (p y)) (λ (e : Ended). instance e.take) (s.spots i).ended, tally-map (λ y. one_if (p y)) instance (s.spots i).taken, all_done g R ok s good B i before shut (λ t. p (instance t))));
      } in
      same_trans a (proc_all_instances q is shut)

  proc_fits : (q : Option ℕ) → (node_at g i).kind ≡ process q → NodeFits g s B i
  proc_fits q is =
      let made : ProcessMade R i (s.spots i) = (rw is at (good.spots i).made) in
      let eq : (out : ℕ) → B i out ≡ flat_map (emits R o i out) (instances B (node_at g i) q) = λ out. (rw is at (means.at i out)) in
      record {
        sub = λ out. (let a : Sub (map (λ e. instance e.take) (s.spots i).ended) (map instance (s.spots i).taken) =
            record { at = λ p. omega (arith, tally-map (λ y. one_if (p y)) (λ (e : Ended). instance e.take) (s.spots i).ended, tally-map (λ y. one_if (p y)) instance (s.spots i).taken, (good.spots i).flight.most (λ t. p (instance t))) } in
            rw (eq out) (sub_trans (sub_of_same (proc_emitted q is made out)) (sub_flat_map (emits R o i out) (sub_trans a (proc_instances q is)))));
        same = λ shut clean out. rw (eq out) (same_trans (proc_emitted q is made out) (same_flat_map (emits R o i out) (proc_ended q is made shut)));
      }

  source_fits : (items : List Plain) → (node_at g i).kind ≡ source items → NodeFits g s B i
  source_fits items is =
      let made : SourceMade items (s.spots i) = (rw is at (good.spots i).made) in
      let eq : (out : ℕ) → B i out ≡ (s.spots i).emitted out = λ out. (rw is at (means.at i out)) ∙ sym (made.emitted out) in
      record {
        sub = λ out. rw (eq out) (sub_refl ((s.spots i).emitted out));
        same = λ shut clean out. rw (eq out) (same_refl ((s.spots i).emitted out));
      }

  kind_fits : (kind : Kind) → (node_at g i).kind ≡ kind → NodeFits g s B i
  kind_fits (source items) is = source_fits items is
  kind_fits (operator op) is = op_fits g R ok s good B i before op is (ok.operators i op is) (λ out. (rw is at (means.at i out)))
  kind_fits (process q) is = proc_fits q is

-- a node that isn't a source of nothing stands in the graph
pub kind_within : (g : List PlainNode) (i : ℕ) → ((node_at g i).kind ≡ source [] → ⊥) → i < length g
kind_within g i h = elim (cases_Bool (nat_lt i (length g))) [
  | inl t ↦ grind (arith, nat_tests)
  | inr f ↦ absurd (let z : length g ≤ i = grind (arith, nat_tests) in h (ap (λ (n : PlainNode). n.kind) (get_or_past g i no_node z)))
]

process_is : (kind : Kind) → IsProcessKind kind → (q : Option ℕ) × (kind ≡ process q)
process_is (source items) h = absurd h
process_is (operator op) h = absurd h
process_is (process q) h = (q, refl)

operator_is : (kind : Kind) → IsOperatorKind kind → (op : Operator) × (kind ≡ operator op)
operator_is (source items) h = absurd h
operator_is (operator op) h = (op, refl)
operator_is (process q) h = absurd h

pub process_within : (g : List PlainNode) (i : ℕ) → IsProcessKind (node_at g i).kind → i < length g
process_within g i h = let k = process_is (node_at g i).kind h in kind_within g i (λ e. (let z : source [] ≡ process k.0 = sym e ∙ k.1 in cc))

module _ (g : List PlainNode) (R : Rules) (ok : IsGraph g) (o : Outcomes) (s : State) (good : Good g R s) (agree : Agrees o s) (B : Bags) (means : IsMadeByNodes g R o B) (lone : HasSingles g B) where
  below_fits : (n j : ℕ) → j < n → NodeFits g s B j
  below_fits zero j l = absurd (omega arith)
  below_fits (suc n) j l = kind_fits g R ok o s good agree B means lone j (λ m w. below_fits n m (omega arith)) (node_at g j).kind refl

  pub all_fit : (i : ℕ) → NodeFits g s B i
  all_fit i = below_fits (suc i) i (omega arith)

  -- ### The stop

  -- an instance that was taken, and the fault that it has alone
  task_in : (i : ℕ) (inputs : List Plain) (n : ℕ) (f : TaskFault) (q : Option ℕ) → (node_at g i).kind ≡ process q → Sub ((inputs, n) ∷ []) (map instance (s.spots i).taken) → task_faults R o i (inputs, n) ≡ task_fails i inputs n f ∷ []
      → In (task_fails i inputs n f) (node_faults R o B i (node_at g i) (node_at g i).kind)
  task_in i inputs n f q is taken task =
      let inst : In (inputs, n) (instances B (node_at g i) q) = in_larger same_instance instance_law (inputs, n) [] (instances B (node_at g i) q) (sub_trans taken (proc_instances g R ok o s good agree B means lone i (λ j l. all_fit j) q is)) in
      let here : In (task_fails i inputs n f) (task_faults R o i (inputs, n)) = rw task (inl refl) in
      rw is (in_flat_map (task_faults R o i) (inputs, n) (task_fails i inputs n f) (instances B (node_at g i) q) inst here)

  task_stop : (i : ℕ) (inputs : List Plain) (n : ℕ) (f : TaskFault) (q : Option ℕ) → (node_at g i).kind ≡ process q → TaskStop g R s.spots s.gone i inputs n f → In (task_fails i inputs n f) (node_faults R o B i (node_at g i) (node_at g i).kind)
  task_stop i inputs n f q is h =
      let pre : IsPrefix h.told (o i inputs n) = told_prefix h.was_told in
      let one : fault_by (decided_under R o i (inputs, n)) ≡ f ∷ [] = rw pre.is (h.fault pre.rest) in
      task_in i inputs n f q is h.taken (ap (map (task_fails i inputs n)) one)
    where
      told_prefix : Told s.spots s.gone i inputs n h.told → IsPrefix h.told (o i inputs n)
      told_prefix w = elim w [
        | inl e ↦ (let a = agree.ended i e.0 (contains e.0 (s.spots i).ended e.1) in subst (λ z. IsPrefix z (o i inputs n)) e.4 (subst (λ z. IsPrefix (e.0).told (o i inputs z)) e.3 (subst (λ z. IsPrefix (e.0).told (o i z (e.0).take.n)) e.2 a)))
        | inr k ↦ (let a = agree.gone k.0 (contains k.0 s.gone k.1) in subst (λ z. IsPrefix z (o i inputs n)) k.5 (subst (λ z. IsPrefix (k.0).told (o i inputs z)) k.4 (subst (λ z. IsPrefix (k.0).told (o i z (k.0).take.n)) k.3 (subst (λ z. IsPrefix (k.0).told (o z (k.0).take.inputs (k.0).take.n)) k.2 a))))
      ]

  item_stop : (i : ℕ) (x : Plain) (f : EvalFault) (op : Operator) → (node_at g i).kind ≡ operator op → ItemStop g R s.spots i x f → In (item_fails i x f) (node_faults R o B i (node_at g i) (node_at g i).kind)
  item_stop i x f op is h =
      let d : In (pair_of h.take) (deliveries B (node_at g i)) = in_larger same_item item_law (pair_of h.take) [] (deliveries B (node_at g i)) (sub_trans (sub_map pair_of {a = h.take ∷ []} h.taken) (op_taken g R ok s good B i (λ j l. all_fit j) op is)) in
      let e : R.answer i h.take.item ≡ Err f = rw h.item h.fault in
      let one : item_faults i h.take.item (R.answer i h.take.item) ≡ item_fails i h.take.item f ∷ [] = ap (item_faults i h.take.item) e in
      let here : In (item_fails i h.take.item f) (item_faults i h.take.item (R.answer i h.take.item)) = rw one (inl refl) in
      let a = in_flat_map (λ d. item_faults i d.1 (R.answer i d.1)) (pair_of h.take) (item_fails i h.take.item f) (deliveries B (node_at g i)) d here in
      rw is (subst (λ y. In (item_fails i y f) (node_faults R o B i (node_at g i) (operator op))) h.item
      (in_right (item_fails i h.take.item f) (map (op_fails i) (op.faults (pushes R i (deliveries B (node_at g i))))) (flat_map (λ d. item_faults i d.1 (R.answer i d.1)) (deliveries B (node_at g i))) a))

  push_stop : (i : ℕ) (f : Fault) (op : Operator) → (node_at g i).kind ≡ operator op → PushStop g R s.spots i op f → Contains (op.faults (pushes R i (deliveries B (node_at g i)))) f
  push_stop i f op is h =
      let made : OpMade R i op (s.spots i) = (rw is at (good.spots i).made) in
      let a : Sub (map (λ x. (x.port, x.item)) (h.push ∷ (s.spots i).pushed)) (map pair_of (s.spots i).taken) =
      record { at = λ p. omega (arith, tally-map (λ y. one_if (p y)) (λ (x : Push). (x.port, x.item)) (s.spots i).pushed, tally-map (λ y. one_if (p y)) pair_of (s.spots i).taken, tally-map (λ t. one_if (p (pair_of t))) take_of (s.spots i).pushed, h.taken.at (λ t. p (pair_of t))) } in
      let b = subst (λ z. Sub z (pushes R i (deliveries B (node_at g i)))) (answered_back R i (h.push ∷ (s.spots i).pushed) (h.by_rule, made.by_rule))
      (sub_flat_map (λ d. answered d.0 d.1 (R.answer i d.1)) (sub_trans a (op_taken g R ok s good B i (λ j l. all_fit j) op is))) in
      (ok.operators i op is).push_fault (s.spots i).pushed (pushes R i (deliveries B (node_at g i))) h.push f made.fine h.fault (within_of_sub b)

  close_stop : (i : ℕ) (f : Fault) (op : Operator) → (node_at g i).kind ≡ operator op → CloseStop s.spots i op f → Contains (op.faults (pushes R i (deliveries B (node_at g i)))) f
  close_stop i f op is h =
      let made : OpMade R i op (s.spots i) = (rw is at (good.spots i).made) in
      (ok.operators i op is).close_fault (s.spots i).pushed (pushes R i (deliveries B (node_at g i))) f made.fine h.fault (input_of_same (op_whole g R ok s good B i (λ j l. all_fit j) op is made h.closed))

  op_stop : (i : ℕ) (f : Fault) (kind : Kind) → (node_at g i).kind ≡ kind → OpStop g R s.spots i kind f → In (op_fails i f) (node_faults R o B i (node_at g i) (node_at g i).kind)
  op_stop i f (source items) is h = absurd h
  op_stop i f (process q) is h = absurd h
  op_stop i f (operator op) is h =
      let q = pushes R i (deliveries B (node_at g i)) in
      let a : Contains (op.faults q) f = elim h [ inl p ↦ push_stop i f op is p | inr c ↦ close_stop i f op is c ] in
      rw is (in_left (op_fails i f) (map (op_fails i) (op.faults q)) (flat_map (λ d. item_faults i d.1 (R.answer i d.1)) (deliveries B (node_at g i))) (in_map (op_fails i) f (op.faults q) (in_of f (op.faults q) a)))

  faults_has : (x : GraphFault) (i n : ℕ) → i < n → In x (node_faults R o B i (node_at g i) (node_at g i).kind) → In x (faults_to R o B g n)
  faults_has x i zero l h = absurd (omega arith)
  faults_has x i (suc j) l h = elim (cases_eq i j) [
    | inl e ↦ in_left x (node_faults R o B j (node_at g j) (node_at g j).kind) (faults_to R o B g j) (subst (λ m. In x (node_faults R o B m (node_at g m) (node_at g m).kind)) e h)
    | inr n ↦ in_right x (node_faults R o B j (node_at g j) (node_at g j).kind) (faults_to R o B g j) (faults_has x i j (grind arith) h)
  ]

  op_stop_kind : (i : ℕ) (f : Fault) (kind : Kind) → OpStop g R s.spots i kind f → IsOperatorKind kind
  op_stop_kind i f (source items) h = h
  op_stop_kind i f (operator op) h = tt
  op_stop_kind i f (process q) h = h

  pub fault_is : (x : GraphFault) → FaultOk g R s.spots s.gone x → In x (faults_to R o B g (length g))
  fault_is (task_fails i inputs n f) h =
      let k = process_is (node_at g i).kind h.kind in
      faults_has (task_fails i inputs n f) i (length g) (process_within g i h.kind) (task_stop i inputs n f k.0 k.1 h)
  fault_is (item_fails i x f) h =
      let k = operator_is (node_at g i).kind h.kind in
      let l : i < length g = kind_within g i (λ e. (let z : source [] ≡ operator k.0 = sym e ∙ k.1 in cc)) in
      faults_has (item_fails i x f) i (length g) l (item_stop i x f k.0 k.1 h)
  fault_is (op_fails i f) h =
      let k = operator_is (node_at g i).kind (op_stop_kind i f (node_at g i).kind h) in
      let l : i < length g = kind_within g i (λ e. (let z : source [] ≡ operator k.0 = sym e ∙ k.1 in cc)) in
      faults_has (op_fails i f) i (length g) l (op_stop i f (node_at g i).kind refl h)

  pub taken_fault_is : (i : ℕ) (inputs : List Plain) (n : ℕ) (f : TaskFault) → IsProcessKind (node_at g i).kind → Sub ((inputs, n) ∷ []) (map instance (s.spots i).taken) → task_faults R o i (inputs, n) ≡ task_fails i inputs n f ∷ []
      → In (task_fails i inputs n f) (faults_to R o B g (length g))
  taken_fault_is i inputs n f kind taken task =
      let k = process_is (node_at g i).kind kind in
      faults_has (task_fails i inputs n f) i (length g) (process_within g i kind) (task_in i inputs n f k.0 k.1 taken task)
