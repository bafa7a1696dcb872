-- Each node beside its meaning.
use Rattle.std.proofs.Common.{◌≡◌, ℕ, suc, ◌+◌, ◌<◌, ◌≤◌, List, [], ◌∷◌, ◌++◌, map, length, Bool, true, false, cond, ◌&&◌, ◌||◌, refl, ap, sym, ◌∙◌, subst, arith, inl, inr, append-nil}
use Rattle.std.specs.Prelude.{◌==◌, Option, Some, None, is_none, is_ok, Ok, Err}
use Rattle.std.specs.List.{AllByRecursion, flat_map}
use Rattle.std.proofs.lemmas.Bool.{true≢false}
use Rattle.std.proofs.lemmas.Bool.Decides.{nat_tests}
use Rattle.std.proofs.lemmas.List.{take_all}
use Rattle.nf_value.specs.Plain.{Plain, null}
use Rattle.nf_opstream.specs.Push.{Push}
use Rattle.nf_opstream.specs.Operator.{Operator, IsOperator, emitted as given_by, to_out, oks}
use Rattle.nf_opstream.proofs.Tally.{one_if, passes, Sub, Same, tally-append, tally-map, sub_of_same, sub_trans, sub_map, same_map, sub_flat_map, same_flat_map, same_refl, same_trans, same_of_eq}
use Rattle.nf_opstream.proofs.Members.{In}
use Rattle.nf_graph.specs.Rules.{Rules, decided, emit_at}
use Rattle.nf_graph.specs.Node.{operator, process, PlainNode, port_at, node_at, IsGraph}
use Rattle.nf_graph.specs.Meaning.{Outcomes, Bags, delivered, answered, pushes, bag_heads, filled, input_of, is_lacking, input_lists, emits}
use Rattle.nf_graph.proofs.Bags.{sub_refl, count_all, length_of_sub}
use Rattle.nf_graph.proofs.Lists.{filled_same}
use Rattle.nf_machine.specs.State.{Take, Ended, Spot, State, instance, pair_of, feed}
use Rattle.nf_machine.specs.Step.{slot_of, Given}
use Rattle.nf_machine.specs.Legal.{Lacks, MayClose}
use Rattle.nf_machine.specs.History.{ClosedWell, IsPrefix}
use Rattle.nf_machine.proofs.Bridge.{sub_of_bag, same_of_bag, within_of_sub, input_of_same}
use Rattle.nf_machine.proofs.Good.{take_of, from_port, flying, seen, feed_head, ProcessTake, Formed, outs_of, OpMade, Good}
use Rattle.nf_machine.proofs.Frame.{each_map}
use Rattle.nf_machine.proofs.Gives.{ended_prefix}
use Rattle.nf_machine.proofs.Delivery.{sub_take, tally_each, Slotted, pairs_sub, pairs_same, answered_back, none_flies, nil_of, single_head, bag_at, lacks, lacks_none}

pub outs_flat_map : (es : List Ended) (out : ℕ) → Same (outs_of es out) (flat_map (λ e. emit_at e.outs out) es)
outs_flat_map [] out = same_refl []
outs_flat_map (e ∷ es) out = record { at = λ p. omega (arith, tally-append (λ x. one_if (p x)) (outs_of es out) (emit_at e.outs out), tally-append (λ x. one_if (p x)) (emit_at e.outs out) (flat_map (λ e. emit_at e.outs out) es), (outs_flat_map es out).at p) }

-- what ended emits what the outcomes say
pub ended_emits : (R : Rules) (o : Outcomes) (i out : ℕ) (es : List Ended) → AllByRecursion (λ e. decided (R.job i e.take.inputs e.take.n) (R.outputs i e.take.inputs) 1 e.told ≡ Some e.outs) es
    → ((e : Ended) → In e es → IsPrefix e.told (o i e.take.inputs e.take.n)) → flat_map (λ e. emit_at e.outs out) es ≡ flat_map (emits R o i out) (map (λ e. instance e.take) es)
ended_emits R o i out [] d a = refl
ended_emits R o i out (e ∷ es) d a =
    let pre = a e (inl refl) in
    let is : decided (R.job i e.take.inputs e.take.n) (R.outputs i e.take.inputs) 1 (o i e.take.inputs e.take.n) ≡ Some e.outs = rw pre.is (ended_prefix (R.job i e.take.inputs e.take.n) (R.outputs i e.take.inputs) 1 e.told pre.rest e.outs d.0) in
    rw is (ap (λ r. emit_at e.outs out ++ r) (ended_emits R o i out es d.1 (λ u w. a u (inr w))))

-- ### One node

pub record NodeFits (g : List PlainNode) (s : State) (B : Bags) (i : ℕ) : Type 0 where
  pub sub : (out : ℕ) → Sub ((s.spots i).emitted out) (B i out)
  pub same : (s.spots i).closed ≡ true → ClosedWell (node_at g i).kind (s.spots i) → (out : ℕ) → Same ((s.spots i).emitted out) (B i out)

op_slots : (E : ℕ → Spot) (nd : PlainNode) (op : Operator) (taken : List Take) → AllByRecursion (Formed E nd (operator op)) taken → AllByRecursion (Slotted (length nd.ports)) taken
op_slots E nd op taken h = each_map (Formed E nd (operator op)) (Slotted (length nd.ports)) (λ t f. record { is = f.slot; within = f.within }) taken h

pub or_right : (a b : Bool) → b ≡ true → (a || b) ≡ true
or_right true b h = refl
or_right false b h = h

module _ (g : List PlainNode) (R : Rules) (ok : IsGraph g) (s : State) (good : Good g R s) (B : Bags) (i : ℕ)
    (before : (j : ℕ) → j < i → NodeFits g s B j) where
  -- what a port was fed
  pub fed_sub : (k : ℕ) → k < length (node_at g i).ports → Sub (feed s.spots (port_at (node_at g i) k)) (B (port_at (node_at g i) k).from (port_at (node_at g i) k).out)
  fed_sub k l = (before (port_at (node_at g i) k).from (ok.earlier i k l)).sub (port_at (node_at g i) k).out

  taken_fed : (k : ℕ) (p : Plain → Bool) → passes (from_port k p) (s.spots i).taken ≤ passes p (feed s.spots (port_at (node_at g i) k))
  taken_fed k p = omega (arith, (good.spots i).ports.most k p, (sub_take ((s.spots i).passed k) (feed s.spots (port_at (node_at g i) k))).at p)

  pub taken_sub : (k : ℕ) → k < length (node_at g i).ports → (p : Plain → Bool) → passes (from_port k p) (s.spots i).taken ≤ passes p (B (port_at (node_at g i) k).from (port_at (node_at g i) k).out)
  taken_sub k l p = omega (arith, taken_fed k p, (fed_sub k l).at p)

  module _ (shut : (s.spots i).closed ≡ true) where
    pub fed_same : (k : ℕ) → k < length (node_at g i).ports → Same (feed s.spots (port_at (node_at g i) k)) (B (port_at (node_at g i) k).from (port_at (node_at g i) k).out)
    fed_same k l =
        let pr = ((good.spots i).whole shut).producers k l in
        (before (port_at (node_at g i) k).from (ok.earlier i k l)).same pr.0 pr.1 (port_at (node_at g i) k).out

    pub all_seen : (k : ℕ) → k < length (node_at g i).ports → (p : Plain → Bool) → passes p ((s.spots i).waiting k) + passes (from_port k p) (s.spots i).taken ≡ passes p (B (port_at (node_at g i) k).from (port_at (node_at g i) k).out)
    all_seen k l p =
        let e = (good.spots i).ports.all (or_right (is_none s.stop) (s.spots i).closed shut) k p in
        let w = ((good.spots i).whole shut).passed k l in
        let t : seen s.spots (node_at g i) (s.spots i) k ≡ feed s.spots (port_at (node_at g i) k) = take_all ((s.spots i).passed k) (feed s.spots (port_at (node_at g i) k)) (omega arith) in
        e ∙ ap (passes p) t ∙ (fed_same k l).at p

    pub none_flying : (p : Take → Bool) → flying i p s.tickets ≡ 0
    none_flying p = none_flies i s.tickets p ((good.spots i).whole shut).flight

    pub all_done : (p : Take → Bool) → passes (λ x. p (take_of x)) (s.spots i).pushed + passes (λ e. p e.take) (s.spots i).ended ≡ passes p (s.spots i).taken
    all_done p = omega (arith, (good.spots i).flight.all (or_right (is_none s.stop) (s.spots i).closed shut) p, none_flying p)

  -- an operator's taken items
  pub op_taken : (op : Operator) → (node_at g i).kind ≡ operator op → Sub (map pair_of (s.spots i).taken) (delivered B 0 (node_at g i).ports)
  op_taken op is = pairs_sub B (node_at g i) (s.spots i).taken (op_slots s.spots (node_at g i) op (s.spots i).taken (rw is at (good.spots i).takes.formed)) taken_sub

  pub op_pushed : (op : Operator) → (node_at g i).kind ≡ operator op → OpMade R i op (s.spots i) → Sub (s.spots i).pushed (pushes R i (delivered B 0 (node_at g i).ports))
  op_pushed op is made =
      let a : Sub (map (λ x. (x.port, x.item)) (s.spots i).pushed) (map pair_of (s.spots i).taken) =
      record { at = λ p. omega (arith, tally-map (λ y. one_if (p y)) (λ (x : Push). (x.port, x.item)) (s.spots i).pushed, tally-map (λ y. one_if (p y)) pair_of (s.spots i).taken, (good.spots i).flight.most (λ t. p (pair_of t))) } in
      subst (λ z. Sub z (pushes R i (delivered B 0 (node_at g i).ports))) (answered_back R i (s.spots i).pushed made.by_rule)
      (sub_flat_map (λ d. answered d.0 d.1 (R.answer i d.1)) (sub_trans a (op_taken op is)))

  pub op_all : (op : Operator) → (node_at g i).kind ≡ operator op → (s.spots i).closed ≡ true → Same (map pair_of (s.spots i).taken) (delivered B 0 (node_at g i).ports)
  op_all op is shut =
      let w : MayClose (node_at g i) (operator op) (s.spots i) = (rw is at ((good.spots i).whole shut).done) in
      pairs_same B (node_at g i) (s.spots i).taken (op_slots s.spots (node_at g i) op (s.spots i).taken (rw is at (good.spots i).takes.formed))
      (λ k l p. (let z : passes p ((s.spots i).waiting k) ≡ 0 = rw (w k l) refl in omega (arith, all_seen shut k l p)))

  pub op_items : (op : Operator) → (node_at g i).kind ≡ operator op → OpMade R i op (s.spots i) → (s.spots i).closed ≡ true → Same (map (λ x. (x.port, x.item)) (s.spots i).pushed) (delivered B 0 (node_at g i).ports)
  op_items op is made shut =
      let a : Same (map (λ x. (x.port, x.item)) (s.spots i).pushed) (map pair_of (s.spots i).taken) =
      record {
        at = λ p. (let z : passes (λ e. p (pair_of e.take)) (s.spots i).ended ≡ 0 = rw made.no_ended refl in
            omega (arith, tally-map (λ y. one_if (p y)) (λ (x : Push). (x.port, x.item)) (s.spots i).pushed, tally-map (λ y. one_if (p y)) pair_of (s.spots i).taken, all_done shut (λ t. p (pair_of t))));
      } in
      same_trans a (op_all op is shut)

  pub op_whole : (op : Operator) → (node_at g i).kind ≡ operator op → OpMade R i op (s.spots i) → (s.spots i).closed ≡ true → Same (s.spots i).pushed (pushes R i (delivered B 0 (node_at g i).ports))
  op_whole op is made shut =
      subst (λ z. Same z (pushes R i (delivered B 0 (node_at g i).ports))) (answered_back R i (s.spots i).pushed made.by_rule)
      (same_flat_map (λ d. answered d.0 d.1 (R.answer i d.1)) (op_items op is made shut))

  pub op_fits : (op : Operator) → (node_at g i).kind ≡ operator op → IsOperator op → ((out : ℕ) → B i out ≡ op.items (pushes R i (delivered B 0 (node_at g i).ports)) out) → NodeFits g s B i
  op_fits op is law means =
      let made : OpMade R i op (s.spots i) = (rw is at (good.spots i).made) in
      let q = pushes R i (delivered B 0 (node_at g i).ports) in
      let p = (s.spots i).pushed in
      let early : (out : ℕ) → Sub (given_by op p out) (op.items q out) = λ out. sub_of_bag (law.sound p q out made.fine (within_of_sub (op_pushed op is made))) in
      let late : (s.spots i).closed ≡ true → (es : List (ℕ × Plain)) → op.ends p ≡ Ok es → (out : ℕ) → Same ((s.spots i).emitted out) (op.items q out) =
      λ shut es e out. same_trans (same_of_eq (made.emitted out ∙ rw (shut, e) refl)) (same_of_bag (law.whole p q es out made.fine e (input_of_same (op_whole op is made shut)))) in
      record {
        sub = λ out. rw (means out) (by (s.spots i).closed (op.ends p) out refl refl (λ es c e. sub_of_same (late c es e out)) (early out) (made.emitted out));
        same = λ shut clean out. rw (means out) (ends_ok (op.ends p) (rw is at clean) (λ es e. late shut es e out));
      }
    where
      by : (c : Bool) (r : Given) (out : ℕ) → (s.spots i).closed ≡ c → op.ends (s.spots i).pushed ≡ r
          → ((es : List (ℕ × Plain)) → (s.spots i).closed ≡ true → op.ends (s.spots i).pushed ≡ Ok es → Sub ((s.spots i).emitted out) (op.items (pushes R i (delivered B 0 (node_at g i).ports)) out))
          → Sub (given_by op (s.spots i).pushed out) (op.items (pushes R i (delivered B 0 (node_at g i).ports)) out)
          → (s.spots i).emitted out ≡ given_by op (s.spots i).pushed out ++ cond (s.spots i).closed (to_out out (oks (op.ends (s.spots i).pushed))) []
          → Sub ((s.spots i).emitted out) (op.items (pushes R i (delivered B 0 (node_at g i).ports)) out)
      by true (Ok es) out c r late early e = late es c r
      by true (Err f) out c r late early e = let a : (s.spots i).emitted out ≡ given_by op (s.spots i).pushed out = e ∙ rw (c, r) (append-nil (given_by op (s.spots i).pushed out)) in rw a early
      by false (Ok es) out c r late early e = let a : (s.spots i).emitted out ≡ given_by op (s.spots i).pushed out = e ∙ rw c (append-nil (given_by op (s.spots i).pushed out)) in rw a early
      by false (Err f) out c r late early e = let a : (s.spots i).emitted out ≡ given_by op (s.spots i).pushed out = e ∙ rw c (append-nil (given_by op (s.spots i).pushed out)) in rw a early

      ends_ok : {P : Type 0} (r : Given) → is_ok r ≡ true → ((es : List (ℕ × Plain)) → r ≡ Ok es → P) → P
      ends_ok (Ok es) h f = f es refl
      ends_ok (Err x) h f = absurd cc

-- ### Processes

module _ (E : ℕ → Spot) (nd : PlainNode) (q : Option ℕ) (B : Bags)
    (fed : (k : ℕ) → k < length nd.ports → Sub (feed E (port_at nd k)) (bag_at B nd.ports k))
    (lone : (k : ℕ) → k < length nd.ports → (port_at nd k).value ≡ true → length (bag_at B nd.ports k) ≤ 1) where
  -- once something was taken, the heads are those of the bags
  heads_same : (t : Take) → ProcessTake E nd q t → (x : Plain) → filled 0 nd.ports (feed_head E nd) x ≡ input_of B nd x
  heads_same t f x = filled_same 0 nd.ports (feed_head E nd) (bag_heads B nd.ports) x
      (λ j l s. let i : 0 + j ≡ j = omega arith in rw i ((single_head (feed E (port_at nd j)) (bag_at B nd.ports j) (fed j l) (f.fed j l s) (lone j l s)).0))

  not_lacking : (t : Take) → ProcessTake E nd q t → is_lacking B nd.ports ≡ false
  not_lacking t f = lacks_none B nd.ports (λ k l s. (single_head (feed E (port_at nd k)) (bag_at B nd.ports k) (fed k l) (f.fed k l s) (lone k l s)).1)

  inputs_map : (taken : List Take) → AllByRecursion (ProcessTake E nd q) taken → map (λ t. t.inputs) taken ≡ map (input_of B nd) (map (λ t. t.item) taken)
  inputs_map [] h = refl
  inputs_map (t ∷ ts) h = let a = (h.0).inputs ∙ heads_same t h.0 t.item in let b = inputs_map ts h.1 in rw (a, b) refl

queue_items : (E : ℕ → Spot) (nd : PlainNode) (z : ℕ) (taken : List Take) (p : Plain → Bool) → AllByRecursion (ProcessTake E nd (Some z)) taken → passes p (map (λ t. t.item) taken) ≡ passes (from_port z p) taken
queue_items E nd z taken p h = tally-map (λ x. one_if (p x)) (λ (t : Take). t.item) taken ∙ tally_each (λ t. one_if (p t.item)) (λ t. one_if (from_port z p t)) taken
    (each_map (ProcessTake E nd (Some z)) (λ t. one_if (p t.item) ≡ one_if (from_port z p t)) (λ t f. (let a : (suc z == suc z) ≡ true = grind (arith, nat_tests) in rw (f.slot, a) refl)) taken h)

-- a single port of a process gives no queue item
single_none : (E : ℕ → Spot) (nd : PlainNode) (q : Option ℕ) (k : ℕ) (taken : List Take) (p : Plain → Bool) → ((z : ℕ) → q ≡ Some z → z ≡ k → ⊥) → AllByRecursion (ProcessTake E nd q) taken → passes (from_port k p) taken ≡ 0
single_none E nd q k [] p h e = refl
single_none E nd q k (t ∷ ts) p h e =
    let a : from_port k p t ≡ false = slot_not q t.slot (p t.item) h (e.0).slot in
    rw a (omega (arith, single_none E nd q k ts p h e.1))
  where
    slot_not : (q : Option ℕ) (slot : ℕ) (b : Bool) → ((z : ℕ) → q ≡ Some z → z ≡ k → ⊥) → slot ≡ slot_of (process q) 0 → ((slot == suc k) && b) ≡ false
    slot_not None slot b h e = let a : (slot == suc k) ≡ false = grind (arith, nat_tests) in rw a refl
    slot_not (Some z) slot b h e = let n = h z refl in let a : (slot == suc k) ≡ false = grind (arith, nat_tests) in rw a refl

pub inputs_sub : (E : ℕ → Spot) (nd : PlainNode) (q : Option ℕ) (B : Bags) (taken : List Take)
    → ((k : ℕ) → k < length nd.ports → Sub (feed E (port_at nd k)) (bag_at B nd.ports k))
    → ((k : ℕ) → k < length nd.ports → (port_at nd k).value ≡ true → length (bag_at B nd.ports k) ≤ 1)
    → ((k : ℕ) → k < length nd.ports → (p : Plain → Bool) → passes (from_port k p) taken ≤ passes p (bag_at B nd.ports k))
    → ((z : ℕ) → q ≡ Some z → z < length nd.ports)
    → (q ≡ None → (length taken ≤ 1) × AllByRecursion (λ t. t.item ≡ null) taken)
    → AllByRecursion (ProcessTake E nd q) taken → Sub (map (λ t. t.inputs) taken) (input_lists B nd q)
inputs_sub E nd q B [] fed lone most queue once h = record { at = λ p. omega arith }
inputs_sub E nd None B (t ∷ []) fed lone most queue once h =
    let e : (t ∷ []) ≡ (t ∷ []) = refl in
    let a = inputs_map E nd None B fed lone (t ∷ []) h in
    let z : t.item ≡ null = ((once refl).1).0 in
    rw (not_lacking E nd None B fed lone t h.0, a, z) (sub_refl (input_of B nd null ∷ []))
inputs_sub E nd None B (t ∷ u ∷ ts) fed lone most queue once h = absurd (let m = (once refl).0 in let n : suc (suc (length ts)) ≤ 1 = m in omega arith)
inputs_sub E nd (Some z) B (t ∷ ts) fed lone most queue once h =
    rw (not_lacking E nd (Some z) B fed lone t h.0, inputs_map E nd (Some z) B fed lone (t ∷ ts) h)
    (sub_map (input_of B nd) {a = map (λ u. u.item) (t ∷ ts)} {b = bag_at B nd.ports z} (record { at = λ p. omega (arith, queue_items E nd z (t ∷ ts) p h, most z (queue z refl) p) }))

none_counts : (xs : List Plain) → ((p : Plain → Bool) → passes p xs ≡ 0) → xs ≡ []
none_counts xs h = nil_of xs (let a = h (λ x. true) in omega (arith, count_all xs))

map_nil : {A C : Type 0} (f : A → C) (xs : List A) → xs ≡ [] → map f xs ≡ []
map_nil f xs e = ap (map f) e

cond_nil : {A : Type 0} (b : Bool) (xs : List A) → xs ≡ [] → cond b [] xs ≡ []
cond_nil true xs e = refl
cond_nil false xs e = e

pub inputs_same : (E : ℕ → Spot) (nd : PlainNode) (q : Option ℕ) (B : Bags) (sp : Spot) (taken : List Take) → sp.taken ≡ taken
    → ((k : ℕ) → k < length nd.ports → Sub (feed E (port_at nd k)) (bag_at B nd.ports k))
    → ((k : ℕ) → k < length nd.ports → (port_at nd k).value ≡ true → length (bag_at B nd.ports k) ≤ 1)
    → ((k : ℕ) → k < length nd.ports → (p : Plain → Bool) → passes p (sp.waiting k) + passes (from_port k p) taken ≡ passes p (bag_at B nd.ports k))
    → ((z : ℕ) → q ≡ Some z → (z < length nd.ports) × ((port_at nd z).value ≡ false))
    → ((k : ℕ) → k < length nd.ports → Sub (feed E (port_at nd k)) (bag_at B nd.ports k))
    → (q ≡ None → (length taken ≤ 1) × AllByRecursion (λ t. t.item ≡ null) taken)
    → AllByRecursion (ProcessTake E nd q) taken → MayClose nd (process q) sp → Same (map (λ t. t.inputs) taken) (input_lists B nd q)
inputs_same E nd q B sp taken is fed lone all queue fed' once h shut = by taken q is all queue once h shut
  where
    -- a single port that holds nothing was given nothing
    lacks_bag : (q : Option ℕ) (taken : List Take) (l : Lacks nd sp) → ((k : ℕ) → k < length nd.ports → (p : Plain → Bool) → passes p (sp.waiting k) + passes (from_port k p) taken ≡ passes p (bag_at B nd.ports k))
        → ((z : ℕ) → q ≡ Some z → (z < length nd.ports) × ((port_at nd z).value ≡ false)) → AllByRecursion (ProcessTake E nd q) taken → bag_at B nd.ports l.port ≡ []
    lacks_bag q taken l all queue h = none_counts (bag_at B nd.ports l.port) (λ p. (
        let a = all l.port l.within p in
        let w : passes p (sp.waiting l.port) ≡ 0 = rw l.nothing refl in
        let n = single_none E nd q l.port taken p (λ z e f. true≢false (sym l.value ∙ subst (λ y. (port_at nd y).value ≡ false) f (queue z e).1)) h in
        omega arith))

    lacks_taken : (q : Option ℕ) (t : Take) (ts : List Take) (l : Lacks nd sp) → bag_at B nd.ports l.port ≡ [] → AllByRecursion (ProcessTake E nd q) (t ∷ ts) → ⊥
    lacks_taken q t ts l e h =
        let m = (h.0).fed l.port l.within l.value in
        let n = length_of_sub (fed l.port l.within) in
        let z : length (bag_at B nd.ports l.port) ≡ 0 = rw e refl in
        omega arith

    lacks_lists : (q : Option ℕ) (l : Lacks nd sp) → bag_at B nd.ports l.port ≡ [] → input_lists B nd q ≡ []
    lacks_lists None l e = rw (lacks B nd.ports l.port l.within l.value e) refl
    lacks_lists (Some z) l e = rw (lacks B nd.ports l.port l.within l.value e) refl

    by : (taken : List Take) (q : Option ℕ) → sp.taken ≡ taken → ((k : ℕ) → k < length nd.ports → (p : Plain → Bool) → passes p (sp.waiting k) + passes (from_port k p) taken ≡ passes p (bag_at B nd.ports k))
        → ((z : ℕ) → q ≡ Some z → (z < length nd.ports) × ((port_at nd z).value ≡ false)) → (q ≡ None → (length taken ≤ 1) × AllByRecursion (λ t. t.item ≡ null) taken)
        → AllByRecursion (ProcessTake E nd q) taken → MayClose nd (process q) sp → Same (map (λ t. t.inputs) taken) (input_lists B nd q)
    by [] None is all queue once h shut = elim shut [
      | inl l ↦ rw (lacks_lists None l (lacks_bag None [] l all queue h)) (same_refl [])
      | inr o ↦ absurd (let z : length sp.taken ≡ 0 = rw is refl in omega arith)
    ]
    by [] (Some z) is all queue once h shut = elim shut [
      | inl l ↦ rw (lacks_lists (Some z) l (lacks_bag (Some z) [] l all queue h)) (same_refl [])
      | inr w ↦ (let e : bag_at B nd.ports z ≡ [] = none_counts (bag_at B nd.ports z) (λ p. (let a = all z (queue z refl).0 p in let b : passes p (sp.waiting z) ≡ 0 = rw w refl in omega arith)) in
          rw (cond_nil (is_lacking B nd.ports) (map (input_of B nd) (bag_at B nd.ports z)) (map_nil (input_of B nd) (bag_at B nd.ports z) e)) (same_refl []))
    ]
    by (t ∷ []) None is all queue once h shut =
        let a = inputs_map E nd None B fed lone (t ∷ []) h in
        let z : t.item ≡ null = ((once refl).1).0 in
        rw (not_lacking E nd None B fed lone t h.0, a, z) (same_refl (input_of B nd null ∷ []))
    by (t ∷ u ∷ ts) None is all queue once h shut = absurd (let m = (once refl).0 in let n : suc (suc (length ts)) ≤ 1 = m in omega arith)
    by (t ∷ ts) (Some z) is all queue once h shut = elim shut [
      | inl l ↦ absurd (lacks_taken (Some z) t ts l (lacks_bag (Some z) (t ∷ ts) l all queue h) h)
      | inr w ↦ rw (not_lacking E nd (Some z) B fed lone t h.0, inputs_map E nd (Some z) B fed lone (t ∷ ts) h)
          (same_map (input_of B nd) {a = map (λ u. u.item) (t ∷ ts)} {b = bag_at B nd.ports z} (record { at = λ p. (let b : passes p (sp.waiting z) ≡ 0 = rw w refl in omega (arith, queue_items E nd z (t ∷ ts) p h, all z (queue z refl).0 p)) }))
    ]
