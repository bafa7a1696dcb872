-- What a change of one part of a node's state keeps.
use Rattle.std.proofs.Common.{◌≡◌, ℕ, suc, ◌+◌, ◌<◌, ◌≤◌, List, [], ◌∷◌, ◌++◌, length, get_or, set, true, false, cond, refl, ap, sym, ◌∙◌, subst, arith, inl, inr, length-set, length-append, append-nil, Vec, Global}
use Rattle.std.specs.Prelude.{◌==◌, nat_lt, remove, if◌then◌else◌}
use Rattle.std.proofs.lemmas.Bool.{cases_eq}
use Rattle.std.proofs.lemmas.Bool.Decides.{nat_tests}
use Rattle.std.proofs.lemmas.List.{append_assoc, map-append, get_or-set_same, get_or-set_other, get_or_default}
use Rattle.std.proofs.lemmas.List.Concat.{flat_map-append}
use Rattle.nf_value.specs.Plain.{Plain}
use Rattle.nf_value.specs.View.{plain_of}
use Rattle.nf_value.specs.declared.value.Value.{Value}
use Rattle.nf_opstream.specs.Operator.{to_out}
use Rattle.nf_opstream.specs.Promise.{emit_of, emits_of}
use Rattle.nf_graph.specs.declared.node.Node.{Node}
use Rattle.nf_graph.specs.Rules.{Outs, emit_at}
use Rattle.nf_graph.specs.Meaning.{put}
use Rattle.nf_graph.proofs.Lists.{put_same, put_other}
use Rattle.nf_machine.specs.State.{Ended, Spot}
use Rattle.nf_spot.specs.Numbers.{has, limit_of}
use Rattle.nf_spot.specs.Heads.{no_inlet}
use Rattle.nf_spot.specs.Spot.{IsKept, IsNode, waits_on, leaves_on, emits_on, emits_all_on, outs_on, waiting_at, passed_at, emitted_at}
use Rattle.nf_spot.specs.declared.node_state.NodeState.{NodeState}
use Rattle.nf_spot.proofs.Keeping.{kept_same}

-- a part other than the ports and the outputs
pub kept_changed : (node : Node) (sp new : Spot) (c d : NodeState) → IsNode node sp c → d.outlets ≡ c.outlets → d.inlets ≡ c.inlets → d.filled ≡ c.filled → new.emitted ≡ sp.emitted → new.passed ≡ sp.passed → new.waiting ≡ sp.waiting
    → IsKept node.kind new d.kept → IsNode node new d
kept_changed node sp new c d h ou ins fi em pa wa kept = record {
  outs = ap (λ (o : Vec (List Plain) Global). length o.items) ou ∙ h.outs;
  emits = λ out l. ap (λ (o : Vec (List Plain) Global). get_or o.items out []) ou ∙ h.emits out l ∙ ap (λ (e : ℕ → List Plain). e out) (sym em);
  ports = ap (λ (o : Vec (ℕ × List Plain) Global). length o.items) ins ∙ h.ports;
  inlet = λ k l. ap (λ (o : Vec (ℕ × List Plain) Global). get_or o.items k no_inlet) ins ∙ h.inlet k l ∙ (λ i. (sym pa i k, sym wa i k));
  limit = ap limit_of fi ∙ h.limit;
  fills = λ k l. ap (λ s. has s k) fi ∙ h.fills k l ∙ ap (λ (w : ℕ → List Plain). nat_lt 0 (length (w k))) (sym wa);
  keeps = kept;
}

-- what a port of the spot has
abbrev pub pair_at : Spot → ℕ → ℕ × List Plain
pair_at sp k = (sp.passed k, sp.waiting k)

-- one port
module _ (node : Node) (sp new : Spot) (c d : NodeState) (port : ℕ) (v : ℕ × List Plain) where
  pub port_changed : IsNode node sp c → d.outlets ≡ c.outlets → d.kept ≡ c.kept → d.inlets.items ≡ set c.inlets.items port v → port < length c.inlets.items → limit_of d.filled ≡ limit_of c.filled
      → ((x : ℕ) → has d.filled x ≡ (if x == port then nat_lt 0 (length v.1) else has c.filled x)) → new.emitted ≡ sp.emitted → IsKept node.kind new c.kept → pair_at new port ≡ v
      → ((k : ℕ) → (k ≡ port → ⊥) → pair_at new k ≡ pair_at sp k) → IsNode node new d
  port_changed h ou ke ins l li fi em kept here there = record {
    outs = ap (λ (o : Vec (List Plain) Global). length o.items) ou ∙ h.outs;
    emits = λ out m. ap (λ (o : Vec (List Plain) Global). get_or o.items out []) ou ∙ h.emits out m ∙ ap (λ (e : ℕ → List Plain). e out) (sym em);
    ports = ap length ins ∙ length-set c.inlets.items port v ∙ h.ports;
    inlet = λ k m. ap (λ q. get_or q k no_inlet) ins ∙ elim (cases_eq k port) [
      | inl e ↦ subst (λ j. get_or (set c.inlets.items port v) j no_inlet ≡ pair_at new j) (sym e) (get_or-set_same c.inlets.items port v no_inlet l ∙ sym here)
      | inr n ↦ get_or-set_other c.inlets.items port k v no_inlet n ∙ h.inlet k m ∙ sym (there k n)
    ];
    limit = li ∙ h.limit;
    fills = λ k m. fi k ∙ elim (cases_eq k port) [
      | inl e ↦ (let t : (k == port) ≡ true = grind (arith, nat_tests) in rw t (subst (λ j. nat_lt 0 (length v.1) ≡ nat_lt 0 (length (new.waiting j))) (sym e) (ap (λ (p : ℕ × List Plain). nat_lt 0 (length p.1)) (sym here))))
      | inr n ↦ (let t : (k == port) ≡ false = grind (arith, nat_tests) in rw t (h.fills k m ∙ ap (λ (p : ℕ × List Plain). nat_lt 0 (length p.1)) (sym (there k n))))
    ];
    keeps = subst (λ z. IsKept node.kind new z) (sym ke) kept;
  }

-- a port of the node shows what the spot has
pub shown : (node : Node) (sp : Spot) (c : NodeState) (port : ℕ) → IsNode node sp c → port < length c.inlets.items → get_or c.inlets.items port no_inlet ≡ pair_at sp port
shown node sp c port h l = h.inlet port (let e = h.ports in omega arith)

pub received : (node : Node) (sp : Spot) (c d : NodeState) (port : ℕ) (x : Plain) → IsNode node sp c → d.outlets ≡ c.outlets → d.kept ≡ c.kept
    → d.inlets.items ≡ set c.inlets.items port (passed_at c port + 1, waiting_at c port ++ x ∷ []) → port < length c.inlets.items → limit_of d.filled ≡ limit_of c.filled
    → ((y : ℕ) → has d.filled y ≡ (if y == port then true else has c.filled y)) → IsNode node (waits_on sp port x) d
received node sp c d port x h ou ke ins l li fi =
    let new = waits_on sp port x in
    let e = shown node sp c port h l in
    let pa : put sp.passed port (suc (sp.passed port)) port ≡ passed_at c port + 1 = put_same sp.passed port (suc (sp.passed port)) ∙ (let q : passed_at c port ≡ sp.passed port = ap (λ (p : ℕ × List Plain). p.0) e in omega arith) in
    let wa : put sp.waiting port (sp.waiting port ++ x ∷ []) port ≡ waiting_at c port ++ x ∷ [] = put_same sp.waiting port (sp.waiting port ++ x ∷ []) ∙ ap (λ (p : ℕ × List Plain). p.1 ++ x ∷ []) (sym e) in
    let some : nat_lt 0 (length (waiting_at c port ++ x ∷ [])) ≡ true = (let q = length-append (waiting_at c port) (x ∷ []) in grind (arith, nat_tests)) in
    port_changed node sp new c d port (passed_at c port + 1, waiting_at c port ++ x ∷ []) h ou ke ins l li
    (λ y. fi y ∙ ap (λ b. if y == port then b else has c.filled y) (sym some)) refl (kept_same node.kind sp new c.kept refl refl refl h.keeps)
    (λ i. (pa i, wa i)) (λ k n i. (put_other sp.passed port (suc (sp.passed port)) k n i, put_other sp.waiting port (sp.waiting port ++ x ∷ []) k n i))

pub left_port : (node : Node) (sp : Spot) (c d : NodeState) (port place : ℕ) → IsNode node sp c → d.outlets ≡ c.outlets → d.kept ≡ c.kept
    → d.inlets.items ≡ set c.inlets.items port (passed_at c port, remove (waiting_at c port) place) → port < length c.inlets.items → limit_of d.filled ≡ limit_of c.filled
    → ((y : ℕ) → has d.filled y ≡ (if y == port then nat_lt 0 (length (remove (waiting_at c port) place)) else has c.filled y)) → IsNode node (leaves_on sp port place) d
left_port node sp c d port place h ou ke ins l li fi =
    let new = leaves_on sp port place in
    let e = shown node sp c port h l in
    let wa : put sp.waiting port (remove (sp.waiting port) place) port ≡ remove (waiting_at c port) place = put_same sp.waiting port (remove (sp.waiting port) place) ∙ ap (λ (p : ℕ × List Plain). remove p.1 place) (sym e) in
    port_changed node sp new c d port (passed_at c port, remove (waiting_at c port) place) h ou ke ins l li fi refl (kept_same node.kind sp new c.kept refl refl refl h.keeps)
    (λ i. ((sym e i).0, wa i)) (λ k n i. (sp.passed k, put_other sp.waiting port (remove (sp.waiting port) place) k n i))

-- the same of what the code read and wrote: w is the port before, n the port after
module _ (node : Node) (sp : Spot) (c d : NodeState) (port : ℕ) (w n : ℕ × List Plain) (h : IsNode node sp c) (ou : d.outlets ≡ c.outlets) (ke : d.kept ≡ c.kept) (ins : d.inlets.items ≡ set c.inlets.items port n)
    (was : w ≡ get_or c.inlets.items port w) (l : port < length c.inlets.items) (li : limit_of d.filled ≡ limit_of c.filled) where
  got : w ≡ get_or c.inlets.items port no_inlet
  got = was ∙ get_or_default c.inlets.items port w no_inlet l

  pub received_at : (x : Plain) → ◌≡◌ {A = ℕ × List Plain} n (w.0 + 1, w.1 ++ x ∷ []) → ((y : ℕ) → has d.filled y ≡ (if y == port then true else has c.filled y)) → IsNode node (waits_on sp port x) d
  received_at x e fi = received node sp c d port x h ou ke (ins ∙ ap (set c.inlets.items port) (e ∙ (λ i. ((got i).0 + 1, (got i).1 ++ x ∷ [])))) l li fi

  pub left_at : (place k : ℕ) → ◌≡◌ {A = ℕ × List Plain} n (w.0, remove w.1 place) → k ≡ length n.1 → ((y : ℕ) → has d.filled y ≡ (if y == port then nat_lt 0 k else has c.filled y)) → IsNode node (leaves_on sp port place) d
  left_at place k e m fi =
      let is : ◌≡◌ {A = ℕ × List Plain} n (passed_at c port, remove (waiting_at c port) place) = e ∙ (λ i. ((got i).0, remove (got i).1 place)) in
      let len : k ≡ length (remove (waiting_at c port) place) = m ∙ ap (λ (p : ℕ × List Plain). length p.1) is in
      left_port node sp c d port place h ou ke (ins ∙ ap (set c.inlets.items port) is) l li (λ y. fi y ∙ ap (λ q. if y == port then nat_lt 0 q else has c.filled y) len)

-- what goes to an output
to_own : (out : ℕ) (x : Plain) → to_out out ((out, x) ∷ []) ≡ x ∷ []
to_own out x = let t : (out == out) ≡ true = grind (arith, nat_tests) in rw t refl

to_other : (o out : ℕ) (x : Plain) → (o ≡ out → ⊥) → to_out o ((out, x) ∷ []) ≡ []
to_other o out x n = let t : (out == o) ≡ false = grind (arith, nat_tests) in rw t refl

pub emitted_one : (node : Node) (sp : Spot) (c d : NodeState) (out : ℕ) (x : Plain) → IsNode node sp c → d.inlets ≡ c.inlets → d.filled ≡ c.filled → d.kept ≡ c.kept
    → d.outlets.items ≡ set c.outlets.items out (emitted_at c out ++ x ∷ []) → out < length c.outlets.items → IsNode node (emits_on sp out x) d
emitted_one node sp c d out x h ins fi ke ou l = record {
  outs = ap length ou ∙ length-set c.outlets.items out (emitted_at c out ++ x ∷ []) ∙ h.outs;
  emits = λ o m. ap (λ q. get_or q o []) ou ∙ elim (cases_eq o out) [
    | inl e ↦ subst (λ j. get_or (set c.outlets.items out (emitted_at c out ++ x ∷ [])) j [] ≡ sp.emitted j ++ to_out j ((out, x) ∷ [])) (sym e)
        (get_or-set_same c.outlets.items out (emitted_at c out ++ x ∷ []) [] l ∙ ap (λ r. r ++ x ∷ []) (h.emits out (let f = h.outs in omega arith)) ∙ ap (λ r. sp.emitted out ++ r) (sym (to_own out x)))
    | inr n ↦ get_or-set_other c.outlets.items out o (emitted_at c out ++ x ∷ []) [] n ∙ h.emits o m ∙ sym (append-nil (sp.emitted o)) ∙ ap (λ r. sp.emitted o ++ r) (sym (to_other o out x n))
  ];
  ports = ap (λ (o : Vec (ℕ × List Plain) Global). length o.items) ins ∙ h.ports;
  inlet = λ k m. ap (λ (o : Vec (ℕ × List Plain) Global). get_or o.items k no_inlet) ins ∙ h.inlet k m;
  limit = ap limit_of fi ∙ h.limit;
  fills = λ k m. ap (λ s. has s k) fi ∙ h.fills k m;
  keeps = subst (λ z. IsKept node.kind (emits_on sp out x) z) (sym ke) (kept_same node.kind sp (emits_on sp out x) c.kept refl refl refl h.keeps);
}

pub emitted_none : (node : Node) (sp : Spot) (c : NodeState) (out : ℕ) (x : Plain) → IsNode node sp c → length c.outlets.items ≤ out → IsNode node (emits_on sp out x) c
emitted_none node sp c out x h l = record {
  outs = h.outs;
  emits = λ o m. h.emits o m ∙ sym (append-nil (sp.emitted o)) ∙ ap (λ r. sp.emitted o ++ r) (sym (to_other o out x (λ e. let f = h.outs in omega arith)));
  ports = h.ports;
  inlet = h.inlet;
  limit = h.limit;
  fills = h.fills;
  keeps = kept_same node.kind sp (emits_on sp out x) c.kept refl refl refl h.keeps;
}

-- all outputs
pub emitted_changed : (node : Node) (sp : Spot) (c d : NodeState) (emitted : ℕ → List Plain) → IsNode node sp c → d.inlets ≡ c.inlets → d.filled ≡ c.filled → d.kept ≡ c.kept → length d.outlets.items ≡ length c.outlets.items
    → ((o : ℕ) → o < node.outs → get_or d.outlets.items o [] ≡ emitted o) → IsNode node (record sp { emitted = emitted }) d
emitted_changed node sp c d emitted h ins fi ke len each = record {
  outs = len ∙ h.outs;
  emits = each;
  ports = ap (λ (o : Vec (ℕ × List Plain) Global). length o.items) ins ∙ h.ports;
  inlet = λ k m. ap (λ (o : Vec (ℕ × List Plain) Global). get_or o.items k no_inlet) ins ∙ h.inlet k m;
  limit = ap limit_of fi ∙ h.limit;
  fills = λ k m. ap (λ s. has s k) fi ∙ h.fills k m;
  keeps = subst (λ z. IsKept node.kind (record sp { emitted = emitted }) z) (sym ke) (kept_same node.kind sp (record sp { emitted = emitted }) c.kept refl refl refl h.keeps);
}

pub outs_emitted : (node : Node) (sp : Spot) (c d : NodeState) (outs : Outs) → IsNode node sp c → d.inlets ≡ c.inlets → d.filled ≡ c.filled → d.kept ≡ c.kept → length d.outlets.items ≡ length c.outlets.items
    → ((o : ℕ) → o < length c.outlets.items → get_or d.outlets.items o [] ≡ get_or c.outlets.items o [] ++ emit_at outs o) → IsNode node (outs_on sp outs) d
outs_emitted node sp c d outs h ins fi ke len each =
    emitted_changed node sp c d (λ o. sp.emitted o ++ emit_at outs o) h ins fi ke len (λ o l. each o (let e = h.outs in omega arith) ∙ ap (λ xs. xs ++ emit_at outs o) (h.emits o l))

-- a task that emits nothing
pub none_emitted : (node : Node) (sp : Spot) (c : NodeState) (outs : Outs) → IsNode node sp c → ((o : ℕ) → emit_at outs o ≡ []) → IsNode node (outs_on sp outs) c
none_emitted node sp c outs h none =
    emitted_changed node sp c c (λ o. sp.emitted o ++ emit_at outs o) h refl refl refl refl (λ o l. h.emits o l ∙ sym (append-nil (sp.emitted o)) ∙ ap (λ xs. sp.emitted o ++ xs) (sym (none o)))

-- what came back isn't kept
pub ended_changed : (node : Node) (sp : Spot) (c : NodeState) (es : List Ended) → IsNode node sp c → IsNode node (record sp { ended = es }) c
ended_changed node sp c es h = record {
  outs = h.outs;
  emits = h.emits;
  ports = h.ports;
  inlet = h.inlet;
  limit = h.limit;
  fills = h.fills;
  keeps = kept_same node.kind sp (record sp { ended = es }) c.kept refl refl refl h.keeps;
}

-- ---- values in their order

emits_more : (sp : Spot) (es : List (ℕ × Plain)) (out : ℕ) (x : Plain) → emits_on (emits_all_on sp es) out x ≡ emits_all_on sp (es ++ (out, x) ∷ [])
emits_more sp es out x = λ i. record sp { emitted = λ o. (append_assoc (sp.emitted o) (to_out o es) (to_out o ((out, x) ∷ [])) ∙ ap (λ ys. sp.emitted o ++ ys) (sym (flat_map-append (λ (e : ℕ × Plain). cond (e.0 == o) (e.1 ∷ []) []) es ((out, x) ∷ [])))) i }

emits_none : (sp : Spot) → emits_all_on sp [] ≡ sp
emits_none sp = λ i. record sp { emitted = λ o. append-nil (sp.emitted o) i }

pub emitted_first : (c : NodeState) (node : Node) (sp : Spot) → IsNode node sp c → IsNode node (emits_all_on sp []) c
emitted_first c node sp h = subst (λ s. IsNode node s c) (sym (emits_none sp)) h

pub emitted_step : (first now next : NodeState) (done : List (ℕ × Value)) (out : ℕ) (value : Value) → ((node : Node) (sp : Spot) → IsNode node sp first → IsNode node (emits_all_on sp (emits_of done)) now)
    → ((node : Node) (sp : Spot) → IsNode node sp now → IsNode node (emits_on sp out (plain_of value)) next) → (node : Node) (sp : Spot) → IsNode node sp first → IsNode node (emits_all_on sp (emits_of (done ++ (out, value) ∷ []))) next
emitted_step first now next done out value so_far step node sp h =
    let e : emits_on (emits_all_on sp (emits_of done)) out (plain_of value) ≡ emits_all_on sp (emits_of (done ++ (out, value) ∷ [])) =
    emits_more sp (emits_of done) out (plain_of value) ∙ ap (emits_all_on sp) (sym (map-append emit_of done ((out, value) ∷ []))) in
    subst (λ s. IsNode node s next) e (step node (emits_all_on sp (emits_of done)) (so_far node sp h))
