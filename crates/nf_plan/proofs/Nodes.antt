-- A plan with one node more is a plan.
use Rattle.std.proofs.Common.{◌≡◌, ◌<◌, ◌≤◌, ℕ, zero, suc, ◌+◌, Bool, true, false, List, [], ◌∷◌, ◌++◌, length, refl, ap, sym, ◌∙◌, subst, arith, ◌⊎◌, inl, inr, ◌&&◌}
use Rattle.std.specs.Prelude.{◌||◌, bytes_eq}
use Rattle.std.specs.List.{list_any}
use Rattle.std.proofs.lemmas.Bool.{cases_lt, cases_eq, true≢false}
use Rattle.std.proofs.lemmas.Slice.Eq.{bytes_eq-Decides}
use Rattle.std.proofs.lemmas.Bool.Decides.{nat_tests}
use Rattle.std.proofs.lemmas.List.{append-nil, append_assoc, get_or_append_left}
use Rattle.std.proofs.lemmas.List.Sums.{sum_by-append}
use Rattle.nf_graph.specs.declared.port.Port.{Port}
use Rattle.nf_graph.specs.declared.node.Node.{Node}
use Rattle.nf_graph.specs.declared.node.NodeKind.{NodeKind}
use Rattle.nf_graph.specs.Node.{port_in}
use Rattle.nf_graph.specs.WellMade.{FitsKind, IsValueSource, IsWellMade, ReadsEarlier, node_in, no_source}
use Rattle.nf_bodies.specs.declared.body.NodeInfo.{NodeInfo}
use Rattle.nf_bodies.specs.declared.body.NodeBody.{NodeBody}
use Rattle.nf_bodies.specs.declared.body.NodeBody.TheVariants as body
use Rattle.nf_bodies.specs.Bodies.{body_in}
use Rattle.nf_plan.specs.declared.builder.PlanBuilder.{PlanBuilder}
use Rattle.nf_plan.specs.declared.sizes.Sizes.{Sizes}
use Rattle.nf_meaning.specs.Sizes.{is_within_limits}
use Rattle.nf_plan.specs.Sizes.{sizes_of}
use Rattle.nf_plan.specs.Plans.{name_in, ports_in, is_view, place_if, views_from, is_process, FitsBody, is_call_of, has_call_of, PathsApart, IsPlan, HasRoom, FitsPlan, Adds}
use Rattle.nf_plan.proofs.Lists.{longer, mapped_old, mapped_last, mapped_past, further, at_each}

-- ---- the graph

pub few : (x : Sizes) → is_within_limits (sizes_of x) ≡ true → (x.nodes ≤ 65536) × (x.ports ≤ 65536)
few x h = (grind (arith, nat_tests, h), grind (arith, nat_tests, h))

reads_on : (ns : List Node) (n : Node) (i : ℕ) (p : Port) → i ≤ length ns → ReadsEarlier ns i p → ReadsEarlier (ns ++ n ∷ []) i p
reads_on ns n i p l r =
    let below : p.from < length ns = omega (arith, l, r.earlier) in
    let same : node_in (ns ++ n ∷ []) p.from ≡ node_in ns p.from = node_old ns n p.from below in
    record {
      earlier = r.earlier;
      out = subst (λ (m : Node). p.out < m.outs) (sym same) r.out;
      value = λ v. subst (λ (m : Node). IsValueSource m m.kind) (sym same) (r.value v);
    }
  where
    node_old : (ns : List Node) (n : Node) (i : ℕ) → i < length ns → node_in (ns ++ n ∷ []) i ≡ node_in ns i
    node_old ns n i l = get_or_append_left ns (n ∷ []) no_source i l

pub graph_grows : (b : PlanBuilder) (n : Node) → IsWellMade b.nodes.items → HasRoom b (length n.ports) → is_within_limits (sizes_of b.sizes) ≡ true → FitsKind n n.kind
    → ((k : ℕ) → k < length n.ports → ReadsEarlier b.nodes.items (length b.nodes.items) (port_in n.ports k)) → IsWellMade (b.nodes.items ++ n ∷ [])
graph_grows b n made room within kind reads =
    let limits = few b.sizes within in
    record {
      few_nodes = omega (arith, longer b.nodes.items n, room.nodes, limits.0);
      few_ports = omega (arith, sum_by-append (λ (m : Node). length m.ports) b.nodes.items (n ∷ []), room.ports, limits.1);
      kinds = at_each (λ i m. FitsKind m m.kind) b.nodes.items n no_source (λ i l. made.kinds i) kind (λ i l. refl);
      reads = at_each (λ i m. (k : ℕ) → k < length m.ports → ReadsEarlier (b.nodes.items ++ n ∷ []) i (port_in m.ports k)) b.nodes.items n no_source
          (λ i l k lk. reads_on b.nodes.items n i (port_in (node_in b.nodes.items i).ports k) (omega (arith, l)) (made.reads i k lk))
          (λ k lk. reads_on b.nodes.items n (length b.nodes.items) (port_in n.ports k) (omega arith) (reads k lk))
          (λ i l k lk. absurd (omega (arith, lk)));
    }

-- ---- views

pub views_grow : (i : ℕ) (ns : List Node) (n : Node) → views_from i (ns ++ n ∷ []) ≡ views_from i ns ++ place_if (is_view n.kind) (i + length ns)
views_grow i [] n = let e : i + 0 ≡ i = omega arith in append-nil (place_if (is_view n.kind) i) ∙ ap (λ k. place_if (is_view n.kind) k) (sym e)
views_grow i (m ∷ ns) n =
    let e : suc i + length ns ≡ i + suc (length ns) = omega arith in
    ap (λ vs. place_if (is_view m.kind) i ++ vs) (views_grow (suc i) ns n ∙ ap (λ k. views_from (suc i) ns ++ place_if (is_view n.kind) k) e)
    ∙ sym (append_assoc (place_if (is_view m.kind) i) (views_from (suc i) ns) (place_if (is_view n.kind) (i + suc (length ns))))

-- ---- paths

-- no call has the path
pub none_has : (path : List ℕ) (xs : List NodeInfo) → has_call_of path xs ≡ false → (i : ℕ) → is_process (body_in xs i) ≡ true → name_in xs i ≡ path → ⊥
none_has path [] h i p e = absurd cc
none_has path (x ∷ xs) h zero p e =
    let same : bytes_eq x.name path ≡ true = (bytes_eq-Decides x.name path).1 e in
    let here : is_call_of path x ≡ true = ap (λ b. b && bytes_eq x.name path) p ∙ same in
    absurd (true≢false (sym (ap (λ b. b || list_any (is_call_of path) xs) here) ∙ h))
none_has path (x ∷ xs) h (suc i) p e = none_has path xs (later (is_call_of path x) (list_any (is_call_of path) xs) h) i p e
  where
    later : (a b : Bool) → (a || b) ≡ false → b ≡ false
    later true b h = absurd (true≢false h)
    later false b h = h

-- a call at a place of the longer list is one of the list, or the last
place_of : (xs : List NodeInfo) (x : NodeInfo) (i : ℕ) → is_process (body_in (xs ++ x ∷ []) i) ≡ true
    → ((i < length xs) × (is_process (body_in xs i) ≡ true) × (name_in (xs ++ x ∷ []) i ≡ name_in xs i))
    ⊎ ((i ≡ length xs) × (is_process x.body ≡ true) × (name_in (xs ++ x ∷ []) i ≡ x.name))
place_of xs x i p = elim (cases_lt i (length xs)) [
  | inl l ↦ inl (l, sym (ap is_process (mapped_old (λ (z : NodeInfo). z.body) xs x body.Source i l)) ∙ p, mapped_old (λ (z : NodeInfo). z.name) xs x [] i l)
  | inr m ↦ elim (cases_eq i (length xs)) [
    | inl e ↦ inr (e, sym (ap is_process (mapped_last (λ (z : NodeInfo). z.body) xs x body.Source i e)) ∙ p, mapped_last (λ (z : NodeInfo). z.name) xs x [] i e)
    | inr h ↦ absurd (true≢false (sym p ∙ ap is_process (mapped_past (λ (z : NodeInfo). z.body) xs x body.Source i (further m h))))
  ]
]

pub paths_grow : (xs : List NodeInfo) (x : NodeInfo) → PathsApart xs → (is_process x.body ≡ true → has_call_of x.name xs ≡ false) → PathsApart (xs ++ x ∷ [])
paths_grow xs x apart new i j p q e = elim (place_of xs x i p) [
  | inl a ↦ elim (place_of xs x j q) [
    | inl b ↦ apart i j a.1 b.1 (sym a.2 ∙ e ∙ b.2)
    | inr b ↦ absurd (none_has x.name xs (new b.1) i a.1 (sym a.2 ∙ e ∙ b.2))
  ]
  | inr a ↦ elim (place_of xs x j q) [
    | inl b ↦ absurd (none_has x.name xs (new a.1) j b.1 (sym b.2 ∙ sym e ∙ a.2))
    | inr b ↦ a.0 ∙ sym b.0
  ]
]

-- ---- bodies

pub bodies_grow : (ns : List Node) (n : Node) (xs : List NodeInfo) (x : NodeInfo) → length xs ≡ length ns
    → ((i : ℕ) → FitsBody (node_in ns i).kind (name_in xs i) (body_in xs i)) → FitsBody n.kind x.name x.body
    → (i : ℕ) → FitsBody (node_in (ns ++ n ∷ []) i).kind (name_in (xs ++ x ∷ []) i) (body_in (xs ++ x ∷ []) i)
bodies_grow ns n xs x same old last = at_each (λ i m. FitsBody m.kind (name_in (xs ++ x ∷ []) i) (body_in (xs ++ x ∷ []) i)) ns n no_source
    (λ i l. at i (node_in ns i).kind (mapped_old (λ (z : NodeInfo). z.name) xs x [] i (omega (arith, l, same))) (mapped_old (λ (z : NodeInfo). z.body) xs x body.Source i (omega (arith, l, same))) (old i))
    (at (length ns) n.kind (mapped_last (λ (z : NodeInfo). z.name) xs x [] (length ns) (sym same)) (mapped_last (λ (z : NodeInfo). z.body) xs x body.Source (length ns) (sym same)) last)
    (λ i l. subst (λ (b : NodeBody). FitsBody no_source.kind (name_in (xs ++ x ∷ []) i) b) (sym (mapped_past (λ (z : NodeInfo). z.body) xs x body.Source i (omega (arith, l, same)))) refl)
  where
    at : (i : ℕ) (kind : NodeKind) {name : List ℕ} {b : NodeBody} → name_in (xs ++ x ∷ []) i ≡ name → body_in (xs ++ x ∷ []) i ≡ b → FitsBody kind name b
        → FitsBody kind (name_in (xs ++ x ∷ []) i) (body_in (xs ++ x ∷ []) i)
    at i kind {name} {b} e f h = subst (λ (m : List ℕ). FitsBody kind m (body_in (xs ++ x ∷ []) i)) (sym e) (subst (λ (c : NodeBody). FitsBody kind name c) (sym f) h)

-- ---- the plan

pub plan_grows : (old new : PlanBuilder) (n : Node) (x : NodeInfo) → IsPlan old → FitsPlan old n x → Adds old new n x
    → new.views.items ≡ old.views.items ++ place_if (is_view n.kind) (length old.nodes.items) → IsPlan new
plan_grows old new n x plan fits adds views =
    let ports : ports_in new.nodes.items ≡ ports_in old.nodes.items + length n.ports =
    ap ports_in adds.nodes ∙ sum_by-append (λ (m : Node). length m.ports) old.nodes.items (n ∷ []) ∙ (omega arith) in
    let nodes : length new.nodes.items ≡ suc (length old.nodes.items) = ap (λ (ns : List Node). length ns) adds.nodes ∙ longer old.nodes.items n in
    let sizes : new.sizes ≡ old.sizes = adds.sizes in
    record {
      graph = subst IsWellMade (sym adds.nodes) (graph_grows old n plan.graph fits.room plan.within fits.kind fits.reads);
      infos = ap (λ (xs : List NodeInfo). length xs) adds.infos ∙ longer old.infos.items x ∙ ap suc plan.infos ∙ sym nodes;
      bodies = subst (λ (ns : List Node). (i : ℕ) → FitsBody (node_in ns i).kind (name_in new.infos.items i) (body_in new.infos.items i)) (sym adds.nodes)
          (subst (λ (xs : List NodeInfo). (i : ℕ) → FitsBody (node_in (old.nodes.items ++ n ∷ []) i).kind (name_in xs i) (body_in xs i)) (sym adds.infos)
          (bodies_grow old.nodes.items n old.infos.items x plan.infos plan.bodies fits.body));
      views = views ∙ ap (λ vs. vs ++ place_if (is_view n.kind) (length old.nodes.items)) plan.views ∙ sym (views_grow 0 old.nodes.items n ∙ ap (λ k. views_from 0 old.nodes.items ++ place_if (is_view n.kind) k) (omega arith)) ∙ ap (views_from 0) (sym adds.nodes);
      paths = subst PathsApart (sym adds.infos) (paths_grow old.infos.items x plan.paths fits.path);
      nodes = subst (λ (z : Sizes). length new.nodes.items ≤ z.nodes) (sym sizes) (omega (arith, nodes, fits.room.nodes));
      ports = subst (λ (z : Sizes). ports_in new.nodes.items ≤ z.ports) (sym sizes) (omega (arith, ports, fits.room.ports));
      within = ap (λ (z : Sizes). is_within_limits (sizes_of z)) sizes ∙ plan.within;
    }
