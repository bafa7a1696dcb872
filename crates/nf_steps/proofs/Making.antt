-- A graph with one node more is a graph.
use Rattle.std.proofs.Common.{◌≡◌, ◌<◌, ◌≤◌, ℕ, zero, suc, ◌+◌, ◌-◌, Bool, true, false, List, [], ◌∷◌, ◌++◌, take, drop, get_or, length, refl, ap, sym, ◌∙◌, subst, arith, inl, inr, ◌&&◌}
use Rattle.std.specs.List.{list_all}
use Rattle.std.proofs.lemmas.Bool.{cases_lt, cases_eq, true≢false}
use Rattle.std.proofs.lemmas.List.{get_or_append_left, get_or_past, length-append, get_or_default, length-drop, take_all}
use Rattle.std.proofs.lemmas.List.Sums.{sum_by-append}
use Rattle.std.proofs.Math.Seq.{get_or-append_seam}
use Rattle.nf_graph.specs.declared.port.Port.{Port}
use Rattle.nf_graph.specs.declared.node.Node.{Node}
use Rattle.nf_graph.specs.Node.{no_port, port_in, IsQueue}
use Rattle.nf_graph.specs.WellMade.{FitsKind, IsValueSource, IsWellMade, ReadsEarlier, node_in, no_source, plain_node}
use Rattle.nf_wiring.specs.Places.{port_count}
use Rattle.nf_steps.specs.Making.{IsOnlyQueue, ReadEarlier}

-- ---- lists

longer : {A : Type 0} (xs : List A) (x : A) → length (xs ++ x ∷ []) ≡ suc (length xs)
longer xs x = omega (arith, length-append xs (x ∷ []))

further : {m n : ℕ} → m ≤ n → (n ≡ m → ⊥) → m < n
further {m} {n} l h = elim (cases_lt m n) [ inl a ↦ a | inr b ↦ absurd (h (omega (arith, l, b))) ]

-- a fact of what stands at each place, past the end too
at_each : {A : Type 0} (P : ℕ → A → Type 0) (xs : List A) (x d : A) → ((i : ℕ) → i < length xs → P i (get_or xs i d)) → P (length xs) x → ((i : ℕ) → length xs < i → P i d)
    → (i : ℕ) → P i (get_or (xs ++ x ∷ []) i d)
at_each P xs x d old last past i = elim (cases_lt i (length xs)) [
  | inl a ↦ subst (P i) (sym (get_or_append_left xs (x ∷ []) d i a)) (old i a)
  | inr b ↦ elim (cases_eq i (length xs)) [
    | inl e ↦ subst (λ n. P n (get_or (xs ++ x ∷ []) n d)) (sym e) (subst (P (length xs)) (sym (get_or-append_seam xs x [] d)) last)
    | inr h ↦ (let less : length xs < i = further b h in
        subst (P i) (sym (get_or_past (xs ++ x ∷ []) i d (omega (arith, less, longer xs x)))) (past i less))
  ]
]

-- a test that all of a list meet
pub all_at : {A : Type 0} (f : A → Bool) (xs : List A) (d : A) → list_all f xs ≡ true → (k : ℕ) → k < length xs → f (get_or xs k d) ≡ true
all_at f [] d h k l = absurd (omega arith)
all_at f (x ∷ xs) d h zero l = (both (f x) (list_all f xs) h).0
  where
    both : (x y : Bool) → (x && y) ≡ true → (x ≡ true) × (y ≡ true)
    both true y e = (refl, e)
    both false y e = absurd (true≢false (sym e))
all_at f (x ∷ xs) d h (suc k) l = all_at f xs d ((both (f x) (list_all f xs) h).1) k (omega arith)
  where
    both : (x y : Bool) → (x && y) ≡ true → (x ≡ true) × (y ≡ true)
    both true y e = (refl, e)
    both false y e = absurd (true≢false (sym e))

-- ---- ports

pub values_at : (ports : List Port) → list_all (λ (p : Port). p.value) ports ≡ true → (k : ℕ) → k < length ports → (port_in ports k).value ≡ true
values_at ports h k l = all_at (λ (p : Port). p.value) ports no_port h k l

-- the ports before and behind the queue port are value ports
pub only_queue : (ports : List Port) (q : ℕ) → q < length ports → (port_in ports q).value ≡ false → list_all (λ (p : Port). p.value) (take q ports) ≡ true → list_all (λ (p : Port). p.value) (drop (q + 1) ports) ≡ true
    → IsOnlyQueue ports q
only_queue ports q l queue before after = record { within = l; queue = queue; alone = alone ports q before (let e : q + 1 ≡ suc q = omega arith in subst (λ n. list_all (λ (p : Port). p.value) (drop n ports) ≡ true) e after) }
  where
    alone : (ports : List Port) (q : ℕ) → list_all (λ (p : Port). p.value) (take q ports) ≡ true → list_all (λ (p : Port). p.value) (drop (suc q) ports) ≡ true
        → (k : ℕ) → k < length ports → (port_in ports k).value ≡ false → k ≡ q
    alone [] q before after k m f = absurd (omega arith)
    alone (p ∷ ports) zero before after zero m f = refl
    alone (p ∷ ports) zero before after (suc k) m f = absurd (true≢false (sym (values_at ports after k (omega arith)) ∙ f))
    alone (p ∷ ports) (suc q) before after zero m f = absurd (true≢false (sym (all_at (λ (p : Port). p.value) (p ∷ take q ports) no_port before 0 (omega arith)) ∙ f))
    alone (p ∷ ports) (suc q) before after (suc k) m f = ap suc (alone ports q (rest p.value (list_all (λ (p : Port). p.value) (take q ports)) before) after k (omega arith) f)
      where
        rest : (x y : Bool) → (x && y) ≡ true → y ≡ true
        rest true y e = e
        rest false y e = absurd (true≢false (sym e))

pub as_queue : (node : Node) (q : ℕ) → IsOnlyQueue node.ports q → IsQueue (plain_node node) q
as_queue node q h = record { within = h.within; queue = h.queue; alone = h.alone }

-- ---- nodes

reads_on : (ns : List Node) (n : Node) (i : ℕ) (p : Port) → i ≤ length ns → ReadsEarlier ns i p → ReadsEarlier (ns ++ n ∷ []) i p
reads_on ns n i p l r =
    let below : p.from < length ns = omega (arith, l, r.earlier) in
    let same : node_in (ns ++ n ∷ []) p.from ≡ node_in ns p.from = get_or_append_left ns (n ∷ []) no_source p.from below in
    record {
      earlier = r.earlier;
      out = subst (λ (m : Node). p.out < m.outs) (sym same) r.out;
      value = λ v. subst (λ (m : Node). IsValueSource m m.kind) (sym same) (r.value v);
    }

pub graph_grows : (ns : List Node) (n : Node) (count : ℕ) → IsWellMade ns → count ≡ port_count ns → length ns + 1 ≤ 65536 → count + length n.ports ≤ 65536 → FitsKind n n.kind → ReadEarlier ns n.ports
    → IsWellMade (ns ++ n ∷ [])
graph_grows ns n count made is nodes ports kind reads = record {
  few_nodes = omega (arith, longer ns n, nodes);
  few_ports = omega (arith, sum_by-append (λ (m : Node). length m.ports) ns (n ∷ []), ports, is);
  kinds = at_each (λ i m. FitsKind m m.kind) ns n no_source (λ i l. made.kinds i) kind (λ i l. refl);
  reads = at_each (λ i m. (k : ℕ) → k < length m.ports → ReadsEarlier (ns ++ n ∷ []) i (port_in m.ports k)) ns n no_source
      (λ i l k lk. reads_on ns n i (port_in (node_in ns i).ports k) (omega (arith, l)) (made.reads i k lk))
      (λ k lk. reads_on ns n (length ns) (port_in n.ports k) (omega arith) (reads k lk))
      (λ i l k lk. absurd (omega (arith, lk)));
}

pub count_grows : (ns : List Node) (n : Node) (count : ℕ) → count ≡ port_count ns → count + length n.ports ≡ port_count (ns ++ n ∷ [])
count_grows ns n count is = omega (arith, sum_by-append (λ (m : Node). length m.ports) ns (n ∷ []), is)

pub none_made : IsWellMade []
none_made = record { few_nodes = omega arith; few_ports = omega arith; kinds = λ i. refl; reads = λ i k l. absurd (omega arith) }

-- what the code read of the node that a port reads
pub reads_told : (ns : List Node) (p : Port) (n : Node) → n ≡ get_or ns p.from n → p.from < length ns → p.out < n.outs → (p.value ≡ true → IsValueSource n n.kind) → ReadsEarlier ns (length ns) p
reads_told ns p n is l out value = record {
  earlier = l;
  out = subst (λ (m : Node). p.out < m.outs) here out;
  value = λ v. subst (λ (m : Node). IsValueSource m m.kind) here (value v);
}
  where
    here : n ≡ node_in ns p.from
    here = is ∙ get_or_default ns p.from n no_source l

-- one port more
pub read_more : (ns : List Node) (ports : List Port) (i : ℕ) (p : Port) → p ≡ port_in ports i → ReadsEarlier ns (length ns) p → ((k : ℕ) → k < i → ReadsEarlier ns (length ns) (port_in ports k))
    → (k : ℕ) → k < i + 1 → ReadsEarlier ns (length ns) (port_in ports k)
read_more ns ports i p is here before k m = elim (cases_eq k i) [
  | inl e ↦ subst (λ j. ReadsEarlier ns (length ns) (port_in ports j)) (sym e) (subst (ReadsEarlier ns (length ns)) is here)
  | inr n ↦ before k (further {m = k} {n = i} (omega arith) (λ e. n (sym e)))
]

-- what the code read of the ports behind a place
pub tail_whole : (ports : List Port) (n : ℕ) → take (length ports - n) (drop n ports) ≡ drop n ports
tail_whole ports n = take_all (length ports - n) (drop n ports) (let l = length-drop n ports in omega (arith, l))

-- what the code read of the port at a place
pub queue_read : (ports : List Port) (q : ℕ) (p : Port) → p ≡ port_in ports q → p.value ≡ false → (port_in ports q).value ≡ false
queue_read ports q p is f = ap (λ (r : Port). r.value) (sym is) ∙ f

-- the nodes after one was added, and the count of their ports
pub add_made : (ns us gs : List Node) (ps : List Port) (n : Node) (count : ℕ) → IsWellMade ns × (count ≡ port_count ns) → us ≡ ns ++ n ∷ [] → gs ≡ ns → ps ≡ n.ports → length ns + 1 ≤ 65536 → count + length ps ≤ 65536
    → FitsKind n n.kind → ReadEarlier gs ps → IsWellMade us × (count + length ps ≡ port_count us)
add_made ns us gs ps n count made eu eg ep nodes ports kind reads =
    let same : length ps ≡ length n.ports = ap length ep in
    let here : ReadEarlier ns n.ports = subst (λ q. ReadEarlier ns q) ep (subst (λ g. ReadEarlier g ps) eg reads) in (
      subst IsWellMade (sym eu) (graph_grows ns n count made.0 made.1 nodes (omega (arith, ports, same)) kind here),
      ap (λ k. count + k) same ∙ count_grows ns n count made.1 ∙ ap port_count (sym eu),
    )
