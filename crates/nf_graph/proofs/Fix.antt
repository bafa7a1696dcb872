-- The recursion over the nodes gives bags that each node makes of them.
use Rattle.std.proofs.Common.{◌≡◌, ℕ, zero, suc, ◌+◌, ◌<◌, ◌≤◌, List, [], ◌∷◌, ◌++◌, map, length, get_or, Bool, true, false, cond, refl, ap, sym, ◌∙◌, subst, arith, ◌⊎◌, inl, inr}
use Rattle.std.specs.Prelude.{◌==◌, nat_lt, Option, Some, None}
use Rattle.std.proofs.lemmas.Bool.{cases_Bool}
use Rattle.std.proofs.lemmas.Bool.Decides.{nat_tests}
use Rattle.std.proofs.lemmas.List.{get_or_past}
use Rattle.nf_value.specs.Plain.{Plain, null}
use Rattle.nf_graph.specs.declared.port.Port.{Port}
use Rattle.nf_graph.specs.Rules.{Rules}
use Rattle.nf_graph.specs.Node.{Kind, source, operator, process, PlainNode, no_node, port_in, port_at, node_at, IsGraph}
use Rattle.nf_graph.specs.Meaning.{Outcomes, Bags, bag_of, put, delivered, bag_heads, input_of, is_lacking, input_lists, node_bag, bags_from, bags}
use Rattle.nf_graph.specs.Singles.{IsMadeByNodes}
use Rattle.nf_graph.proofs.Lists.{put_same, put_other, filled_same}

-- a node reads only what stands before n
record IsOrdered (n : ℕ) (node : PlainNode) : Type 0 where
  earlier : (j : ℕ) → j < length node.ports → (port_at node j).from < n
  queue : (z : ℕ) → node.kind ≡ process (Some z) → z < length node.ports

abbrev bag_at : Bags → List Port → ℕ → List Plain
bag_at B ps k = bag_of B (port_in ps k)

delivered_same : (B C : Bags) (k : ℕ) (ps : List Port) → ((j : ℕ) → j < length ps → bag_at B ps j ≡ bag_at C ps j) → delivered B k ps ≡ delivered C k ps
delivered_same B C k [] h = refl
delivered_same B C k (p ∷ ps) h = let a : B p.from p.out ≡ C p.from p.out = h 0 (omega arith) in rw (a, delivered_same B C (suc k) ps (λ j l. h (suc j) (omega arith))) refl

lacking_same : (B C : Bags) (ps : List Port) → ((j : ℕ) → j < length ps → bag_at B ps j ≡ bag_at C ps j) → is_lacking B ps ≡ is_lacking C ps
lacking_same B C [] h = refl
lacking_same B C (p ∷ ps) h = let a : B p.from p.out ≡ C p.from p.out = h 0 (omega arith) in rw (a, lacking_same B C ps (λ j l. h (suc j) (omega arith))) refl

inputs_agree : (B C : Bags) (node : PlainNode) → ((j : ℕ) → j < length node.ports → bag_at B node.ports j ≡ bag_at C node.ports j) → (x : Plain) → input_of B node x ≡ input_of C node x
inputs_agree B C node h x = filled_same 0 node.ports (bag_heads B node.ports) (bag_heads C node.ports) x (λ j l s. let i : 0 + j ≡ j = omega arith in rw i (ap (λ (xs : List Plain). get_or xs 0 null) (h j l)))

map_agree : {A C : Type 0} (f h : A → C) → ((x : A) → f x ≡ h x) → (xs : List A) → map f xs ≡ map h xs
map_agree f h e [] = refl
map_agree f h e (x ∷ xs) = let a = e x in let b = map_agree f h e xs in cc

lists_agree : (B C : Bags) (node : PlainNode) (q : Option ℕ) → ((j : ℕ) → j < length node.ports → bag_at B node.ports j ≡ bag_at C node.ports j) → ((z : ℕ) → q ≡ Some z → z < length node.ports) → input_lists B node q ≡ input_lists C node q
lists_agree B C node None h k = rw (lacking_same B C node.ports h, inputs_agree B C node h null) refl
lists_agree B C node (Some z) h k = rw (lacking_same B C node.ports h, map_agree (input_of B node) (input_of C node) (inputs_agree B C node h) (bag_at B node.ports z), h z (k z refl)) refl

node_same : (R : Rules) (o : Outcomes) (B C : Bags) (i : ℕ) (node : PlainNode) (kind : Kind) (out : ℕ) → ((j : ℕ) → j < length node.ports → bag_at B node.ports j ≡ bag_at C node.ports j) → ((z : ℕ) → kind ≡ process (Some z) → z < length node.ports)
    → node_bag R o B i node kind out ≡ node_bag R o C i node kind out
node_same R o B C i node (source items) out h k = refl
node_same R o B C i node (operator op) out h k = rw (delivered_same B C 0 node.ports h) refl
node_same R o B C i node (process q) out h k = rw (lists_agree B C node q h (λ z e. k z (ap process e))) refl

untouched : (R : Rules) (o : Outcomes) (i : ℕ) (nodes : List PlainNode) (B : Bags) (j : ℕ) → (j < i) ⊎ (i + length nodes ≤ j) → bags_from R o i nodes B j ≡ B j
untouched R o i [] B j h = refl
untouched R o i (node ∷ nodes) B j h =
    untouched R o (suc i) nodes (put B i (node_bag R o B i node node.kind)) j (elim h [ inl a ↦ inl (omega arith) | inr b ↦ inr (omega arith) ])
    ∙ put_other B i (node_bag R o B i node node.kind) j (λ e. elim h [ inl a ↦ omega arith | inr b ↦ omega arith ])

fix_from : (R : Rules) (o : Outcomes) (i : ℕ) (nodes : List PlainNode) (B : Bags) → ((k : ℕ) → k < length nodes → IsOrdered (i + k) (node_at nodes k)) → (k m : ℕ) → i + k ≡ m → k < length nodes → (out : ℕ)
    → bags_from R o i nodes B m out ≡ node_bag R o (bags_from R o i nodes B) m (node_at nodes k) (node_at nodes k).kind out
fix_from R o i [] B ord k m is l out = absurd (omega arith)
fix_from R o i (node ∷ nodes) B ord zero m is l out =
    let e : i ≡ m = omega arith in
    let C = put B i (node_bag R o B i node node.kind) in
    let D = bags_from R o (suc i) nodes C in
    let w : IsOrdered i node = (let z : i + 0 ≡ i = omega arith in subst (λ n. IsOrdered n node) z (ord 0 (omega arith))) in
    let a : D i ≡ C i = untouched R o (suc i) nodes C i (inl (omega arith)) in
    let b : C i ≡ node_bag R o B i node node.kind = put_same B i (node_bag R o B i node node.kind) in
    let c : node_bag R o B i node node.kind out ≡ node_bag R o D i node node.kind out = node_same R o B D i node node.kind out
    (λ j lj. sym (ap (λ (f : ℕ → List Plain). f (port_at node j).out) (untouched R o (suc i) nodes C (port_at node j).from (inl (let q = w.earlier j lj in omega arith)) ∙ put_other B i (node_bag R o B i node node.kind) (port_at node j).from (λ z. (let q = w.earlier j lj in omega arith)))))
    w.queue in
    subst (λ n. D n out ≡ node_bag R o D n node node.kind out) e (ap (λ (f : ℕ → List Plain). f out) (a ∙ b) ∙ c)
fix_from R o i (node ∷ nodes) B ord (suc k) m is l out =
    fix_from R o (suc i) nodes (put B i (node_bag R o B i node node.kind)) (λ j lj. (let z : i + suc j ≡ suc i + j = omega arith in subst (λ n. IsOrdered n (node_at nodes j)) z (ord (suc j) (omega arith)))) k m (omega arith) (omega arith) out

nil_or : (b : Bool) → cond b [] [] ≡ (let xs : List Plain = [] in xs)
nil_or true = refl
nil_or false = refl

pub made_by_nodes : (g : List PlainNode) (R : Rules) (o : Outcomes) → IsGraph g → IsMadeByNodes g R o (bags R o g)
made_by_nodes g R o ok = record {
  at = λ i out. elim (cases_Bool (nat_lt i (length g))) [
    | inl t ↦ (let l : i < length g = grind (arith, nat_tests) in
        fix_from R o 0 g (λ i out. []) (λ k lk. (let z : 0 + k ≡ k = omega arith in rw z (record { earlier = ok.earlier k; queue = λ q e. (ok.queues k q e).within }))) i i (omega arith) l out)
    | inr f ↦ (let z : length g ≤ i = grind (arith, nat_tests) in
        let e : node_at g i ≡ no_node = get_or_past g i no_node z in
        let u : bags R o g i ≡ (λ out. []) = untouched R o 0 g (λ i out. []) i (inr (omega arith)) in
        rw e (ap (λ (f : ℕ → List Plain). f out) u ∙ sym (nil_or (out == 0))))
  ];
}

-- ---- nodes added behind

in_two : (R : Rules) (o : Outcomes) (i : ℕ) (g h : List PlainNode) (B : Bags) → bags_from R o i (g ++ h) B ≡ bags_from R o (i + length g) h (bags_from R o i g B)
in_two R o i [] h B = let e : i + 0 ≡ i = omega arith in ap (λ n. bags_from R o n h B) (sym e)
in_two R o i (node ∷ g) h B =
    let C = put B i (node_bag R o B i node node.kind) in
    let e : suc i + length g ≡ i + suc (length g) = omega arith in
    in_two R o (suc i) g h C ∙ ap (λ n. bags_from R o n h (bags_from R o (suc i) g C)) e

pub earlier_stays : (g h : List PlainNode) (R : Rules) (o : Outcomes) (i : ℕ) → i < length g → bags R o (g ++ h) i ≡ bags R o g i
earlier_stays g h R o i l =
    ap (λ (f : Bags). f i) (in_two R o 0 g h (λ i out. []))
    ∙ untouched R o (0 + length g) h (bags R o g) i (inl (omega arith))
