-- At most one item comes to a value port.
use Rattle.std.proofs.Common.{◌≡◌, ℕ, zero, suc, ◌+◌, ◌<◌, ◌≤◌, List, [], ◌∷◌, ◌++◌, map, length, get_or, Bool, true, false, cond, refl, ap, arith, inl, inr, length-append}
use Rattle.std.specs.Prelude.{◌==◌, Option, Some, None, Result, Ok, Err, count_by}
use Rattle.std.specs.List.{AllByRecursion, flat_map}
use Rattle.std.proofs.lemmas.Bool.{cases_Bool}
use Rattle.std.proofs.lemmas.Bool.Decides.{nat_tests}
use Rattle.nf_value.specs.Plain.{Plain, null}
use Rattle.nf_value.specs.declared.fault.EvalFault.{EvalFault}
use Rattle.nf_job.specs.declared.emitted.Outputs.TheVariants.{Emits, Ignored, Failed, Again}
use Rattle.nf_operator.specs.Push.{Push}
use Rattle.nf_operator.proofs.Tally.{tally, one_if, passes, tally-append, tally-map, count_is_passes}
use Rattle.nf_graph.specs.declared.port.Port.{Port}
use Rattle.nf_graph.specs.Rules.{Rules, Outs, list_of, emit_at, emitted_by}
use Rattle.nf_graph.specs.Node.{Kind, source, operator, process, PlainNode, port_in, port_at, node_at, GivesValues, IsGraph}
use Rattle.nf_graph.specs.Meaning.{Outcomes, Bags, bag_of, delivered, deliveries, answered, pushes, input_of, is_lacking, input_lists, same_inputs, numbered, instances, decided_under, emits, node_bag, bags}
use Rattle.nf_graph.specs.Singles.{HasSingles}
use Rattle.nf_graph.proofs.Bags.{count_all}
use Rattle.nf_graph.proofs.Fix.{made_by_nodes}

list_one : {A : Type 0} (o : Option A) → length (list_of o) ≤ 1
list_one None = omega arith
list_one (Some x) = omega arith

emit_one : (outs : Outs) (out : ℕ) → length (emit_at outs out) ≤ 1
emit_one (Ok (Emits vs)) out = list_one (get_or vs out None)
emit_one (Ok Ignored) out = omega arith
emit_one (Ok (Failed f)) out = omega arith
emit_one (Ok Again) out = omega arith
emit_one (Err f) out = omega arith

emits_one : (d : Option Outs) (out : ℕ) → length (emitted_by d out) ≤ 1
emits_one None out = omega arith
emits_one (Some outs) out = emit_one outs out

flat_map_long : {A : Type 0} (f : A → List Plain) → ((x : A) → length (f x) ≤ 1) → (xs : List A) → length (flat_map f xs) ≤ length xs
flat_map_long f h [] = omega arith
flat_map_long f h (x ∷ xs) = omega (arith, h x, flat_map_long f h xs, length-append (f x) (flat_map f xs))

numbered_long : (xs : List (List Plain)) → length (numbered same_inputs xs) ≡ length xs
numbered_long [] = refl
numbered_long (x ∷ xs) = ap suc (numbered_long xs)

cond_long : {A : Type 0} (b : Bool) (x : A) → length (cond b [] (x ∷ [])) ≤ 1
cond_long true x = omega arith
cond_long false x = omega arith

lists_one : (B : Bags) (node : PlainNode) → length (input_lists B node None) ≤ 1
lists_one B node = cond_long (is_lacking B node.ports) (input_of B node null)

tally_zero : {A : Type 0} (xs : List A) → tally (λ x. cond false 1 0) xs ≡ 0
tally_zero [] = refl
tally_zero (x ∷ xs) = omega (arith, tally_zero xs)

-- of each port at most one is delivered
delivered_one : (B : Bags) (k : ℕ) (ps : List Port) (m : ℕ) → ((j : ℕ) → j < length ps → length (bag_of B (port_in ps j)) ≤ 1)
    → (passes (λ (d : ℕ × Plain). d.0 == m) (delivered B k ps) ≤ 1) × (m < k → passes (λ (d : ℕ × Plain). d.0 == m) (delivered B k ps) ≡ 0)
delivered_one B k [] m h = (omega arith, λ l. refl)
delivered_one B k (p ∷ ps) m h =
    let r = delivered_one B (suc k) ps m (λ j l. h (suc j) (omega arith)) in
    let one : length (B p.from p.out) ≤ 1 = h 0 (omega arith) in
    let a = tally-append (λ (d : ℕ × Plain). one_if (d.0 == m)) (map (λ (x : Plain). (k, x)) (B p.from p.out)) (delivered B (suc k) ps) in
    let b = tally-map (λ (d : ℕ × Plain). one_if (d.0 == m)) (λ (x : Plain). (k, x)) (B p.from p.out) in
    elim (cases_Bool (k == m)) [
      | inl e ↦ (let is : k ≡ m = grind (arith, nat_tests) in
          let c : tally (λ (x : Plain). one_if (k == m)) (B p.from p.out) ≡ length (B p.from p.out) = rw e (count_all (B p.from p.out)) in
          let z = r.1 (omega arith) in (omega (arith, a, b, c, z), λ l. absurd (omega arith)))
      | inr n ↦ (let c : tally (λ (x : Plain). one_if (k == m)) (B p.from p.out) ≡ 0 = rw n (tally_zero (B p.from p.out)) in
          let f = r.0 in let q = r.1 in (omega (arith, a, b, c, f), λ l. (let z = q (omega arith) in omega (arith, a, b, c, z))))
    ]

pushes_few : (R : Rules) (i k : ℕ) (ds : List (ℕ × Plain)) → passes (λ (x : Push). x.port == k) (pushes R i ds) ≤ passes (λ (d : ℕ × Plain). d.0 == k) ds
pushes_few R i k [] = omega arith
pushes_few R i k (d ∷ ds) = omega (arith, pushes_few R i k ds, one d (R.answer i d.1), tally-append (λ (x : Push). one_if (x.port == k)) (answered d.0 d.1 (R.answer i d.1)) (pushes R i ds))
  where
    one : (d : ℕ × Plain) (r : Result Plain EvalFault) → passes (λ (x : Push). x.port == k) (answered d.0 d.1 r) ≤ one_if (d.0 == k)
    one d (Ok a) = omega arith
    one d (Err f) = omega arith

all_append : {A : Type 0} (P : A → Type 0) (xs ys : List A) → AllByRecursion P xs → AllByRecursion P ys → AllByRecursion P (xs ++ ys)
all_append P [] ys h k = k
all_append P (x ∷ xs) ys h k = (h.0, all_append P xs ys h.1 k)

all_map : {A B : Type 0} (P : B → Type 0) (f : A → B) (xs : List A) → ((x : A) → P (f x)) → AllByRecursion P (map f xs)
all_map P f [] h = tt
all_map P f (x ∷ xs) h = (h x, all_map P f xs h)

-- what is delivered comes to ports of the node
delivered_within : (B : Bags) (n k : ℕ) (ps : List Port) → k + length ps ≤ n → AllByRecursion (λ d. d.0 < n) (delivered B k ps)
delivered_within B n k [] l = tt
delivered_within B n k (p ∷ ps) l = all_append (λ (d : ℕ × Plain). d.0 < n) (map (λ (x : Plain). (k, x)) (B p.from p.out)) (delivered B (suc k) ps)
    (all_map (λ (d : ℕ × Plain). d.0 < n) (λ (x : Plain). (k, x)) (B p.from p.out) (λ x. omega arith)) (delivered_within B n (suc k) ps (omega arith))

pushes_within : (R : Rules) (i n : ℕ) (ds : List (ℕ × Plain)) → AllByRecursion (λ d. d.0 < n) ds → AllByRecursion (λ x. x.port < n) (pushes R i ds)
pushes_within R i n [] h = tt
pushes_within R i n (d ∷ ds) h = all_append (λ (x : Push). x.port < n) (answered d.0 d.1 (R.answer i d.1)) (pushes R i ds) (one (R.answer i d.1)) (pushes_within R i n ds h.1)
  where
    one : (r : Result Plain EvalFault) → AllByRecursion (λ (x : Push). x.port < n) (answered d.0 d.1 r)
    one (Ok a) = (h.0, tt)
    one (Err f) = tt

module _ (g : List PlainNode) (R : Rules) (o : Outcomes) (ok : IsGraph g) where
  value_kind : (i : ℕ) → ((j : ℕ) → j < i → GivesValues (node_at g j) (node_at g j).kind → (out : ℕ) → length (bags R o g j out) ≤ 1)
      → (kind : Kind) → (node_at g i).kind ≡ kind → GivesValues (node_at g i) kind → (out : ℕ) → length (node_bag R o (bags R o g) i (node_at g i) kind out) ≤ 1
  value_kind i before (source items) is v out = by (out == 0)
    where
      by : (b : Bool) → length (cond b items []) ≤ 1
      by true = v
      by false = omega arith
  value_kind i before (process None) is v out = (let a = flat_map_long (emits R o i out) (λ z. emits_one (decided_under R o i z) out) (instances (bags R o g) (node_at g i) None) in omega (arith, a, numbered_long (input_lists (bags R o g) (node_at g i) None), lists_one (bags R o g) (node_at g i)))
  value_kind i before (process (Some q)) is v out = absurd v
  value_kind i before (operator op) is v out = elim v [
    | inl c ↦ c.at (pushes R i (deliveries (bags R o g) (node_at g i))) out
    | inr w ↦ (w.0).at (pushes R i (deliveries (bags R o g) (node_at g i))) out (record {
      at = λ k. (
          let p = pushes R i (deliveries (bags R o g) (node_at g i)) in
          let a = pushes_few R i k (deliveries (bags R o g) (node_at g i)) in
          let b = (delivered_one (bags R o g) 0 (node_at g i).ports k (λ j l. before (port_at (node_at g i) j).from (ok.earlier i j l) (ok.values i j l (w.1 j l)) (port_at (node_at g i) j).out)).0 in
          let c : count_by (λ (x : Push). x.port == k) p ≡ passes (λ (x : Push). x.port == k) p = count_is_passes (λ (x : Push). x.port == k) p in
          omega (arith, a, b, c));
      ports = pushes_within R i (length (node_at g i).ports) (deliveries (bags R o g) (node_at g i)) (delivered_within (bags R o g) (length (node_at g i).ports) 0 (node_at g i).ports (omega arith));
    })
  ]

  value_below : (n i : ℕ) → i < n → GivesValues (node_at g i) (node_at g i).kind → (out : ℕ) → length (bags R o g i out) ≤ 1
  value_below zero i l v out = absurd (omega arith)
  value_below (suc n) i l v out =
      let a = value_kind i (λ j m w x. value_below n j (omega arith) w x) (node_at g i).kind refl v out in
      let e = (made_by_nodes g R o ok).at i out in
      rw e a

pub has_singles : (g : List PlainNode) (R : Rules) (o : Outcomes) → IsGraph g → HasSingles g (bags R o g)
has_singles g R o ok = λ i k l s. value_below g R o ok (suc (port_at (node_at g i) k).from) (port_at (node_at g i) k).from (omega arith) (ok.values i k l s) (port_at (node_at g i) k).out
