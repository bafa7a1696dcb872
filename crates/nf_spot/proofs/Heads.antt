-- The inputs of an instance, from the ports in memory.
use Rattle.std.proofs.Common.{◌≡◌, ℕ, zero, suc, ◌+◌, ◌<◌, ◌≤◌, List, [], ◌∷◌, ◌++◌, map, length, take, drop, get_or, set, true, false, refl, ap, sym, ◌∙◌, subst, arith}
use Rattle.std.specs.Prelude.{Some}
use Rattle.std.proofs.lemmas.List.{append_assoc, drop-set-lt, get_or-take, get_or-drop, length-take-le, length-drop}
use Rattle.nf_value.specs.Plain.{Plain, null}
use Rattle.nf_graph.specs.declared.port.Port.{Port}
use Rattle.nf_graph.specs.Node.{port_in}
use Rattle.nf_graph.specs.Meaning.{filled}
use Rattle.nf_spot.specs.Heads.{no_inlet, head_of, HasHeads, inputs_at}

pub filled_heads : (k : ℕ) (ps : List Port) (ins : List (ℕ × List Plain)) (h : ℕ → Plain) (x : Plain) → length ins ≡ length ps → ((j : ℕ) → j < length ps → (port_in ps j).value ≡ true)
    → ((j : ℕ) → j < length ps → head_of (get_or ins j no_inlet) ≡ h (k + j)) → filled k ps h x ≡ map head_of ins
filled_heads k [] [] h x e v a = refl
filled_heads k [] (p ∷ ins) h x e v a = absurd (omega arith)
filled_heads k (q ∷ ps) [] h x e v a = absurd (omega arith)
filled_heads k (q ∷ ps) (p ∷ ins) h x e v a =
    let t : q.value ≡ true = v 0 (omega arith) in
    let i : k + 0 ≡ k = omega arith in
    let first : head_of p ≡ h k = subst (λ m. head_of p ≡ h m) i (a 0 (omega arith)) in
    let rest : filled (suc k) ps h x ≡ map head_of ins = filled_heads (suc k) ps ins h x (omega arith) (λ j l. v (suc j) (omega arith))
    (λ j l. (let m : k + suc j ≡ suc k + j = omega arith in subst (λ r. head_of (get_or ins j no_inlet) ≡ h r) m (a (suc j) (omega arith)))) in
    rw (t, rest) (ap (λ y. y ∷ map head_of ins) (sym first))

pub filled_queue : (k q : ℕ) (ps : List Port) (ins : List (ℕ × List Plain)) (h : ℕ → Plain) (x : Plain) → length ins ≡ length ps → q < length ps → (port_in ps q).value ≡ false
    → ((j : ℕ) → j < length ps → (j ≡ q → ⊥) → (port_in ps j).value ≡ true) → ((j : ℕ) → j < length ps → head_of (get_or ins j no_inlet) ≡ h (k + j))
    → filled k ps h x ≡ map head_of (take q ins) ++ x ∷ map head_of (drop (suc q) ins)
filled_queue k q [] ins h x e l f v a = absurd (omega arith)
filled_queue k q (p ∷ ps) [] h x e l f v a = absurd (omega arith)
filled_queue k zero (p ∷ ps) (i ∷ ins) h x e l f v a =
    let rest : filled (suc k) ps h x ≡ map head_of ins = filled_heads (suc k) ps ins h x (omega arith) (λ j m. v (suc j) (omega arith) (λ z. omega arith))
    (λ j m. (let r : k + suc j ≡ suc k + j = omega arith in subst (λ n. head_of (get_or ins j no_inlet) ≡ h n) r (a (suc j) (omega arith)))) in
    rw (f, rest) refl
filled_queue k (suc q) (p ∷ ps) (i ∷ ins) h x e l f v a =
    let t : p.value ≡ true = v 0 (omega arith) (λ z. omega arith) in
    let n : k + 0 ≡ k = omega arith in
    let first : head_of i ≡ h k = subst (λ m. head_of i ≡ h m) n (a 0 (omega arith)) in
    let rest = filled_queue (suc k) q ps ins h x (omega arith) (omega arith) f (λ j m o. v (suc j) (omega arith) (λ z. o (omega arith)))
    (λ j m. (let r : k + suc j ≡ suc k + j = omega arith in subst (λ s. head_of (get_or ins j no_inlet) ≡ h s) r (a (suc j) (omega arith)))) in
    rw (t, rest) (ap (λ y. y ∷ (map head_of (take q ins) ++ x ∷ map head_of (drop (suc q) ins))) (sym first))

-- the ports before and after a port have items too
pub heads_before : (ins : List (ℕ × List Plain)) (q : ℕ) → q ≤ length ins → HasHeads ins → HasHeads (take q ins)
heads_before ins q le h port l =
    let e : length (take q ins) ≡ q = length-take-le q ins le in
    let m : port < q = omega arith in
    rw (get_or-take q ins port no_inlet m) (h port (omega arith))

pub heads_after : (ins : List (ℕ × List Plain)) (q : ℕ) → HasHeads ins → HasHeads (drop q ins)
heads_after ins q h port l =
    let e = length-drop q ins in
    rw (get_or-drop q ins port no_inlet) (h (q + port) (omega arith))

-- the inputs as the code puts them together: those before the queue port, its item, and, once that left, those after it
pub gathered : (ins after : List (ℕ × List Plain)) (q place : ℕ) (v : ℕ × List Plain) (before all : List Plain) (x : Plain) → before ≡ map head_of (take q ins) → x ≡ get_or (get_or ins q no_inlet).1 place null
    → after ≡ set ins q v → all ≡ (before ++ x ∷ []) ++ map head_of (drop (q + 1) after) → all ≡ inputs_at ins (Some q) place
gathered ins after q place v before all x b e s a =
    let n : q + 1 ≡ suc q = omega arith in
    let rest : drop (q + 1) after ≡ drop (suc q) ins = (λ i. drop (n i) (s i)) ∙ drop-set-lt (suc q) ins q v (omega arith) in
    a ∙ (λ i. (b i ++ e i ∷ []) ++ map head_of (rest i)) ∙ append_assoc (map head_of (take q ins)) (get_or (get_or ins q no_inlet).1 place null ∷ []) (map head_of (drop (suc q) ins))
