-- The ports and the nodes that read a node, told one after the other.
use Rattle.std.proofs.Common.{◌≡◌, ℕ, zero, suc, ◌+◌, ◌<◌, ◌≤◌, List, [], ◌∷◌, length, get_or, map, drop, Bool, true, false, refl, ap, sym, ◌∙◌, subst, arith, inl, inr}
use Rattle.std.specs.Prelude.{◌==◌, ◌&&◌, not, if◌then◌else◌}
use Rattle.std.specs.List.{Contains, list_any}
use Rattle.std.proofs.lemmas.Bool.{cases_Bool, true≢false}
use Rattle.std.proofs.lemmas.Bool.Decides.{nat_tests}
use Rattle.std.proofs.lemmas.List.{drop_more, drop_all, get_or_default}
use Rattle.std.proofs.lemmas.List.Elements.{Contains-get_or}
use Rattle.std.proofs.lemmas.List.Folds.{Any-from_list_any}
use Rattle.nf_graph.specs.declared.port.Port.{Port}
use Rattle.nf_graph.specs.declared.node.Node.{Node}
use Rattle.nf_graph.specs.Node.{no_port}
use Rattle.nf_graph.specs.WellMade.{node_in}
use Rattle.nf_machine.specs.Event.{Place}
use Rattle.nf_machine.specs.State.{State}
use Rattle.nf_wiring.specs.Places.{port_count, place_in, port_there, port_numbered}
use Rattle.nf_wiring.specs.Wiring.{IsWiring, readers_of}
use Rattle.nf_wiring.specs.declared.wiring.Wiring.{Wiring}
use Rattle.nf_nodes.specs.Marks.{all, far_from, unfed, unread, with_one}
use Rattle.nf_nodes.specs.Nodes.{AreNodes, Marks}
use Rattle.nf_nodes.specs.declared.nodes.Nodes.{Nodes}
use Rattle.nf_nodes.proofs.Closing.{Numbers}
use Rattle.nf_nodes.proofs.Marking.{fewer_ports, fewer_nodes}
use Rattle.nf_nodes.proofs.Stepping.{all_ports, all_nodes}

-- all but those in a list
abbrev pub all_but_those : List ℕ → ℕ → Bool
all_but_those [] n = true
all_but_those (m ∷ ms) n = if n == m then false else all_but_those ms n

-- the nodes of the ports with these numbers
abbrev pub owners : List Node → List ℕ → List ℕ
owners nodes ms = map (λ n. (place_in nodes n).node) ms

same : (a b : ℕ) → a ≡ b → (a == b) ≡ true
same a b e = grind (arith, nat_tests)

is_same : (a b : ℕ) → (a == b) ≡ true → a ≡ b
is_same a b t = grind (arith, nat_tests)

-- what is in the list is left out
left_out : (ms : List ℕ) (n k : ℕ) → k < length ms → get_or ms k n ≡ n → all_but_those ms n ≡ false
left_out [] n k l e = absurd (omega arith)
left_out (m ∷ ms) n zero l e = let t = same n m (sym e) in rw t refl
left_out (m ∷ ms) n (suc k) l e = elim (cases_Bool (n == m)) [
  | inl t ↦ rw t refl
  | inr f ↦ rw f (left_out ms n k (omega arith) e)
]

owner_left_out : (nodes : List Node) (j : ℕ) (ms : List ℕ) (n k : ℕ) → k < length ms → get_or ms k n ≡ n → (place_in nodes n).node ≡ j → all_but_those (owners nodes ms) j ≡ false
owner_left_out nodes j [] n k l e f = absurd (omega arith)
owner_left_out nodes j (m ∷ ms) n zero l e f = let t = same j (place_in nodes m).node (sym f ∙ ap (λ x. (place_in nodes x).node) (sym e)) in rw t refl
owner_left_out nodes j (m ∷ ms) n (suc k) l e f = elim (cases_Bool (j == (place_in nodes m).node)) [
  | inl t ↦ rw t refl
  | inr g ↦ rw g (owner_left_out nodes j ms n k (omega arith) e f)
]

one_told : (m : ℕ) (ms : List ℕ) (n : ℕ) → all_but_those ms n ≡ true → with_one m (all_but_those (m ∷ ms)) n ≡ true
one_told m ms n t = by (n == m)
  where
    by : (b : Bool) → (if b then true else (if b then false else all_but_those ms n)) ≡ true
    by true = refl
    by false = t

rest_at : (ms : List ℕ) (at m : ℕ) → at < length ms → m ≡ get_or ms at 0 → drop at ms ≡ m ∷ drop (at + 1) ms
rest_at ms at m l e = drop_more ms at 0 l ∙ ap (λ x. x ∷ drop (at + 1) ms) (sym e)

-- ---- the ports that read node i

-- a port that reads it is in the list of its readers
reader_listed : (nodes : List Node) (w : Wiring) (i n : ℕ) → IsWiring nodes w → n < port_count nodes → (port_numbered nodes n).from ≡ i → all_but_those (readers_of w i) n ≡ false
reader_listed nodes w i n h l e = subst (λ j. all_but_those (readers_of w j) n ≡ false) e (let r = h.readers.each n l in left_out (readers_of w (port_numbered nodes n).from) n r.0 r.1 r.2)

-- one that isn't doesn't
not_listed : (nodes : List Node) (w : Wiring) (i n : ℕ) → IsWiring nodes w → n < port_count nodes → all_but_those (readers_of w i) n ≡ true → unread nodes i n ≡ true
not_listed nodes w i n h l t = elim (cases_Bool ((port_numbered nodes n).from == i)) [
  | inl y ↦ absurd (true≢false (sym t ∙ reader_listed nodes w i n h l (is_same (port_numbered nodes n).from i y)))
  | inr f ↦ ap not f
]

-- a number that the code read there
pub number_below : (nodes : List Node) (w : Wiring) (i at m : ℕ) → IsWiring nodes w → at < length (readers_of w i) → m ≡ get_or (readers_of w i) at 0 → m < port_count nodes
number_below nodes w i at m h l r = h.readers.numbers i m (subst (Contains (readers_of w i)) (sym r) (Contains-get_or (readers_of w i) at 0 l))

module _ (nodes : List Node) (s : State) where
  pub ports_untold : (q : ℕ → Bool) (c : Nodes) (i : ℕ) → Marks nodes s (unread nodes i) q c → Marks nodes s (all_but_those (readers_of c.wiring i)) q c
  ports_untold q c i h = record {
    shows = h.shows;
    by_port = fewer_ports nodes s (unread nodes i) (all_but_those (readers_of c.wiring i)) c.index (λ n l t. not_listed nodes c.wiring i n h.shows.wiring l t) h.by_port;
    by_node = h.by_node;
  }

  pub port_told : (q : ℕ → Bool) (c : Nodes) (ms : List ℕ) (at m : ℕ) → at < length ms → m ≡ get_or ms at 0 → Marks nodes s (with_one m (all_but_those (drop at ms))) q c → Marks nodes s (all_but_those (drop (at + 1) ms)) q c
  port_told q c ms at m l e h = record {
    shows = h.shows;
    by_port = fewer_ports nodes s (with_one m (all_but_those (drop at ms))) (all_but_those (drop (at + 1) ms)) c.index
        (λ n k t. subst (λ (r : List ℕ). with_one m (all_but_those r) n ≡ true) (sym (rest_at ms at m l e)) (one_told m (drop (at + 1) ms) n t)) h.by_port;
    by_node = h.by_node;
  }

  pub ports_told : (q : ℕ → Bool) (c : Nodes) (ms : List ℕ) (at : ℕ) → length ms ≤ at → Marks nodes s (all_but_those (drop at ms)) q c → Marks nodes s all q c
  ports_told q c ms at l h = all_ports nodes s (all_but_those (drop at ms)) q c (λ n k. ap (λ (r : List ℕ). all_but_those r n) (drop_all at ms l)) h

-- ---- the nodes with a port that reads node i

-- such a node owns a port in the list
owner_listed : (nodes : List Node) → Numbers nodes → (w : Wiring) (i j k : ℕ) (p : Port) → IsWiring nodes w → j < length nodes → k < length (node_in nodes j).ports → get_or (node_in nodes j).ports k p ≡ p → p.from ≡ i
    → all_but_those (owners nodes (readers_of w i)) j ≡ false
owner_listed nodes numbers w i j k p h l m e f =
    let n = numbers j k l m in
    let at : port_numbered nodes n.number ≡ p = ap (port_there nodes) n.is ∙ get_or_default (node_in nodes j).ports k no_port p m ∙ e in
    let r = h.readers.each n.number n.below in
    let own : (place_in nodes n.number).node ≡ j = ap (λ (z : Place). z.node) n.is in
    subst (λ x. all_but_those (owners nodes (readers_of w x)) j ≡ false) (ap (λ (z : Port). z.from) at ∙ f) (owner_left_out nodes j (readers_of w (port_numbered nodes n.number).from) n.number r.0 r.1 r.2 own)

not_owner : (nodes : List Node) → Numbers nodes → (w : Wiring) (i j : ℕ) → IsWiring nodes w → j < length nodes → all_but_those (owners nodes (readers_of w i)) j ≡ true → unfed nodes i j ≡ true
not_owner nodes numbers w i j h l t = elim (cases_Bool (list_any (λ (p : Port). p.from == i) (node_in nodes j).ports)) [
  | inl y ↦ absurd (let a = Any-from_list_any (λ (p : Port). p.from == i) (node_in nodes j).ports y in
      true≢false (sym t ∙ owner_listed nodes numbers w i j a.0 a.1 h l a.2 a.3 (is_same a.1.from i a.4)))
  | inr f ↦ ap not f
]

module _ (nodes : List Node) (s : State) where
  pub nodes_untold : Numbers nodes → (c : Nodes) (i : ℕ) → Marks nodes s all (unfed nodes i) c → Marks nodes s all (all_but_those (owners nodes (readers_of c.wiring i))) c
  nodes_untold numbers c i h = record {
    shows = h.shows;
    by_port = h.by_port;
    by_node = fewer_nodes nodes s (unfed nodes i) (all_but_those (owners nodes (readers_of c.wiring i))) c.index (λ j l t. not_owner nodes numbers c.wiring i j h.shows.wiring l t) h.by_node;
  }

  pub node_told : (c : Nodes) (ms : List ℕ) (at m o : ℕ) → at < length ms → m ≡ get_or ms at 0 → o ≡ (place_in nodes m).node → Marks nodes s all (with_one o (all_but_those (owners nodes (drop at ms)))) c
      → Marks nodes s all (all_but_those (owners nodes (drop (at + 1) ms))) c
  node_told c ms at m o l e eo h = record {
    shows = h.shows;
    by_port = h.by_port;
    by_node = fewer_nodes nodes s (with_one o (all_but_those (owners nodes (drop at ms)))) (all_but_those (owners nodes (drop (at + 1) ms))) c.index
        (λ j k t. subst (λ (r : List ℕ). with_one o (all_but_those (owners nodes r)) j ≡ true) (sym (rest_at ms at m l e))
        (subst (λ x. with_one x (all_but_those (owners nodes (m ∷ drop (at + 1) ms))) j ≡ true) (sym eo) (one_told (place_in nodes m).node (owners nodes (drop (at + 1) ms)) j t))) h.by_node;
  }

  pub nodes_told : (c : Nodes) (ms : List ℕ) (at : ℕ) → length ms ≤ at → Marks nodes s all (all_but_those (owners nodes (drop at ms))) c → AreNodes nodes s c
  nodes_told c ms at l h = all_nodes nodes s all (all_but_those (owners nodes (drop at ms))) c (λ j k. ap (λ (r : List ℕ). all_but_those (owners nodes r) j) (drop_all at ms l)) h

  -- node i is marked too
  pub own_told : (c : Nodes) (i : ℕ) → Marks nodes s all (with_one i (far_from nodes i)) c → Marks nodes s all (unfed nodes i) c
  own_told c i h = record {
    shows = h.shows;
    by_port = h.by_port;
    by_node = fewer_nodes nodes s (with_one i (far_from nodes i)) (unfed nodes i) c.index (λ j l t. by (j == i) (unfed nodes i j) t) h.by_node;
  }
    where
      by : (b u : Bool) → u ≡ true → (if b then true else (not b && u)) ≡ true
      by true u t = refl
      by false u t = t
