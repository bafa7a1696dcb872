-- The nodes at the opening.
use Rattle.std.proofs.Common.{◌≡◌, ℕ, zero, suc, ◌+◌, ◌<◌, ◌≤◌, ◌^◌, List, [], ◌∷◌, ◌++◌, length, get_or, Bool, true, false, refl, ap, sym, ◌∙◌, subst, arith, inl, inr}
use Rattle.std.specs.Prelude.{◌==◌, nat_lt, None, Some, sum_by}
use Rattle.std.proofs.lemmas.Bool.{cases_eq, cases_Bool, true≢false}
use Rattle.std.proofs.lemmas.Bool.Decides.{nat_tests}
use Rattle.std.proofs.lemmas.List.{get_or_default, get_or_append_left, get_or_push}
use Rattle.std.proofs.lemmas.List.Sums.{sum_by-cons}
use Rattle.nf_graph.specs.declared.node.Node.{Node}
use Rattle.nf_graph.specs.declared.node.NodeKind.{NodeKind}
use Rattle.nf_graph.specs.declared.node.NodeKind.TheVariants as k
use Rattle.nf_graph.specs.Node.{PlainNode, node_at}
use Rattle.nf_graph.specs.WellMade.{FitsKind, IsWellMade, plain_kind, plain_graph, node_in, no_source}
use Rattle.nf_machine.specs.State.{State, opened, opening}
use Rattle.nf_spot.specs.Spot.{AllowsKind, IsNode}
use Rattle.nf_spot.specs.declared.node_state.NodeState.{NodeState}
use Rattle.nf_wiring.specs.Places.{port_count}
use Rattle.nf_wiring.specs.Wiring.{IsWiring}
use Rattle.nf_wiring.specs.declared.wiring.Wiring.{Wiring}
use Rattle.nf_nodes.specs.Marks.{all, below, none, with_one}
use Rattle.nf_nodes.specs.Index.{IsSized, MarksPorts, MarksNodes}
use Rattle.nf_nodes.specs.Nodes.{AreNodes, Marks, Shows}
use Rattle.nf_nodes.specs.declared.index.Index.{Index}
use Rattle.nf_nodes.specs.declared.nodes.Nodes.{Nodes}
use Rattle.nf_nodes.proofs.Marking.{plain_at, fewer_ports, fewer_nodes}
use Rattle.nf_nodes.proofs.Stepping.{all_ports, all_nodes}

allowed : (n : Node) (kind : NodeKind) → FitsKind n kind → AllowsKind kind
allowed n (k.Source items) h = tt
allowed n (k.Op row opts) h = h.options
allowed n (k.Process queue) h = tt

-- the node that the code read is allowed, and has few ports
pub read_allowed : (nodes : List Node) (i : ℕ) (n : Node) → IsWellMade nodes → i < length nodes → n ≡ get_or nodes i n → AllowsKind n.kind
read_allowed nodes i n made l e =
    let here : n ≡ node_in nodes i = e ∙ get_or_default nodes i n no_source l in
    subst (λ (m : Node). AllowsKind m.kind) (sym here) (allowed (node_in nodes i) (node_in nodes i).kind (made.kinds i))

part_of : (nodes : List Node) (i : ℕ) → length (node_in nodes i).ports ≤ sum_by (λ n. length n.ports) nodes
part_of [] i = omega arith
part_of (n ∷ nodes) zero = let c = sum_by-cons (λ (m : Node). length m.ports) n nodes in omega arith
part_of (n ∷ nodes) (suc i) = let c = sum_by-cons (λ (m : Node). length m.ports) n nodes in let a = part_of nodes i in omega arith

pub read_few : (nodes : List Node) (i : ℕ) (n : Node) → IsWellMade nodes → i < length nodes → n ≡ get_or nodes i n → length n.ports < 2 ^ 32
read_few nodes i n made l e =
    let here : n ≡ node_in nodes i = e ∙ get_or_default nodes i n no_source l in
    let a = part_of nodes i in let f = made.few_ports in let w = ap (λ (m : Node). length m.ports) here in omega arith

-- one state more
pub states_more : (nodes : List Node) (states : List NodeState) (y : NodeState) (n : Node) (at : ℕ) → length states ≡ at → at < length nodes → n ≡ get_or nodes at n → IsNode n (opened (plain_kind n.kind)) y
    → ((i : ℕ) (d : NodeState) → i < at → IsNode (node_in nodes i) (opened (plain_kind (node_in nodes i).kind)) (get_or states i d))
    → (i : ℕ) (d : NodeState) → i < at + 1 → IsNode (node_in nodes i) (opened (plain_kind (node_in nodes i).kind)) (get_or (states ++ y ∷ []) i d)
states_more nodes states y n at e l en node before i d b = elim (cases_eq i at) [
  | inl m ↦ (let here : n ≡ node_in nodes i = en ∙ get_or_default nodes at n no_source l ∙ ap (node_in nodes) (sym m) in
      subst (IsNode (node_in nodes i) (opened (plain_kind (node_in nodes i).kind))) (sym (get_or_push states y d i (e ∙ sym m))) (subst (λ (q : Node). IsNode q (opened (plain_kind q.kind)) y) here node))
  | inr ne ↦ (let o : i < at = less i b ne in let p : i < length states = omega arith in
      subst (IsNode (node_in nodes i) (opened (plain_kind (node_in nodes i).kind))) (sym (get_or_append_left states (y ∷ []) d i p)) (before i d o))
]
  where
    less : (i : ℕ) → i < at + 1 → (i ≡ at → ⊥) → i < at
    less i k ne = grind arith

pub closed_more : (nodes : List Node) (closed : List Bool) (y : Bool) (n : Node) (at : ℕ) → length closed ≡ at → at < length nodes → n ≡ get_or nodes at n → y ≡ (opened (plain_kind n.kind)).closed
    → ((i : ℕ) → i < at → get_or closed i false ≡ (opened (plain_kind (node_in nodes i).kind)).closed)
    → (i : ℕ) → i < at + 1 → get_or (closed ++ y ∷ []) i false ≡ (opened (plain_kind (node_in nodes i).kind)).closed
closed_more nodes closed y n at e l en c before i b = elim (cases_eq i at) [
  | inl m ↦ (let here : n ≡ node_in nodes i = en ∙ get_or_default nodes at n no_source l ∙ ap (node_in nodes) (sym m) in
      get_or_push closed y false i (e ∙ sym m) ∙ c ∙ ap (λ (q : Node). (opened (plain_kind q.kind)).closed) here)
  | inr ne ↦ (let o : i < at = less i b ne in let p : i < length closed = omega arith in get_or_append_left closed (y ∷ []) false i p ∙ before i o)
]
  where
    less : (i : ℕ) → i < at + 1 → (i ≡ at → ⊥) → i < at
    less i k ne = grind arith

-- the whole, with no marks
pub opening_shows : (nodes : List Node) (c : Nodes) → IsWellMade nodes → IsWiring nodes c.wiring → IsSized nodes c.index → length c.states.items ≡ length nodes
    → ((i : ℕ) (d : NodeState) → i < length nodes → IsNode (node_in nodes i) (opened (plain_kind (node_in nodes i).kind)) (get_or c.states.items i d))
    → length c.closed.items ≡ length nodes → ((i : ℕ) → i < length nodes → get_or c.closed.items i false ≡ (opened (plain_kind (node_in nodes i).kind)).closed)
    → Shows nodes (opening (plain_graph nodes)) c
opening_shows nodes c made wiring sized len each clen closed = record {
  running = refl;
  well_made = made;
  wiring = wiring;
  count = len;
  states = λ i d l. subst (λ (n : PlainNode). IsNode (node_in nodes i) (opened n.kind) (get_or c.states.items i d)) (sym (plain_at nodes i)) (each i d l);
  closed_count = clen;
  closed = λ i l. closed i l ∙ ap (λ (n : PlainNode). (opened n.kind).closed) (sym (plain_at nodes i));
  sized = sized;
}

-- ---- marks, one after the other

no_mark : (n : ℕ) → below 0 n ≡ true → ⊥
no_mark n t = absurd (let l : n < 0 = grind (arith, nat_tests) in omega arith)

pub unmarked : (nodes : List Node) (s : State) (c : Nodes) → Shows nodes s c → Marks nodes s (below 0) none c
unmarked nodes s c h = record {
  shows = h;
  by_port = record { passes = λ n l t. absurd (no_mark n t); lives = λ n d l t. absurd (no_mark n t) };
  by_node = record { takes = λ i l t. absurd (true≢false (sym t)); closes = λ i l t. absurd (true≢false (sym t)) };
}

below_more : (n m : ℕ) → below (n + 1) m ≡ true → with_one n (below n) m ≡ true
below_more n m t = elim (cases_Bool (m == n)) [
  | inl e ↦ rw e refl
  | inr e ↦ rw e (let l : m < n + 1 = low m (n + 1) t in let ne : m ≡ n → ⊥ = differ m n e in is_low m n (grind arith))
]
  where
    low : (a b : ℕ) → nat_lt a b ≡ true → a < b
    low a b h = grind (arith, nat_tests)

    is_low : (a b : ℕ) → a < b → nat_lt a b ≡ true
    is_low a b h = grind (arith, nat_tests)

    differ : (a b : ℕ) → (a == b) ≡ false → a ≡ b → ⊥
    differ a b e f = grind (arith, nat_tests)

pub port_more : (nodes : List Node) (s : State) (n : ℕ) (q : ℕ → Bool) (c : Nodes) → Marks nodes s (with_one n (below n)) q c → Marks nodes s (below (n + 1)) q c
port_more nodes s n q c h = record { shows = h.shows; by_port = fewer_ports nodes s (with_one n (below n)) (below (n + 1)) c.index (λ m l t. below_more n m t) h.by_port; by_node = h.by_node }

pub node_more : (nodes : List Node) (s : State) (p : ℕ → Bool) (n : ℕ) (c : Nodes) → Marks nodes s p (with_one n (below n)) c → Marks nodes s p (below (n + 1)) c
node_more nodes s p n c h = record { shows = h.shows; by_port = h.by_port; by_node = fewer_nodes nodes s (with_one n (below n)) (below (n + 1)) c.index (λ m l t. below_more n m t) h.by_node }

is_below : (a b n : ℕ) → a < b → b ≤ n → nat_lt a n ≡ true
is_below a b n h l = grind (arith, nat_tests)

pub ports_done : (nodes : List Node) (s : State) (n : ℕ) (q : ℕ → Bool) (c : Nodes) → port_count nodes ≤ n → Marks nodes s (below n) q c → Marks nodes s all q c
ports_done nodes s n q c l h = all_ports nodes s (below n) q c (λ m b. is_below m (port_count nodes) n b l) h

pub nodes_done : (nodes : List Node) (s : State) (n : ℕ) (c : Nodes) → length nodes ≤ n → Marks nodes s all (below n) c → AreNodes nodes s c
nodes_done nodes s n c l h = all_nodes nodes s all (below n) c (λ m b. is_below m (length nodes) n b l) h

-- without marks of nodes is with none below 0
pub none_below : (nodes : List Node) (s : State) (p : ℕ → Bool) (c : Nodes) → Marks nodes s p none c → Marks nodes s p (below 0) c
none_below nodes s p c h = record { shows = h.shows; by_port = h.by_port; by_node = fewer_nodes nodes s none (below 0) c.index (λ m l t. absurd (no_mark m t)) h.by_node }
