-- What the nodes in memory show of the state.
use Rattle.std.proofs.Common.{◌≡◌, ℕ, zero, suc, ◌+◌, ◌<◌, ◌≤◌, List, [], ◌∷◌, length, get_or, Bool, true, false, refl, ap, sym, ◌∙◌, subst, arith, inl, inr}
use Rattle.std.specs.Prelude.{◌↔◌, Option, Some, None, is_some, MatchOption, slice_index_or}
use Rattle.std.proofs.lemmas.Bool.{true≢false}
use Rattle.std.proofs.lemmas.List.{get_or_default}
use Rattle.nf_value.specs.Plain.{Plain, null}
use Rattle.nf_graph.specs.declared.port.Port.{Port}
use Rattle.nf_graph.specs.declared.node.Node.{Node}
use Rattle.nf_graph.specs.Node.{PlainNode, port_at, node_at}
use Rattle.nf_graph.specs.WellMade.{FitsKind, plain_node, plain_graph, node_in, no_source}
use Rattle.nf_machine.specs.Event.{Place}
use Rattle.nf_machine.specs.State.{State, Spot, feed}
use Rattle.nf_machine.specs.Step.{next_item}
use Rattle.nf_machine.specs.Legal.{MayTake}
use Rattle.nf_spot.specs.Heads.{no_inlet}
use Rattle.nf_spot.specs.Spot.{IsNode, MayNotTake, MayTakeAt, passed_at, emitted_at, ports_of, outs_of}
use Rattle.nf_spot.specs.declared.node_state.NodeState.{NodeState}
use Rattle.nf_wiring.specs.Places.{port_there}
use Rattle.nf_nodes.specs.Marks.{fed, passed_there, producer_of, CanTake}
use Rattle.nf_nodes.specs.Nodes.{Shows}
use Rattle.nf_nodes.specs.declared.nodes.Nodes.{Nodes}
use Rattle.nf_nodes.proofs.Marking.{plain_at}

-- the port at a place, in the graph and in memory
pub port_same : (nodes : List Node) (p : Place) → port_at (node_at (plain_graph nodes) p.node) p.port ≡ port_there nodes p
port_same nodes p = ap (λ (n : PlainNode). port_at n p.port) (plain_at nodes p.node)

-- a node that the code read
pub node_read : (nodes : List Node) (i : ℕ) (n : Node) → i < length nodes → n ≡ get_or nodes i n → n ≡ node_in nodes i
node_read nodes i n l e = e ∙ get_or_default nodes i n no_source l

module _ (nodes : List Node) (s : State) (c : Nodes) (h : Shows nodes s c) where
  -- x is what the code read at node i
  pub state_is : (i : ℕ) (x : NodeState) → i < length nodes → x ≡ get_or c.states.items i x → IsNode (node_in nodes i) (s.spots i) x
  state_is i x l e = subst (IsNode (node_in nodes i) (s.spots i)) (sym e) (h.states i x l)

  pub state_ports : (i : ℕ) (x : NodeState) → i < length nodes → x ≡ get_or c.states.items i x → ports_of x ≡ length (node_in nodes i).ports
  state_ports i x l e = (state_is i x l e).ports

  pub state_outs : (i : ℕ) (x : NodeState) → i < length nodes → x ≡ get_or c.states.items i x → outs_of x ≡ (node_in nodes i).outs
  state_outs i x l e = (state_is i x l e).outs

  pub passed_is : (p : Place) (x : NodeState) → p.node < length nodes → p.port < length (node_in nodes p.node).ports → x ≡ get_or c.states.items p.node x → passed_at x p.port ≡ passed_there s p
  passed_is p x l m e = ap (λ (q : ℕ × List Plain). q.0) ((state_is p.node x l e).inlet p.port m)

  pub below_count : (i : ℕ) → i < length nodes → i < length c.states.items
  below_count i l = let e = h.count in omega arith

  -- the node that a port reads is there, and so is its output
  pub producer_below : (p : Place) → p.node < length nodes → p.port < length (node_in nodes p.node).ports → (port_there nodes p).from < length nodes
  producer_below p l m = let r = (h.well_made.reads p.node p.port m).earlier in omega arith

  pub out_below : (p : Place) (x : NodeState) → p.node < length nodes → p.port < length (node_in nodes p.node).ports → x ≡ get_or c.states.items (port_there nodes p).from x → (port_there nodes p).out < outs_of x
  out_below p x l m e = let r = (h.well_made.reads p.node p.port m).out in let o = state_outs (port_there nodes p).from x (producer_below p l m) e in omega arith

  pub fed_is : (p : Place) (x : NodeState) → p.node < length nodes → p.port < length (node_in nodes p.node).ports → x ≡ get_or c.states.items (port_there nodes p).from x → length (emitted_at x (port_there nodes p).out) ≡ fed (plain_graph nodes) s p
  fed_is p x l m e =
      ap length ((state_is (port_there nodes p).from x (producer_below p l m) e).emits (port_there nodes p).out (h.well_made.reads p.node p.port m).out)
      ∙ ap (λ (q : Port). length ((s.spots q.from).emitted q.out)) (sym (port_same nodes p))

  pub closed_is : (p : Place) → p.node < length nodes → p.port < length (node_in nodes p.node).ports → slice_index_or c.closed.items (port_there nodes p).from false ≡ (s.spots (producer_of (plain_graph nodes) p)).closed
  closed_is p l m = h.closed (port_there nodes p).from (producer_below p l m) ∙ ap (λ (q : Port). (s.spots q.from).closed) (sym (port_same nodes p))

  -- the same of a port q that the code read at the place
  pub producer_at : (p : Place) (q : Port) → q ≡ port_there nodes p → p.node < length nodes → p.port < length (node_in nodes p.node).ports → q.from < length nodes
  producer_at p q e l m = subst (λ (r : Port). r.from < length nodes) (sym e) (producer_below p l m)

  pub out_at : (p : Place) (q : Port) (x : NodeState) → q ≡ port_there nodes p → p.node < length nodes → p.port < length (node_in nodes p.node).ports → x ≡ get_or c.states.items q.from x → q.out < outs_of x
  out_at p q x e l m ex = subst (λ (r : Port). r.out < outs_of x) (sym e) (out_below p x l m (subst (λ (r : Port). x ≡ get_or c.states.items r.from x) e ex))

  pub fed_at : (p : Place) (q : Port) (x : NodeState) → q ≡ port_there nodes p → p.node < length nodes → p.port < length (node_in nodes p.node).ports → x ≡ get_or c.states.items q.from x
      → length (emitted_at x q.out) ≡ fed (plain_graph nodes) s p
  fed_at p q x e l m ex = ap (λ (r : Port). length (emitted_at x r.out)) e ∙ fed_is p x l m (subst (λ (r : Port). x ≡ get_or c.states.items r.from x) e ex)

  -- what was emitted to it, and the item that passes next
  pub feed_at : (p : Place) (q : Port) (x : NodeState) → q ≡ port_there nodes p → p.node < length nodes → p.port < length (node_in nodes p.node).ports → x ≡ get_or c.states.items q.from x
      → emitted_at x q.out ≡ feed s.spots (port_at (node_at (plain_graph nodes) p.node) p.port)
  feed_at p q x e l m ex =
      (state_is q.from x (producer_at p q e l m) ex).emits q.out (subst (λ (r : Port). r.out < (node_in nodes r.from).outs) (sym e) (h.well_made.reads p.node p.port m).out)
      ∙ ap (λ (r : Port). (s.spots r.from).emitted r.out) (e ∙ sym (port_same nodes p))

  pub next_at : (p : Place) (q : Port) (x : NodeState) (n : ℕ) → q ≡ port_there nodes p → p.node < length nodes → p.port < length (node_in nodes p.node).ports → x ≡ get_or c.states.items q.from x → n ≡ passed_there s p
      → get_or (emitted_at x q.out) n null ≡ next_item (plain_graph nodes) s p.node p.port
  next_at p q x n e l m ex en = ap (λ (xs : List Plain). get_or xs n null) (feed_at p q x e l m ex) ∙ ap (λ k. get_or (feed s.spots (port_at (node_at (plain_graph nodes) p.node) p.port)) k null) en

  pub next_below : (p : Place) (q : Port) (x : NodeState) (n : ℕ) → q ≡ port_there nodes p → p.node < length nodes → p.port < length (node_in nodes p.node).ports → x ≡ get_or c.states.items q.from x → n ≡ passed_there s p
      → passed_there s p < fed (plain_graph nodes) s p → n < length (emitted_at x q.out)
  next_below p q x n e l m ex en more = let f = fed_at p q x e l m ex in omega (arith, en, more, f)

  pub closed_at : (p : Place) (q : Port) → q ≡ port_there nodes p → p.node < length nodes → p.port < length (node_in nodes p.node).ports → slice_index_or c.closed.items q.from false ≡ (s.spots (producer_of (plain_graph nodes) p)).closed
  closed_at p q e l m = ap (λ (r : Port). slice_index_or c.closed.items r.from false) e ∙ closed_is p l m

  -- b is what the code read there
  pub closed_read : (p : Place) (q : Port) (b : Bool) → q ≡ port_there nodes p → p.node < length nodes → p.port < length (node_in nodes p.node).ports → b ≡ get_or c.closed.items q.from b
      → b ≡ (s.spots (producer_of (plain_graph nodes) p)).closed
  closed_read p q b e l m r = r ∙ get_or_default c.closed.items q.from b false (let w = h.closed_count in let v = producer_at p q e l m in omega arith) ∙ closed_at p q e l m

  pub fits_there : (i : ℕ) (n : Node) → i < length nodes → n ≡ get_or nodes i n → FitsKind n n.kind
  fits_there i n l e = subst (λ (m : Node). FitsKind m m.kind) (sym (node_read nodes i n l e)) (h.well_made.kinds i)

  -- what the code was told of node i
  pub take_told : (i : ℕ) (n : Node) (x : NodeState) (r : Option ℕ) → i < length nodes → n ≡ get_or nodes i n → x ≡ get_or c.states.items i x
      → ((sp : Spot) → IsNode n sp x → MatchOption r (MayNotTake n sp) (λ port. MayTakeAt n sp port 0)) → (is_some r ≡ true) ↔ CanTake (plain_graph nodes) s i
  take_told i n x r l en ex told = by r (told (s.spots i) (subst (λ (m : Node). IsNode m (s.spots i) x) (sym (node_read nodes i n l en)) (state_is i x l ex)))
    where
      there : node_at (plain_graph nodes) i ≡ plain_node n
      there = plain_at nodes i ∙ ap plain_node (sym (node_read nodes i n l en))

      by : (r : Option ℕ) → MatchOption r (MayNotTake n (s.spots i)) (λ port. MayTakeAt n (s.spots i) port 0) → (is_some r ≡ true) ↔ CanTake (plain_graph nodes) s i
      by None none = ((λ e. absurd (true≢false (sym e))), (λ can. absurd (none can.port can.place (subst (λ (m : PlainNode). MayTake m m.kind (s.spots i) can.port can.place) there can.may))))
      by (Some port) may = ((λ e. record { port = port; place = 0; may = subst (λ (m : PlainNode). MayTake m m.kind (s.spots i) port 0) (sym there) may }), (λ can. refl))
