-- What the index answers for the next move.
use Rattle.std.proofs.Common.{◌≡◌, ℕ, zero, suc, ◌+◌, ◌<◌, ◌≤◌, ◌-◌, List, [], ◌∷◌, length, get_or, Bool, true, false, ◌&&◌, refl, ap, sym, ◌∙◌, subst, arith, inl, inr}
use Rattle.std.specs.Prelude.{◌==◌, ◌↔◌, nat_lt, Option, Some, None, MatchOption}
use Rattle.std.proofs.lemmas.Bool.{cases_Bool, true≢false}
use Rattle.std.proofs.lemmas.Bool.Decides.{nat_tests}
use Rattle.std.proofs.lemmas.List.{get_or_past, length-map}
use Rattle.std.proofs.lemmas.List.Sums.{sum_by-cons}
use Rattle.nf_graph.specs.declared.node.Node.{Node}
use Rattle.nf_graph.specs.Node.{source, PlainNode, no_node, node_at, port_at}
use Rattle.nf_graph.specs.WellMade.{plain_node, plain_graph, node_in}
use Rattle.nf_machine.specs.declared.event.Move.{Move}
use Rattle.nf_machine.specs.declared.event.Move.TheVariants as m
use Rattle.nf_machine.specs.Event.{Place, place_from}
use Rattle.nf_machine.specs.State.{Spot, State}
use Rattle.nf_machine.specs.Legal as machine
use Rattle.nf_machine.specs.Legal.{PassIsLegal, CloseIsLegal}
use Rattle.nf_spot.specs.Numbers.{has, limit_of}
use Rattle.nf_spot.specs.Spot.{IsNode, MayNotTake, MayTakeAt}
use Rattle.nf_spot.specs.declared.numbers.NumberSet.{NumberSet}
use Rattle.nf_spot.specs.declared.node_state.NodeState.{NodeState}
use Rattle.nf_wiring.specs.Places.{port_count, place_in, StandsWithin}
use Rattle.nf_nodes.specs.Marks.{can_pass, CanTake, all}
use Rattle.nf_nodes.specs.Nodes.{AreNodes, HasNode, HasState}
use Rattle.nf_nodes.specs.Ready.{NoPass, NoTake, NoClose, IsNext, IsReady, IsTakeOf, IsReadyAt}
use Rattle.nf_nodes.specs.Steps.{MayPass, MayTake}
use Rattle.nf_nodes.specs.declared.nodes.Nodes.{Nodes}
use Rattle.nf_nodes.proofs.Marking.{plain_at}
use Rattle.nf_nodes.proofs.Closing.{Numbers}
use Rattle.nf_nodes.proofs.Showing.{node_read, state_is}

-- a number of a set is below its limit
pub has_below : (x : NumberSet) (n : ℕ) → has x n ≡ true → n < limit_of x
has_below x n h = elim (cases_Bool (nat_lt n (limit_of x))) [
  | inl t ↦ grind (arith, nat_tests)
  | inr f ↦ absurd (let g : false ≡ true = rw f at h in true≢false (sym g))
]

below : (a b : ℕ) → nat_lt a b ≡ true → a < b
below a b h = grind (arith, nat_tests)

is_below : (a b : ℕ) → a < b → nat_lt a b ≡ true
is_below a b h = grind (arith, nat_tests)

graph_length : (nodes : List Node) → length (plain_graph nodes) ≡ length nodes
graph_length nodes = length-map nodes plain_node

-- past the last node nothing takes or closes
take_there : (nodes : List Node) (s : State) (i : ℕ) → CanTake (plain_graph nodes) s i → i < length nodes
take_there nodes s i can = elim (cases_Bool (nat_lt i (length nodes))) [
  | inl t ↦ below i (length nodes) t
  | inr f ↦ absurd (let g = graph_length nodes in let z : length (plain_graph nodes) ≤ i = grind (arith, nat_tests) in let e : node_at (plain_graph nodes) i ≡ no_node = get_or_past (plain_graph nodes) i no_node z in
      let w : machine.MayTake no_node (source []) (s.spots i) can.port can.place = subst (λ (n : PlainNode). machine.MayTake n n.kind (s.spots i) can.port can.place) e can.may in w)
]

pub close_there : (nodes : List Node) (s : State) (i : ℕ) → CloseIsLegal (plain_graph nodes) s i → i < length nodes
close_there nodes s i legal = elim (cases_Bool (nat_lt i (length nodes))) [
  | inl t ↦ below i (length nodes) t
  | inr f ↦ absurd (let g = graph_length nodes in let z : length (plain_graph nodes) ≤ i = grind (arith, nat_tests) in let e : node_at (plain_graph nodes) i ≡ no_node = get_or_past (plain_graph nodes) i no_node z in
      let w : machine.MayClose no_node (source []) (s.spots i) = subst (λ (n : PlainNode). machine.MayClose n n.kind (s.spots i)) e legal.done in w)
]

-- a port of the graph is one of a node in memory
port_there : (nodes : List Node) (i k : ℕ) → k < length (node_at (plain_graph nodes) i).ports → k < length (node_in nodes i).ports
port_there nodes i k l = subst (λ (n : PlainNode). k < length n.ports) (plain_at nodes i) l

node_there : (nodes : List Node) (i k : ℕ) → k < length (node_at (plain_graph nodes) i).ports → i < length nodes
node_there nodes i k l = elim (cases_Bool (nat_lt i (length nodes))) [
  | inl t ↦ below i (length nodes) t
  | inr f ↦ absurd (let g = graph_length nodes in let z : length (plain_graph nodes) ≤ i = grind (arith, nat_tests) in let e : node_at (plain_graph nodes) i ≡ no_node = get_or_past (plain_graph nodes) i no_node z in
      let w : k < 0 = subst (λ (n : PlainNode). k < length n.ports) e l in omega arith)
]

module _ (nodes : List Node) (numbers : Numbers nodes) (stand : (n : ℕ) → n < port_count nodes → StandsWithin nodes n) (s : State) (c : Nodes) (h : AreNodes nodes s c) where
  pub no_pass : ((n : ℕ) → has c.index.passable n ≡ false) → NoPass nodes s
  no_pass none i k legal =
      let w = numbers i k (node_there nodes i k legal.within) (port_there nodes i k legal.within) in
      let e = h.by_port.passes w.number w.below refl in
      let t : can_pass (plain_graph nodes) s (place_in nodes w.number) ≡ true = subst (λ (p : Place). can_pass (plain_graph nodes) s p ≡ true) (sym w.is) (is_below ((s.spots i).passed k) (length ((s.spots (port_at (node_at (plain_graph nodes) i) k).from).emitted (port_at (node_at (plain_graph nodes) i) k).out)) legal.more) in
      true≢false (sym t ∙ sym e ∙ none w.number)

  pub no_take : ((n : ℕ) → has c.index.takeable n ≡ false) → NoTake nodes s
  no_take none i port place legal =
      let can : CanTake (plain_graph nodes) s i = record { port = port; place = place; may = legal.ready } in
      true≢false (sym ((h.by_node.takes i (take_there nodes s i can) refl).1 can) ∙ none i)

  pub no_close : ((n : ℕ) → has c.index.closable n ≡ false) → NoClose nodes s
  no_close none i legal = true≢false (sym ((h.by_node.closes i (close_there nodes s i legal) refl).1 legal) ∙ none i)

  pub one_passes : (n : ℕ) → has c.index.passable n ≡ true → MayPass nodes s n
  one_passes n t =
      let l : n < port_count nodes = subst (λ m. n < m) h.shows.sized.passable (has_below c.index.passable n t) in
      let e : can_pass (plain_graph nodes) s (place_in nodes n) ≡ true = sym (h.by_port.passes n l refl) ∙ t in
      record {
        running = h.shows.running;
        within = within n l;
        more = below ((s.spots (place_in nodes n).node).passed (place_in nodes n).port) (length ((s.spots (port_at (node_at (plain_graph nodes) (place_in nodes n).node) (place_in nodes n).port).from).emitted (port_at (node_at (plain_graph nodes) (place_in nodes n).node) (place_in nodes n).port).out)) e;
      }
    where
      within : (n : ℕ) → n < port_count nodes → (place_in nodes n).port < length (node_at (plain_graph nodes) (place_in nodes n).node).ports
      within n l = subst (λ (p : PlainNode). (place_in nodes n).port < length p.ports) (sym (plain_at nodes (place_in nodes n).node)) (stand n l).port

  pub one_closes : (n : ℕ) → has c.index.closable n ≡ true → CloseIsLegal (plain_graph nodes) s n
  one_closes n t = (h.by_node.closes n (subst (λ m. n < m) h.shows.sized.closable (has_below c.index.closable n t)) refl).0 t

  pub one_takes : (n : ℕ) → has c.index.takeable n ≡ true → CanTake (plain_graph nodes) s n
  one_takes n t = (h.by_node.takes n (subst (λ m. n < m) h.shows.sized.takeable (has_below c.index.takeable n t)) refl).0 t

-- what is answered for a node that can take
pub take_ready : (nodes : List Node) (s : State) (i : ℕ) (r : Option Move) → s.stop ≡ None → NoPass nodes s → CanTake (plain_graph nodes) s i → IsReadyAt nodes s i r → IsReady nodes s r
take_ready nodes s i None run no_pass can none = absurd (none can.port can.place (record { running = run; ready = can.may; ticket = refl; number = refl }))
take_ready nodes s i (Some (m.Pass port)) run no_pass can h = absurd h
take_ready nodes s i (Some (m.Take node port place)) run no_pass can h = (no_pass, h.1)
take_ready nodes s i (Some (m.Close node)) run no_pass can h = absurd h

-- what the code was told of node i
pub ready_told : (nodes : List Node) (s : State) (c : Nodes) (h : AreNodes nodes s c) (i : ℕ) (n : Node) (x : NodeState) (port : ℕ) → i < length nodes → n ≡ get_or nodes i n → x ≡ get_or c.states.items i x
    → ((sp : Spot) → IsNode n sp x → MayTakeAt n sp port 0) → MayTake nodes s i port 0
ready_told nodes s c h i n x port l en ex told =
    let here = node_read nodes i n l en in
    let node = subst (λ (q : Node). IsNode q (s.spots i) x) (sym here) (state_is nodes s c h.shows i x l ex) in
    let there : node_at (plain_graph nodes) i ≡ plain_node n = plain_at nodes i ∙ ap plain_node (sym here) in
    record { running = h.shows.running; ready = subst (λ (q : PlainNode). machine.MayTake q q.kind (s.spots i) port 0) (sym there) (told (s.spots i) node); ticket = refl; number = refl }

pub unready_told : (nodes : List Node) (s : State) (c : Nodes) (h : AreNodes nodes s c) (i : ℕ) (n : Node) (x : NodeState) → i < length nodes → n ≡ get_or nodes i n → x ≡ get_or c.states.items i x
    → ((sp : Spot) → IsNode n sp x → MayNotTake n sp) → (port place : ℕ) → MayTake nodes s i port place → ⊥
unready_told nodes s c h i n x l en ex told port place legal =
    let here = node_read nodes i n l en in
    let node = subst (λ (q : Node). IsNode q (s.spots i) x) (sym here) (state_is nodes s c h.shows i x l ex) in
    let there : node_at (plain_graph nodes) i ≡ plain_node n = plain_at nodes i ∙ ap plain_node (sym here) in
    told (s.spots i) node port place (subst (λ (q : PlainNode). machine.MayTake q q.kind (s.spots i) port place) there legal.ready)

-- nothing is answered
pub none_ready : (nodes : List Node) (s : State) (r : Option Move) → r ≡ None → NoPass nodes s → NoTake nodes s → NoClose nodes s → IsReady nodes s r
none_ready nodes s r e a b d = subst (IsReady nodes s) (sym e) (a, b, d)

-- ---- whether a move is legal

never : {P : Type 0} → (P → ⊥) → (false ≡ true) ↔ P
never f = ((λ e. absurd (true≢false (sym e))), (λ p. absurd (f p)))

isnt_below : (a b : ℕ) → b ≤ a → nat_lt a b ≡ false
isnt_below a b h = grind (arith, nat_tests)

-- a number past those of all ports is of no node
past : (i : ℕ) (nodes : List Node) (n : ℕ) → port_count nodes ≤ n → (place_from i (plain_graph nodes) n).node ≡ i + length nodes
past i [] n l = omega arith
past i (node ∷ nodes) n l =
    let c = sum_by-cons (λ (n : Node). length n.ports) node nodes in
    let t = isnt_below n (length node.ports) (omega arith) in
    let r = past (suc i) nodes (n - length node.ports) (omega arith) in rw t (omega (arith, r))

pub number_below : (nodes : List Node) (s : State) (n : ℕ) → MayPass nodes s n → n < port_count nodes
number_below nodes s n may = elim (cases_Bool (nat_lt n (port_count nodes))) [
  | inl t ↦ grind (arith, nat_tests)
  | inr t ↦ absurd (let z : port_count nodes ≤ n = grind (arith, nat_tests) in
      let e : length (plain_graph nodes) ≤ (place_in nodes n).node = (let a = past 0 nodes n z in let g = graph_length nodes in omega arith) in
      let none : node_at (plain_graph nodes) (place_in nodes n).node ≡ no_node = get_or_past (plain_graph nodes) (place_in nodes n).node no_node e in
      let w : (place_in nodes n).port < 0 = subst (λ (m : PlainNode). (place_in nodes n).port < length m.ports) none may.within in omega arith)
]

pub no_port : (nodes : List Node) (s : State) (n count : ℕ) → count ≡ port_count nodes → count ≤ n → (false ≡ true) ↔ MayPass nodes s n
no_port nodes s n count e l = never (λ may. let b = number_below nodes s n may in omega arith)

module _ (nodes : List Node) (s : State) (c : Nodes) (h : AreNodes nodes s c) where
  pub pass_told : ((n : ℕ) → n < port_count nodes → StandsWithin nodes n) → Numbers nodes → (n : ℕ) (b : Bool) → n < port_count nodes → b ≡ has c.index.passable n → (b ≡ true) ↔ MayPass nodes s n
  pass_told stand numbers n b l e = (
    (λ t. one_passes nodes numbers stand s c h n (sym e ∙ t)),
    (λ may. e ∙ h.by_port.passes n l refl ∙ is_below (passed n) (fed_to n) may.more),
  )
    where
      passed : ℕ → ℕ
      passed n = (s.spots (place_in nodes n).node).passed (place_in nodes n).port

      fed_to : ℕ → ℕ
      fed_to n =
          let p = port_at (node_at (plain_graph nodes) (place_in nodes n).node) (place_in nodes n).port in length ((s.spots p.from).emitted p.out)

  pub close_told : (i : ℕ) (b : Bool) → i < length nodes → b ≡ has c.index.closable i → (b ≡ true) ↔ CloseIsLegal (plain_graph nodes) s i
  close_told i b l e = ((λ t. (h.by_node.closes i l refl).0 (sym e ∙ t)), (λ legal. e ∙ (h.by_node.closes i l refl).1 legal))

  pub take_legal : (i port place : ℕ) (n : Node) (x : NodeState) (b : Bool) → i < length nodes → n ≡ get_or nodes i n → x ≡ get_or c.states.items i x
      → ((sp : Spot) → IsNode n sp x → (b ≡ true) ↔ MayTakeAt n sp port place) → (b ≡ true) ↔ MayTake nodes s i port place
  take_legal i port place n x b l en ex told = (
    (λ t. record { running = h.shows.running; ready = subst (λ (q : PlainNode). machine.MayTake q q.kind (s.spots i) port place) (sym there) (by.0 t); ticket = refl; number = refl }),
    (λ legal. by.1 (subst (λ (q : PlainNode). machine.MayTake q q.kind (s.spots i) port place) there legal.ready)),
  )
    where
      there : node_at (plain_graph nodes) i ≡ plain_node n
      there = plain_at nodes i ∙ ap plain_node (sym (node_read nodes i n l en))

      by : (b ≡ true) ↔ MayTakeAt n (s.spots i) port place
      by = told (s.spots i) (subst (λ (q : Node). IsNode q (s.spots i) x) (sym (node_read nodes i n l en)) (state_is nodes s c h.shows i x l ex))

pub no_node_takes : (nodes : List Node) (s : State) (i port place : ℕ) → length nodes ≤ i → (false ≡ true) ↔ MayTake nodes s i port place
no_node_takes nodes s i port place l = never (λ may. let b = take_there nodes s i (record { port = port; place = place; may = may.ready }) in omega arith)

pub no_node_closes : (nodes : List Node) (s : State) (i : ℕ) → length nodes ≤ i → (false ≡ true) ↔ CloseIsLegal (plain_graph nodes) s i
no_node_closes nodes s i l = never (λ legal. let b = close_there nodes s i legal in omega arith)
