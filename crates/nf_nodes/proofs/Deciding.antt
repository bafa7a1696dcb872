-- What the code tells of whether a node can close, and what it takes.
use Rattle.std.proofs.Common.{◌≡◌, ℕ, zero, suc, ◌+◌, ◌<◌, ◌≤◌, List, [], ◌∷◌, length, get_or, set, Bool, true, false, refl, ap, sym, ◌∙◌, subst, arith, inl, inr}
use Rattle.std.specs.Prelude.{◌==◌, ◌↔◌, ◌^◌, nat_lt, not, None, count_by, slice_index_or, MatchBool, if◌then◌else◌}
use Rattle.std.proofs.lemmas.Bool.{true≢false}
use Rattle.std.proofs.lemmas.List.{get_or_default}
use Rattle.nf_value.specs.Plain.{Plain}
use Rattle.nf_graph.specs.declared.node.Node.{Node}
use Rattle.nf_graph.specs.Node.{PlainNode, port_at, node_at}
use Rattle.nf_graph.specs.WellMade.{plain_kind, plain_node, plain_graph, node_in}
use Rattle.nf_machine.specs.Event.{Place}
use Rattle.nf_machine.specs.State.{Take, Ticket, Spot, State}
use Rattle.nf_machine.specs.Step.{left_at, takes, take_at, do_take}
use Rattle.nf_machine.specs.Legal as machine
use Rattle.nf_machine.specs.Legal.{MayClose, CloseIsLegal}
use Rattle.nf_spot.specs.Numbers.{has}
use Rattle.nf_spot.specs.Spot.{IsNode, IsSpent, HasTake, IsTaken, MayTakeAt, takes_on}
use Rattle.nf_spot.specs.declared.node_state.NodeState.{NodeState}
use Rattle.nf_spot.specs.declared.node_state.Taken.{Taken}
use Rattle.nf_spot.specs.declared.numbers.NumberSet.{NumberSet}
use Rattle.nf_wiring.specs.Places.{port_count, place_in}
use Rattle.nf_nodes.specs.Marks.{CanTake, all, all_but, with_one}
use Rattle.nf_nodes.specs.Index.{IsSized, is_live}
use Rattle.nf_nodes.specs.Nodes.{AreNodes, Marks, Shows}
use Rattle.nf_nodes.specs.Steps.{MayTake, taken}
use Rattle.nf_nodes.specs.declared.index.Index.{Index}
use Rattle.nf_nodes.specs.declared.nodes.Nodes.{Nodes}
use Rattle.nf_nodes.proofs.Marking.{plain_at}
use Rattle.nf_nodes.proofs.Closing.{Numbers, legal_close, none_live, done_there}
use Rattle.nf_nodes.proofs.Showing.{node_read, state_is}
use Rattle.nf_nodes.proofs.Noting.{noted_node}
use Rattle.nf_nodes.proofs.Stepping.{no_close, noted_again, take_done}

-- what can't be told true, and doesn't hold
never : {P : Type 0} → (P → ⊥) → (false ≡ true) ↔ P
never f = ((λ e. absurd (true≢false (sym e))), (λ p. absurd (f p)))

module _ (nodes : List Node) (s : State) (q : ℕ → Bool) (c : Nodes) (h : Marks nodes s all q c) (i : ℕ) (l : i < length nodes) where
  -- what the code read of whether it is closed
  closed_read : (b : Bool) → b ≡ get_or c.closed.items i b → b ≡ (s.spots i).closed
  closed_read b e = e ∙ get_or_default c.closed.items i b false (let w = h.shows.closed_count in omega arith) ∙ h.shows.closed i l

  pub none_closed : (b : Bool) → b ≡ get_or c.closed.items i b → b ≡ true → (false ≡ true) ↔ CloseIsLegal (plain_graph nodes) s i
  none_closed b e t = never (λ legal. true≢false (sym t ∙ closed_read b e ∙ legal.still))

  pub none_ended : Numbers nodes → (b : Bool) → b ≡ false → (b ≡ true) ↔ ((k : ℕ) (d : NumberSet) → is_live c.index d (record { node = i; port = k }) ≡ false) → (false ≡ true) ↔ CloseIsLegal (plain_graph nodes) s i
  none_ended numbers b e told = never (λ legal. true≢false (sym (told.1 (none_live nodes numbers s c.index h.by_port i l h.shows.sized legal)) ∙ e))

  pub none_quiet : (n : ℕ) → (n ≡ 0 → ⊥) → n ≡ count_by (λ (k : Ticket). k.node == i) s.tickets → (false ≡ true) ↔ CloseIsLegal (plain_graph nodes) s i
  none_quiet n ne e = never (λ legal. ne (e ∙ legal.flight))

  pub close_told : Numbers nodes → (n : Node) (x : NodeState) (shut ended : Bool) (flying : ℕ) (b : Bool) → n ≡ get_or nodes i n → x ≡ get_or c.states.items i x → shut ≡ get_or c.closed.items i shut → shut ≡ false
      → ended ≡ true → (ended ≡ true) ↔ ((k : ℕ) (d : NumberSet) → is_live c.index d (record { node = i; port = k }) ≡ false)
      → flying ≡ 0 → flying ≡ count_by (λ (k : Ticket). k.node == i) s.tickets
      → ((sp : Spot) → IsNode n sp x → MatchBool b (IsSpent n sp) (IsSpent n sp → ⊥)) → (b ≡ true) ↔ CloseIsLegal (plain_graph nodes) s i
  close_told numbers n x shut ended flying b en ex es open_now et live fz fe told =
      by b (told (s.spots i) (subst (λ (m : Node). IsNode m (s.spots i) x) (sym here) (state_is nodes s c h.shows i x l ex)))
    where
      here : n ≡ node_in nodes i
      here = node_read nodes i n l en

      by : (b : Bool) → MatchBool b (IsSpent n (s.spots i)) (IsSpent n (s.spots i) → ⊥) → (b ≡ true) ↔ CloseIsLegal (plain_graph nodes) s i
      by true spent = (
        (λ e. legal_close nodes numbers s c.index h.by_port i l h.shows.running (sym (closed_read shut es) ∙ open_now) (live.0 et) (sym fe ∙ fz)
            (subst (λ (m : Node). MayClose (plain_node m) (plain_kind m.kind) (s.spots i)) here spent)),
        (λ legal. refl),
      )
      by false no_more = never (λ legal. no_more (subst (λ (m : Node). MayClose (plain_node m) (plain_kind m.kind) (s.spots i)) (sym here) (done_there nodes numbers s c.index h.by_port i l legal)))

-- ---- Take

module _ (nodes : List Node) (s : State) (c : Nodes) (h : AreNodes nodes s c) (i port place : ℕ) (l : i < length nodes) (n : Node) (x : NodeState) (en : n ≡ get_or nodes i n) (ex : x ≡ get_or c.states.items i x) where
  read : n ≡ node_in nodes i
  read = node_read nodes i n l en

  there : node_at (plain_graph nodes) i ≡ plain_node n
  there = plain_at nodes i ∙ ap plain_node (sym read)

  pub is_read : IsNode n (s.spots i) x
  is_read = subst (λ (m : Node). IsNode m (s.spots i) x) (sym read) (state_is nodes s c h.shows i x l ex)

  pub has_take : MayTake nodes s i port place → HasTake n x port place
  has_take may = record { spot = s.spots i; shows = is_read; may = subst (λ (m : PlainNode). machine.MayTake m m.kind (s.spots i) port place) there may.ready }

  pub taken_is : (t : Taken) → IsTaken n (s.spots i) port place t → IsTaken (node_in nodes i) (s.spots i) port place t
  taken_is t e = subst (λ (m : Node). IsTaken m (s.spots i) port place t) read e

  -- y is the node after its take, and d the nodes
  pub after_take : (d : Nodes) (y : NodeState) → IsNode n (takes_on n (s.spots i) port place) y → d.states.items ≡ set c.states.items i y → d.closed ≡ c.closed → d.wiring ≡ c.wiring → d.index ≡ c.index
      → Marks nodes (taken nodes s i port place) all (all_but i) d
  after_take d y node es ec ew ei =
      take_done nodes s c d i place (take_at (plain_graph nodes) s i port place) y h l
      (subst (λ (m : PlainNode). IsNode (node_in nodes i) (record (s.spots i) { waiting = left_at (takes m (s.spots i) port place).slot place (s.spots i).waiting; taken = takes m (s.spots i) port place ∷ (s.spots i).taken }) y) (sym there)
      (subst (λ (m : Node). IsNode m (takes_on n (s.spots i) port place) y) read node))
      es ec ew ei

-- it can't close, since its take is in flight
pub take_noted : (nodes : List Node) (s : State) (d : Nodes) (y : Index) (i port place : ℕ) (a : Bool) → Marks nodes (taken nodes s i port place) all (all_but i) d
    → (a ≡ true) ↔ CanTake (plain_graph nodes) (taken nodes s i port place) i
    → ((j : ℕ) → has y.takeable j ≡ (if j == i then a else has d.index.takeable j)) → ((j : ℕ) → has y.closable j ≡ (if j == i then false else has d.index.closable j))
    → y.passable ≡ d.index.passable → y.live ≡ d.index.live → IsSized nodes y → AreNodes nodes (taken nodes s i port place) (record d { index = y })
take_noted nodes s d y i port place a h ha takes closes ep el sized =
    let u = taken nodes s i port place in
    noted_again nodes u i (record d { index = y }) (noted_node nodes u all (all_but i) d y i a false h ha (never (no_close (plain_graph nodes) s i place (take_at (plain_graph nodes) s i port place))) takes closes ep el sized)
