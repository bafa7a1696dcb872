-- One mark more, by what the code looked at.
use Rattle.std.proofs.Common.{◌≡◌, ℕ, ◌<◌, length, get_or, Bool, true, false, ◌&&◌, refl, ap, sym, ◌∙◌, subst, arith}
use Rattle.std.specs.Prelude.{◌↔◌, nat_lt, not, if◌then◌else◌, ◌==◌, List}
use Rattle.nf_graph.specs.declared.node.Node.{Node}
use Rattle.nf_graph.specs.WellMade.{plain_graph, node_in}
use Rattle.nf_machine.specs.Event.{Place}
use Rattle.nf_machine.specs.State.{State}
use Rattle.nf_machine.specs.Legal.{CloseIsLegal}
use Rattle.nf_spot.specs.Numbers.{has, limit_of}
use Rattle.nf_spot.specs.declared.numbers.NumberSet.{NumberSet}
use Rattle.nf_wiring.specs.Places.{port_count, place_in, StandsWithin}
use Rattle.nf_nodes.specs.Marks.{fed, passed_there, producer_of, CanTake, all, with_one}
use Rattle.nf_nodes.specs.Index.{is_live, IsSized, MarksPorts, MarksNodes}
use Rattle.nf_nodes.specs.Nodes.{HasPlace, HasNumbered, KeepsStates, Marks, Shows}
use Rattle.nf_nodes.specs.declared.index.Index.{Index}
use Rattle.nf_nodes.specs.declared.nodes.Nodes.{Nodes}
use Rattle.nf_nodes.proofs.Marking.{ports_apart, nodes_apart, one_port, one_node}

-- the place of a number is one
pub place_had : (nodes : List Node) (c : Nodes) (n : ℕ) (p : Place) → StandsWithin nodes n → HasNumbered nodes c n → p ≡ place_in nodes n → HasPlace nodes c p
place_had nodes c n p w h e = record {
  state = h.state;
  shows = h.shows;
  node = subst (λ (q : Place). q.node < length nodes) (sym e) w.node;
  port = subst (λ (q : Place). q.port < length (node_in nodes q.node).ports) (sym e) w.port;
}

module _ (nodes : List Node) (s : State) (p q : ℕ → Bool) (c : Nodes) (y : Index) where
  with_index : Shows nodes s c → IsSized nodes y → Shows nodes s (record c { index = y })
  with_index h sized = record {
    running = h.running;
    well_made = h.well_made;
    wiring = h.wiring;
    count = h.count;
    states = h.states;
    closed_count = h.closed_count;
    closed = h.closed;
    sized = sized;
  }

  pub noted_port : (number : ℕ) (place : Place) (passed emitted : ℕ) (closed b : Bool) → Marks nodes s p q c → place ≡ place_in nodes number
      → passed ≡ passed_there s place → emitted ≡ fed (plain_graph nodes) s place → closed ≡ (s.spots (producer_of (plain_graph nodes) place)).closed → b ≡ not (closed && (passed == emitted))
      → ((n : ℕ) → has y.passable n ≡ (if n == number then nat_lt passed emitted else has c.index.passable n))
      → ((r : Place) (d : NumberSet) → is_live y d r ≡ (if (r.node == place.node) && (r.port == place.port) then b else is_live c.index d r))
      → y.takeable ≡ c.index.takeable → y.closable ≡ c.index.closable → IsSized nodes y → Marks nodes s (with_one number p) q (record c { index = y })
  noted_port number place passed emitted closed b h e ep em ec eb passes lives et ex sized =
      let g = plain_graph nodes in
      record {
        shows = with_index h.shows sized;
        by_port = one_port nodes s p c.index y number place (nat_lt passed emitted) b h.by_port e (ap (λ n. nat_lt n emitted) ep ∙ ap (nat_lt (passed_there s place)) em)
            (eb ∙ ap not (ap (λ z. z && (passed == emitted)) ec ∙ ap (λ z. (s.spots (producer_of g place)).closed && z) (ap (λ n. n == emitted) ep ∙ ap (λ n. passed_there s place == n) em))) passes lives;
        by_node = nodes_apart nodes s q c.index y et ex h.by_node;
      }

  pub noted_node : (node : ℕ) (a b : Bool) → Marks nodes s p q c → (a ≡ true) ↔ CanTake (plain_graph nodes) s node → (b ≡ true) ↔ CloseIsLegal (plain_graph nodes) s node
      → ((i : ℕ) → has y.takeable i ≡ (if i == node then a else has c.index.takeable i)) → ((i : ℕ) → has y.closable i ≡ (if i == node then b else has c.index.closable i))
      → y.passable ≡ c.index.passable → y.live ≡ c.index.live → IsSized nodes y → Marks nodes s p (with_one node q) (record c { index = y })
  noted_node node a b h ha hb takes closes ep el sized = record {
    shows = with_index h.shows sized;
    by_port = ports_apart nodes s p c.index y ep el h.by_port;
    by_node = one_node nodes s q c.index y node a b h.by_node ha hb takes closes;
  }

-- another index keeps the rest
pub kept_rest : (nodes : List Node) (c : Nodes) (y : Index) → ((ns : List Node) → IsSized ns c.index → IsSized ns y) → KeepsStates nodes c (record c { index = y })
kept_rest nodes c y sized = record { wiring = refl; shows = λ s h. with_index nodes s all all c y h (sized nodes h.sized) }

pub rest_same : (nodes : List Node) (c : Nodes) → KeepsStates nodes c c
rest_same nodes c = record { wiring = refl; shows = λ s h. h }

pub rest_again : (nodes : List Node) (a b c : Nodes) → KeepsStates nodes a b → KeepsStates nodes b c → KeepsStates nodes a c
rest_again nodes a b c f h = record { wiring = h.wiring ∙ f.wiring; shows = λ s e. h.shows s (f.shows s e) }
