use Rattle.std.proofs.Common.{subst, refl}
use Rattle.nf_value.specs.View.{plain_of}
use Rattle.nf_graph.specs.WellMade.{node_in}
use Rattle.nf_machine.specs.Event.{Place}
use Rattle.nf_wiring.specs.Places.{plain_place}
use Rattle.nf_nodes.specs.Marks.{all_but}
use Rattle.nf_nodes.specs.Nodes.{AreNodes}
use Rattle.nf_nodes.specs.Steps.{received}
use Rattle.nf_nodes.proofs.Showing.{state_is}
use Rattle.nf_nodes.proofs.Noting.{place_had}
use Rattle.nf_nodes.proofs.Stepping.{receive_done, marked_again, noted_again}
use Rattle.nf_nodes.proofs.nodes.Nodes.receive.Goals as goal

pub note_port-requires : goal.note_port-requires
note_port-requires c =
    let s = c.requires.may.state in let h = c.requires.may.shows in
    let e = c.place-place.ensures c.args.nodes.now h.shows.wiring in
    let p = place_had c.args.nodes.now c.args.self.now c.args.number (plain_place c.place-place.result) (c.numbers.ensures.within c.args.nodes.now c.args.number c.requires.may.below)
    (record { state = s; shows = h.shows; below = c.requires.may.below }) e in
    let node = c.in_ok-receive.ensures (node_in c.args.nodes.now c.place-place.result.node) (s.spots c.place-place.result.node) (state_is c.args.nodes.now s c.args.self.now h.shows c.place-place.result.node c.index_mut.result.now p.node c.index_mut.ensures.value) in
    let d = receive_done c.args.nodes.now (c.numbers.ensures.apart c.args.nodes.now) s c.args.self.now _ c.args.number (plain_place c.place-place.result) (plain_of c.args.item) c.receive.new.self h c.requires.may.below e p.node node refl refl refl refl in
    record { state = received s (plain_place c.place-place.result) (plain_of c.args.item); shows = d.shows; below = c.requires.may.below }

pub note_node-requires-clause-node : goal.note_node-requires-clause-node
note_node-requires-clause-node c =
    let s = c.requires.may.state in let h = c.requires.may.shows in
    let e = c.place-place.ensures c.args.nodes.now h.shows.wiring in
    let p = place_had c.args.nodes.now c.args.self.now c.args.number (plain_place c.place-place.result) (c.numbers.ensures.within c.args.nodes.now c.args.number c.requires.may.below)
    (record { state = s; shows = h.shows; below = c.requires.may.below }) e in
    let node = c.in_ok-receive.ensures (node_in c.args.nodes.now c.place-place.result.node) (s.spots c.place-place.result.node) (state_is c.args.nodes.now s c.args.self.now h.shows c.place-place.result.node c.index_mut.result.now p.node c.index_mut.ensures.value) in
    let u = received s (plain_place c.place-place.result) (plain_of c.args.item) in
    let d = receive_done c.args.nodes.now (c.numbers.ensures.apart c.args.nodes.now) s c.args.self.now _ c.args.number (plain_place c.place-place.result) (plain_of c.args.item) c.receive.new.self h c.requires.may.below e p.node node refl refl refl refl in
    let m = c.note_port.ensures.marks u (all_but c.args.number) (all_but c.place-place.result.node) d in
    record { state = u; shows = m.shows; below = p.node }

pub returns : goal.returns
returns c s h f =
    let e = c.place-place.ensures c.args.nodes.now h.shows.wiring in
    let p = place_had c.args.nodes.now c.args.self.now c.args.number (plain_place c.place-place.result) (c.numbers.ensures.within c.args.nodes.now c.args.number c.requires.may.below)
    (record { state = s; shows = h.shows; below = c.requires.may.below }) e in
    let node = c.in_ok-receive.ensures (node_in c.args.nodes.now c.place-place.result.node) (s.spots c.place-place.result.node) (state_is c.args.nodes.now s c.args.self.now h.shows c.place-place.result.node c.index_mut.result.now p.node c.index_mut.ensures.value) in
    let u = received s (plain_place c.place-place.result) (plain_of c.args.item) in
    let d = receive_done c.args.nodes.now (c.numbers.ensures.apart c.args.nodes.now) s c.args.self.now _ c.args.number (plain_place c.place-place.result) (plain_of c.args.item) c.receive.new.self h c.requires.may.below e p.node node refl refl refl refl in
    let m = marked_again c.args.nodes.now u c.args.number c.place-place.result.node _ (c.note_port.ensures.marks u (all_but c.args.number) (all_but c.place-place.result.node) d) in
    let a = noted_again c.args.nodes.now u c.place-place.result.node _ (c.note_node.ensures.marks u (all_but c.place-place.result.node) m (record { shows = f.shows; nodes_are = f.nodes_are })) in
    subst (λ (q : Place). AreNodes c.args.nodes.now (received s q (plain_of c.args.item)) c.note_node.new.self) e a
