use Rattle.std.proofs.Common.{◌∷◌, refl, ap, arith, subst, ◌∙◌}
use Rattle.std.specs.Prelude.{Ok}
use Rattle.nf_graph.specs.WellMade.{node_in, plain_graph}
use Rattle.nf_graph.proofs.Lists.{put_same}
use Rattle.nf_machine.specs.State.{State, Spot}
use Rattle.nf_machine.specs.Step.{with_spot}
use Rattle.nf_spot.specs.Spot.{outs_on}
use Rattle.nf_nodes.specs.Marks.{all_but}
use Rattle.nf_nodes.specs.Nodes.{AreNodes}
use Rattle.nf_nodes.specs.Steps.{left}
use Rattle.nf_nodes.proofs.Giving.{back_done, back_state, moves_left, others_marked, same_closed}
use Rattle.nf_nodes.proofs.Stepping.{noted_again}
use Rattle.nf_nodes.proofs.nodes.Nodes.emit.Goals as goal

pub emit_outputs-requires : goal.emit_outputs-requires
emit_outputs-requires c = let q = c.requires.emit in record { state = q.state; shows = q.shows.shows; below = q.below }

pub note_node-requires-clause-node : goal.note_node-requires-clause-node
note_node-requires-clause-node c =
    let q = c.requires.emit in let i = c.args.node in
    let e = c.in_ok-emit_outputs.ensures q.state (others_marked c.args.nodes.now q.state c.args.self.now i q.shows) q.still in
    record { state = with_spot q.state i (outs_on (q.state.spots i) (Ok c.args.outputs.now)); shows = e.shows; below = q.below }

pub note_node-requires-clause-flights : goal.note_node-requires-clause-flights
note_node-requires-clause-flights c = let l = c.requires.emit.below in let e = c.requires.flights in omega arith

pub returns : goal.returns
returns c s t k e h et ek eo f =
    let q = c.requires.emit in let ns = c.args.nodes.now in let i = c.args.node in
    let still = same_closed ns s q.state c.args.self.now i q.below h.shows q.shows.shows q.still in
    let sp : Spot = record (s.spots i) { ended = e ∷ (s.spots i).ended } in
    let u = with_spot (left s t) i sp in
    let at = put_same s.spots i sp in
    let m = back_done ns s u c.args.self.now i sp (moves_left (plain_graph ns) s t i k sp h.shows.running et ek) at h refl refl refl (λ x n. c.came_back.ensures.ended (node_in ns i) (s.spots i) x (e ∷ (s.spots i).ended) n) in
    let a = c.in_ok-emit_outputs.ensures u m (ap (λ (z : Spot). z.closed) at ∙ still) in
    let v = with_spot u i (outs_on (u.spots i) (Ok c.args.outputs.now)) in
    let b = noted_again ns v i c.note_node.new.self (c.note_node.ensures.marks v (all_but i) a (record { shows = f.shows; nodes_are = f.nodes_are })) in
    subst (λ (w : State). AreNodes ns w c.note_node.new.self) (back_state (left s t) i k e (Ok c.args.outputs.now) ek eo) b
