use Rattle.std.proofs.Common.{◌∷◌, refl, ap, arith, subst, ◌∙◌}
use Rattle.std.proofs.lemmas.Result.{err_from_is_err_and}
use Rattle.nf_value.specs.View.{plain_of}
use Rattle.nf_opstream.specs.Promise.{emits_of}
use Rattle.nf_opstream.specs.Push.{push_of}
use Rattle.nf_graph.specs.WellMade.{node_in, plain_graph}
use Rattle.nf_graph.proofs.Lists.{put_same}
use Rattle.nf_machine.specs.State.{State, Spot}
use Rattle.nf_machine.specs.Step.{with_spot}
use Rattle.nf_spot.specs.Spot.{emits_all_on}
use Rattle.nf_nodes.specs.Marks.{all_but}
use Rattle.nf_nodes.specs.Nodes.{AreNodes}
use Rattle.nf_nodes.specs.Steps.{left}
use Rattle.nf_nodes.proofs.Giving.{gives_there, faults_there, kind_there, moves_left, moves_spot, same_closed, silent_done, spot_shows, twice}
use Rattle.nf_nodes.proofs.Showing.{state_is}
use Rattle.nf_nodes.proofs.Stepping.{noted_again}
use Rattle.nf_nodes.proofs.nodes.Nodes.give.Goals as goal

pub push-requires : goal.push-requires
push-requires c =
    let q = c.requires.give in let ns = c.args.nodes.now in let i = c.args.node in let x = c.index_mut.result.now in
    c.rooms.ensures.push (node_in ns i) (q.state.spots i) x (state_is ns q.state c.args.self.now q.shows.shows i x q.below c.index_mut.ensures.value) (kind_there ns i q.kind) q.still q.few

pub emit_values-requires : goal.emit_values-requires
emit_values-requires c =
    let q = c.requires.give in let ns = c.args.nodes.now in let i = c.args.node in let x = c.index_mut.result.now in
    let g = c.in_ok-emits.ensures (node_in ns i) (q.state.spots i) (state_is ns q.state c.args.self.now q.shows.shows i x q.below c.index_mut.ensures.value) q.still in
    let sp : Spot = record (q.state.spots i) { pushed = push_of c.args.port (plain_of c.args.item) (plain_of c.args.answer) ∷ (q.state.spots i).pushed } in
    record { state = with_spot q.state i sp; shows = spot_shows ns q.state c.args.self.now _ i c.push.new.self sp q.below refl refl refl refl q.shows.shows refl g.1; below = q.below }

pub note_node-requires-clause-node : goal.note_node-requires-clause-node
note_node-requires-clause-node c =
    let q = c.requires.give in let ns = c.args.nodes.now in let i = c.args.node in let x = c.index_mut.result.now in
    let g = c.in_ok-emits.ensures (node_in ns i) (q.state.spots i) (state_is ns q.state c.args.self.now q.shows.shows i x q.below c.index_mut.ensures.value) q.still in
    let sp : Spot = record (q.state.spots i) { pushed = push_of c.args.port (plain_of c.args.item) (plain_of c.args.answer) ∷ (q.state.spots i).pushed } in
    let u = with_spot q.state i sp in
    let at = put_same q.state.spots i sp in
    let m = silent_done ns q.state c.args.self.now _ i c.push.new.self sp q.below refl refl refl refl u (moves_spot (plain_graph ns) q.state i sp q.shows.shows.running) at q.shows refl refl refl g.1 in
    let e = c.in_ok-emit_values.ensures u m (ap (λ (z : Spot). z.closed) at ∙ q.still) in
    record { state = with_spot u i (emits_all_on (u.spots i) (emits_of c.in_ok-emits.emits.items)); shows = e.shows; below = q.below }

pub note_node-requires-clause-flights : goal.note_node-requires-clause-flights
note_node-requires-clause-flights c = let l = c.requires.give.below in let e = c.requires.flights in omega arith

pub returns-in_err-emits : goal.returns-in_err-emits
returns-in_err-emits c s t k h et ek f =
    let q = c.requires.give in let ns = c.args.nodes.now in let i = c.args.node in let x = c.index_mut.result.now in
    let still = same_closed ns s q.state c.args.self.now i q.below h.shows q.shows.shows q.still in
    let g = c.in_err-emits.ensures (node_in ns i) (s.spots i) (state_is ns s c.args.self.now h.shows i x q.below c.index_mut.ensures.value) still in
    let p = err_from_is_err_and c.from_residual.result c.from_residual.ensures.1 in
    rw (p.1, p.2) (faults_there ns i (s.spots i).pushed (push_of c.args.port (plain_of c.args.item) (plain_of c.args.answer)) c.in_err-emits.field-0.0 g)

pub returns : goal.returns
returns c s t k h et ek f =
    let q = c.requires.give in let ns = c.args.nodes.now in let i = c.args.node in let x = c.index_mut.result.now in
    let still = same_closed ns s q.state c.args.self.now i q.below h.shows q.shows.shows q.still in
    let g = c.in_ok-emits.ensures (node_in ns i) (s.spots i) (state_is ns s c.args.self.now h.shows i x q.below c.index_mut.ensures.value) still in
    let push = push_of c.args.port (plain_of c.args.item) (plain_of c.args.answer) in
    let sp : Spot = record (s.spots i) { pushed = push ∷ (s.spots i).pushed } in
    let u = with_spot (left s t) i sp in
    let at = put_same s.spots i sp in
    let m = silent_done ns s c.args.self.now _ i c.push.new.self sp q.below refl refl refl refl u (moves_left (plain_graph ns) s t i k sp h.shows.running et ek) at h refl refl refl g.1 in
    let es = emits_of c.in_ok-emits.emits.items in
    let e = c.in_ok-emit_values.ensures u m (ap (λ (z : Spot). z.closed) at ∙ still) in
    let v = with_spot u i (emits_all_on (u.spots i) es) in
    let a = noted_again ns v i c.note_node.new.self (c.note_node.ensures.marks v (all_but i) e (record { shows = f.shows; nodes_are = f.nodes_are })) in
    record {
      emits = es;
      gives = gives_there ns i (s.spots i).pushed push es g.0;
      nodes_are = subst (λ (w : State). AreNodes ns w c.note_node.new.self) (twice (left s t) i sp (λ z. emits_all_on z es)) a;
    }
