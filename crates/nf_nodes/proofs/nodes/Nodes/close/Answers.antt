use Rattle.std.proofs.Common.{true, refl, arith}
use Rattle.std.proofs.lemmas.Result.{err_from_is_err_and}
use Rattle.nf_opstream.specs.Promise.{emits_of}
use Rattle.nf_graph.specs.WellMade.{node_in}
use Rattle.nf_machine.specs.State.{Spot}
use Rattle.nf_machine.specs.Step.{with_spot}
use Rattle.nf_spot.specs.Spot.{emits_all_on}
use Rattle.nf_nodes.specs.Marks.{far_from}
use Rattle.nf_nodes.proofs.Giving.{closes_done, ends_there, end_faults_there, same_closed}
use Rattle.nf_nodes.proofs.Readying.{close_there}
use Rattle.nf_nodes.proofs.Showing.{state_is}
use Rattle.nf_nodes.proofs.Telling.{own_told}
use Rattle.nf_nodes.proofs.nodes.Nodes.close.Goals as goal

pub index_mut-state-requires : goal.index_mut-state-requires
index_mut-state-requires c =
    let q = c.requires.close in let l = close_there c.args.nodes.now q.state c.args.node q.may in let e = q.shows.shows.count in omega (arith, l, e)

pub returns-in_err-emits : goal.returns-in_err-emits
returns-in_err-emits c s h f =
    let q = c.requires.close in let ns = c.args.nodes.now in let i = c.args.node in let x = c.index_mut-state.result.now in
    let l = close_there ns q.state i q.may in
    let still = same_closed ns s q.state c.args.self.now i l h.shows q.shows.shows q.may.still in
    let g = c.in_err-emits.ensures (node_in ns i) (s.spots i) (state_is ns s c.args.self.now h.shows i x l c.index_mut-state.ensures.value) still in
    let p = err_from_is_err_and c.from_residual.result c.from_residual.ensures.1 in
    rw (p.1, p.2) (end_faults_there ns i (s.spots i).pushed c.in_err-emits.field-0.0 g)

pub note_readers-requires : goal.note_readers-requires
note_readers-requires c =
    let q = c.requires.close in let ns = c.args.nodes.now in let i = c.args.node in let x = c.index_mut-state.result.now in
    let l = close_there ns q.state i q.may in
    let g = c.in_ok-emits.ensures (node_in ns i) (q.state.spots i) (state_is ns q.state c.args.self.now q.shows.shows i x l c.index_mut-state.ensures.value) q.may.still in
    let shut : Spot = record (q.state.spots i) { closed = true } in
    let n = c.in_ok-emit_all.ensures (node_in ns i) shut g.1 in
    let sp = emits_all_on shut (emits_of c.in_ok-emits.emits.items) in
    let m = closes_done ns q.state c.args.self.now _ i c.emit_all.new.self sp l refl refl refl refl q.shows refl refl n in
    record { state = with_spot q.state i sp; shows = m.shows; below = l }

pub note_node-requires-clause-node : goal.note_node-requires-clause-node
note_node-requires-clause-node c =
    let q = c.requires.close in let ns = c.args.nodes.now in let i = c.args.node in let x = c.index_mut-state.result.now in
    let l = close_there ns q.state i q.may in
    let g = c.in_ok-emits.ensures (node_in ns i) (q.state.spots i) (state_is ns q.state c.args.self.now q.shows.shows i x l c.index_mut-state.ensures.value) q.may.still in
    let shut : Spot = record (q.state.spots i) { closed = true } in
    let n = c.in_ok-emit_all.ensures (node_in ns i) shut g.1 in
    let sp = emits_all_on shut (emits_of c.in_ok-emits.emits.items) in
    let m = closes_done ns q.state c.args.self.now _ i c.emit_all.new.self sp l refl refl refl refl q.shows refl refl n in
    let r = c.note_readers.ensures (with_spot q.state i sp) (far_from ns i) m in
    record { state = with_spot q.state i sp; shows = r.shows; below = l }

pub note_node-requires-clause-flights : goal.note_node-requires-clause-flights
note_node-requires-clause-flights c =
    let q = c.requires.close in let l = close_there c.args.nodes.now q.state c.args.node q.may in let e = c.requires.flights in omega (arith, l, e)

pub note_fed-requires-clause-node : goal.note_fed-requires-clause-node
note_fed-requires-clause-node c =
    let q = c.requires.close in let ns = c.args.nodes.now in let i = c.args.node in let x = c.index_mut-state.result.now in
    let l = close_there ns q.state i q.may in
    let g = c.in_ok-emits.ensures (node_in ns i) (q.state.spots i) (state_is ns q.state c.args.self.now q.shows.shows i x l c.index_mut-state.ensures.value) q.may.still in
    let shut : Spot = record (q.state.spots i) { closed = true } in
    let n = c.in_ok-emit_all.ensures (node_in ns i) shut g.1 in
    let sp = emits_all_on shut (emits_of c.in_ok-emits.emits.items) in
    let m = closes_done ns q.state c.args.self.now _ i c.emit_all.new.self sp l refl refl refl refl q.shows refl refl n in
    let r = c.note_readers.ensures (with_spot q.state i sp) (far_from ns i) m in
    record { state = with_spot q.state i sp; shows = c.note_node.ensures.rest.shows (with_spot q.state i sp) r.shows; below = l }

pub returns : goal.returns
returns c s h f =
    let q = c.requires.close in let ns = c.args.nodes.now in let i = c.args.node in let x = c.index_mut-state.result.now in
    let l = close_there ns q.state i q.may in
    let still = same_closed ns s q.state c.args.self.now i l h.shows q.shows.shows q.may.still in
    let g = c.in_ok-emits.ensures (node_in ns i) (s.spots i) (state_is ns s c.args.self.now h.shows i x l c.index_mut-state.ensures.value) still in
    let shut : Spot = record (s.spots i) { closed = true } in
    let n = c.in_ok-emit_all.ensures (node_in ns i) shut g.1 in
    let es = emits_of c.in_ok-emits.emits.items in
    let sp = emits_all_on shut es in
    let u = with_spot s i sp in
    let m = closes_done ns s c.args.self.now _ i c.emit_all.new.self sp l refl refl refl refl h refl refl n in
    let r = c.note_readers.ensures u (far_from ns i) m in
    let o = own_told ns u c.note_node.new.self i (c.note_node.ensures.marks u (far_from ns i) r (record { shows = f.shows; nodes_are = f.nodes_are })) in
    record { emits = es; ends = ends_there ns i (s.spots i).pushed es g.0; nodes_are = c.note_fed.ensures u o (record { shows = f.shows; nodes_are = f.nodes_are }) }
