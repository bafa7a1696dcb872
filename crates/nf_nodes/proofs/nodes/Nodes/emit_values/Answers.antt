use Rattle.std.proofs.Common.{◌≡◌, length, refl, rules, subst}
use Rattle.nf_opstream.specs.Promise.{emits_of}
use Rattle.nf_graph.specs.WellMade.{node_in}
use Rattle.nf_machine.specs.State.{State}
use Rattle.nf_machine.specs.Step.{with_spot}
use Rattle.nf_spot.specs.Spot.{emits_all_on}
use Rattle.nf_nodes.specs.Marks.{all, all_but}
use Rattle.nf_nodes.specs.Nodes.{Marks}
use Rattle.nf_nodes.proofs.Giving.{emits_done, quiet_emits, spot_shows}
use Rattle.nf_nodes.proofs.Showing.{state_is}
use Rattle.nf_nodes.proofs.nodes.Nodes.emit_values.Goals as goal

pub returns-then-is_empty : goal.returns-then-is_empty
returns-then-is_empty c s m still =
    let none : length c.args.emits.items ≡ 0 = search rules in
    subst (λ (u : State). Marks c.args.nodes.now u all (all_but c.args.node) c.args.self.now) (quiet_emits s c.args.node c.args.emits.items none) m

pub note_readers-requires : goal.note_readers-requires
note_readers-requires c =
    let q = c.requires in let ns = c.args.nodes.now in let x = c.index_mut.result.now in
    let n = c.in_ok-emit_all.ensures (node_in ns c.args.node) (q.state.spots c.args.node) (state_is ns q.state c.args.self.now q.shows c.args.node x q.below c.index_mut.ensures.value) in
    let sp = emits_all_on (q.state.spots c.args.node) (emits_of c.args.emits.items) in
    record { state = with_spot q.state c.args.node sp; shows = spot_shows ns q.state c.args.self.now _ c.args.node c.emit_all.new.self sp q.below refl refl refl refl q.shows refl n; below = q.below }

pub returns : goal.returns
returns c s m still =
    let ns = c.args.nodes.now in let x = c.index_mut.result.now in let l = c.requires.below in
    let n = c.in_ok-emit_all.ensures (node_in ns c.args.node) (s.spots c.args.node) (state_is ns s c.args.self.now m.shows c.args.node x l c.index_mut.ensures.value) in
    let sp = emits_all_on (s.spots c.args.node) (emits_of c.args.emits.items) in
    c.note_readers.ensures (with_spot s c.args.node sp) (all_but c.args.node) (emits_done ns s c.args.self.now _ c.args.node c.emit_all.new.self sp l refl refl refl refl m still still refl n)
