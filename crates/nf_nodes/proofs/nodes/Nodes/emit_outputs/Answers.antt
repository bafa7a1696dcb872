use Rattle.std.proofs.Common.{refl, subst, sym}
use Rattle.std.specs.Prelude.{Ok}
use Rattle.nf_job.specs.declared.emitted.Outputs.TheVariants.{Emits}
use Rattle.nf_graph.specs.WellMade.{node_in}
use Rattle.nf_machine.specs.State.{State}
use Rattle.nf_machine.specs.Step.{with_spot}
use Rattle.nf_spot.specs.Spot.{outs_on}
use Rattle.nf_nodes.specs.Marks.{all, all_but}
use Rattle.nf_nodes.specs.Nodes.{Marks}
use Rattle.nf_nodes.proofs.Giving.{emits_done, quiet_outs, spot_shows}
use Rattle.nf_nodes.proofs.Showing.{state_is}
use Rattle.nf_nodes.proofs.nodes.Nodes.emit_outputs.Goals as goal

pub note_readers-requires : goal.note_readers-requires
note_readers-requires c =
    let q = c.requires in let ns = c.args.nodes.now in let x = c.index_mut.result.now in
    let n = c.in_ok-emit_outputs-in-Emits.ensures (node_in ns c.args.node) (q.state.spots c.args.node) (state_is ns q.state c.args.self.now q.shows c.args.node x q.below c.index_mut.ensures.value) in
    let sp = outs_on (q.state.spots c.args.node) (Ok (Emits c.in-Emits.values)) in
    record { state = with_spot q.state c.args.node sp; shows = spot_shows ns q.state c.args.self.now _ c.args.node c.emit_outputs.new.self sp q.below refl refl refl refl q.shows refl n; below = q.below }

pub returns-in_ok-emit_outputs-in-Emits : goal.returns-in_ok-emit_outputs-in-Emits
returns-in_ok-emit_outputs-in-Emits c s m still =
    let ns = c.args.nodes.now in let x = c.index_mut.result.now in let l = c.requires.below in
    let n = c.in_ok-emit_outputs-in-Emits.ensures (node_in ns c.args.node) (s.spots c.args.node) (state_is ns s c.args.self.now m.shows c.args.node x l c.index_mut.ensures.value) in
    let sp = outs_on (s.spots c.args.node) (Ok (Emits c.in-Emits.values)) in
    let a = c.note_readers.ensures (with_spot s c.args.node sp) (all_but c.args.node) (emits_done ns s c.args.self.now _ c.args.node c.emit_outputs.new.self sp l refl refl refl refl m still still refl n) in
    subst (λ o. Marks ns (with_spot s c.args.node (outs_on (s.spots c.args.node) (Ok o))) all (all_but c.args.node) c.note_readers.new.self) (sym c.in-Emits.is) a

pub returns-in_default : goal.returns-in_default
returns-in_default c s m still = subst (λ (u : State). Marks c.args.nodes.now u all (all_but c.args.node) c.args.self.now) (quiet_outs s c.args.node c.args.outputs.now c.in_default.not-Emits) m
