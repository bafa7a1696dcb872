use Rattle.std.proofs.Common.{subst, sym}
use Rattle.nf_graph.specs.WellMade.{plain_graph}
use Rattle.nf_machine.specs.declared.event.Event.TheVariants as e
use Rattle.nf_machine.specs.Event.{halt}
use Rattle.nf_machine.specs.Step.{step}
use Rattle.nf_flow.specs.Flow.{state_in}
use Rattle.nf_machine.specs.declared.stop.Stop.TheVariants as stop
use Rattle.nf_flow.specs.Log.{HasPlace, IsAdded}
use Rattle.nf_flow.specs.Stopped.{first_stop}
use Rattle.nf_flow.specs.declared.log.Log.{Log}
use Rattle.nf_flow.specs.declared.stopped.Stopped.TheVariants as st
use Rattle.nf_flow.specs.Parts.{IsParts}
use Rattle.nf_flow.proofs.Calling.{take_below}
use Rattle.nf_flow.proofs.Flowing.{flow_halted}
use Rattle.nf_flow.proofs.Growth.{room_place}
use Rattle.nf_flow.proofs.Running.{grown_by, has_room, may_take, new_flies, new_left_again, parts_in, stands_to_take, took_flies, took_flow, took_number, took_seen}
use Rattle.nf_flow.proofs.flow.Flow.take.Goals as goal

pub take-requires : goal.take-requires
take-requires c =
    let f = c.self.inside in
    stands_to_take f.graph f.parts f.log c.args.self.now c.self.view_is c.self.invariant c.nodes-nodes.result.now c.nodes-nodes.ensures.nodes c.args.node c.args.port c.args.place c.requires.legal
    c.numbers_are_small.ensures c.nodes-nodes.ensures.well_made

pub halt-requires : goal.halt-requires
halt-requires c = let f = c.self.inside in room_place f.graph f.parts f.log c.self.invariant (has_room f.graph f.parts f.log c.args.self.now c.self.view_is c.self.invariant c.requires.room)

pub invariant_of-self : goal.invariant_of-self
invariant_of-self c =
    let f = c.self.inside in let z = c.args.self.now in let v = c.self.view_is in let h = c.self.invariant in let s = state_in f.graph f.log in
    let ns = c.nodes-nodes.result.now in let same = c.nodes-nodes.ensures.nodes in
    let may = may_take f.graph f.parts f.log z v h ns same c.args.node c.args.port c.args.place c.requires.legal in
    let told = c.in_default.ensures s (parts_in f.graph f.parts f.log z v h ns same) may in
    flow_halted f.graph f.parts c.take.new.self f.log c.halt.new.self h may.running c.halt.ensures (subst (λ gs. IsParts gs (step (plain_graph gs) s halt) c.take.new.self) same told)

pub returns-in_default-clause-err : goal.returns-in_default-clause-err
returns-in_default-clause-err c = let f = c.self.inside in grown_by f.graph f.parts f.log c.args.self.now c.self.view_is c.self.invariant c.halt.new.self _ _ c.halt.ensures

pub bounds-nodes-node : goal.bounds-nodes-node
bounds-nodes-node c =
    let f = c.self.inside in let ns = c.nodes-nodes.result.now in
    take_below ns f.parts c.args.node c.args.port c.args.place
    (stands_to_take f.graph f.parts f.log c.args.self.now c.self.view_is c.self.invariant ns c.nodes-nodes.ensures.nodes c.args.node c.args.port c.args.place c.requires.legal
    c.numbers_are_small.ensures c.nodes-nodes.ensures.well_made)

pub leave-requires : goal.leave-requires
leave-requires c =
    let f = c.self.inside in let z = c.args.self.now in let v = c.self.view_is in let h = c.self.invariant in let s = state_in f.graph f.log in
    let ns = c.nodes-nodes.result.now in let same = c.nodes-nodes.ensures.nodes in
    let may = may_take f.graph f.parts f.log z v h ns same c.args.node c.args.port c.args.place c.requires.legal in
    let parts = parts_in f.graph f.parts f.log z v h ns same in
    new_flies ns s f.parts c.take.new.self parts c.args.node c.args.port c.args.place may c.in-Ok.ticket c.number-number.result c.number-number.ensures (c.in-Ok.ensures s parts may)

pub halt-requires-in_default-keep : goal.halt-requires-in_default-keep
halt-requires-in_default-keep c =
    let f = c.self.inside in
    subst HasPlace (sym c.in_default-keep.ensures.err) (room_place f.graph f.parts f.log c.self.invariant (has_room f.graph f.parts f.log c.args.self.now c.self.view_is c.self.invariant c.requires.room))

pub invariant_of-self-in_default-keep : goal.invariant_of-self-in_default-keep
invariant_of-self-in_default-keep c =
    let f = c.self.inside in let z = c.args.self.now in let v = c.self.view_is in let h = c.self.invariant in let s = state_in f.graph f.log in
    let ns = c.nodes-nodes.result.now in let same = c.nodes-nodes.ensures.nodes in
    let may = may_take f.graph f.parts f.log z v h ns same c.args.node c.args.port c.args.place c.requires.legal in
    let parts = parts_in f.graph f.parts f.log z v h ns same in
    let told = c.in-Ok.ensures s parts may in
    let after = new_left_again ns s f.parts c.take.new.self parts c.args.node c.args.port c.args.place may c.in-Ok.ticket c.number-number.result c.number-number.ensures told c.leave.new.self c.leave.ensures.after c.leave.ensures.nodes in
    flow_halted f.graph f.parts (record c.take.new.self { flights = c.leave.new.self }) f.log c.halt-in_default-keep.new.self h may.running
    (subst (λ (l : Log). IsAdded l e.Halt (first_stop l.stop (st.Own stop.Mem)) c.halt-in_default-keep.new.self) c.in_default-keep.ensures.err c.halt-in_default-keep.ensures)
    (subst (λ gs. IsParts gs (step (plain_graph gs) s halt) (record c.take.new.self { flights = c.leave.new.self })) same after)

pub returns-in_default-keep-clause-err : goal.returns-in_default-keep-clause-err
returns-in_default-keep-clause-err c =
    let f = c.self.inside in
    grown_by f.graph f.parts f.log c.args.self.now c.self.view_is c.self.invariant c.halt-in_default-keep.new.self _ _
    (subst (λ (l : Log). IsAdded l e.Halt (first_stop l.stop (st.Own stop.Mem)) c.halt-in_default-keep.new.self) c.in_default-keep.ensures.err c.halt-in_default-keep.ensures)

pub add-requires : goal.add-requires
add-requires c =
    let f = c.self.inside in
    subst HasPlace (sym c.in-Ok-keep.ensures.ok) (room_place f.graph f.parts f.log c.self.invariant (has_room f.graph f.parts f.log c.args.self.now c.self.view_is c.self.invariant c.requires.room))

pub invariant_of-self-2 : goal.invariant_of-self-2
invariant_of-self-2 c =
    let f = c.self.inside in let z = c.args.self.now in let v = c.self.view_is in let h = c.self.invariant in let s = state_in f.graph f.log in
    let ns = c.nodes-nodes.result.now in let same = c.nodes-nodes.ensures.nodes in let i = c.args.node in let port = c.args.port in let place = c.args.place in
    let may = may_take f.graph f.parts f.log z v h ns same i port place c.requires.legal in
    let told = c.in-Ok.ensures s (parts_in f.graph f.parts f.log z v h ns same) may in
    took_flow f.graph f.parts f.log z v h ns same i port place may c.in-Ok.ticket c.take.new.self told c.index-nodes-node.result c.inputs.result.now c.number-number.result c.n.result c.keep.new.self c.add.new.self
    c.index-nodes-node.is c.inputs.ensures c.number-number.ensures c.n.ensures c.in-Ok-keep.ensures.ok c.add.ensures (has_room f.graph f.parts f.log z v h c.requires.room)

pub returns-clause-ok : goal.returns-clause-ok
returns-clause-ok c =
    let f = c.self.inside in let z = c.args.self.now in let v = c.self.view_is in let h = c.self.invariant in let s = state_in f.graph f.log in
    let ns = c.nodes-nodes.result.now in let same = c.nodes-nodes.ensures.nodes in let i = c.args.node in let port = c.args.port in let place = c.args.place in
    let may = may_take f.graph f.parts f.log z v h ns same i port place c.requires.legal in
    let told = c.in-Ok.ensures s (parts_in f.graph f.parts f.log z v h ns same) may in
    took_seen f.graph f.parts f.log z v h ns same i port place may c.in-Ok.ticket c.take.new.self told c.index-nodes-node.result c.inputs.result.now c.number-number.result c.n.result c.keep.new.self c.add.new.self
    c.index-nodes-node.is c.inputs.ensures c.number-number.ensures c.n.ensures c.in-Ok-keep.ensures.ok c.add.ensures

pub returns-clause-ticket : goal.returns-clause-ticket
returns-clause-ticket c =
    let f = c.self.inside in let z = c.args.self.now in let v = c.self.view_is in let h = c.self.invariant in let s = state_in f.graph f.log in
    let ns = c.nodes-nodes.result.now in let same = c.nodes-nodes.ensures.nodes in let i = c.args.node in let port = c.args.port in let place = c.args.place in
    let may = may_take f.graph f.parts f.log z v h ns same i port place c.requires.legal in
    let told = c.in-Ok.ensures s (parts_in f.graph f.parts f.log z v h ns same) may in
    took_flies f.graph f.parts f.log z v h ns same i port place may c.in-Ok.ticket c.take.new.self told c.index-nodes-node.result c.inputs.result.now c.number-number.result c.n.result c.keep.new.self c.add.new.self
    c.index-nodes-node.is c.inputs.ensures c.number-number.ensures c.n.ensures c.in-Ok-keep.ensures.ok c.add.ensures

pub returns-clause-number : goal.returns-clause-number
returns-clause-number c =
    let f = c.self.inside in let z = c.args.self.now in let v = c.self.view_is in let h = c.self.invariant in let s = state_in f.graph f.log in
    let ns = c.nodes-nodes.result.now in let same = c.nodes-nodes.ensures.nodes in let i = c.args.node in let port = c.args.port in let place = c.args.place in
    let may = may_take f.graph f.parts f.log z v h ns same i port place c.requires.legal in
    let told = c.in-Ok.ensures s (parts_in f.graph f.parts f.log z v h ns same) may in
    took_number f.graph f.parts f.log z v h ns same i port place may c.in-Ok.ticket c.take.new.self told c.index-nodes-node.result c.inputs.result.now c.number-number.result c.n.result c.keep.new.self c.add.new.self
    c.index-nodes-node.is c.inputs.ensures c.number-number.ensures c.n.ensures c.in-Ok-keep.ensures.ok c.add.ensures
