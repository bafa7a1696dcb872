use Rattle.std.proofs.Common.{subst}
use Rattle.nf_graph.specs.WellMade.{plain_graph}
use Rattle.nf_machine.specs.declared.event.Event.TheVariants as e
use Rattle.nf_machine.specs.Event.{event_of, halt}
use Rattle.nf_machine.specs.Step.{step}
use Rattle.nf_flow.specs.Flow.{state_in}
use Rattle.nf_flow.specs.Parts.{IsParts, Leads}
use Rattle.nf_flow.proofs.Flowing.{flow_event, flow_halted}
use Rattle.nf_flow.proofs.Growth.{room_place}
use Rattle.nf_flow.proofs.Running.{grown_by, has_room, legal_in, parts_in, stands_in}
use Rattle.nf_flow.proofs.flow.Flow.close.Goals as goal

pub close-requires : goal.close-requires
close-requires c =
    let f = c.self.inside in
    stands_in f.graph f.parts f.log c.args.self.now c.self.view_is c.self.invariant c.numbers_are_small.ensures c.nodes-nodes.result.now c.nodes-nodes.ensures.nodes c.nodes-nodes.ensures.well_made (e.Close c.args.node) c.requires.legal

pub halt-requires : goal.halt-requires
halt-requires c = let f = c.self.inside in room_place f.graph f.parts f.log c.self.invariant (has_room f.graph f.parts f.log c.args.self.now c.self.view_is c.self.invariant c.requires.room)

pub add-requires : goal.add-requires
add-requires c = let f = c.self.inside in room_place f.graph f.parts f.log c.self.invariant (has_room f.graph f.parts f.log c.args.self.now c.self.view_is c.self.invariant c.requires.room)

pub invariant_of-self : goal.invariant_of-self
invariant_of-self c =
    let f = c.self.inside in let z = c.args.self.now in let v = c.self.view_is in let h = c.self.invariant in let s = state_in f.graph f.log in
    let ns = c.nodes-nodes.result.now in let same = c.nodes-nodes.ensures.nodes in let x = e.Close c.args.node in
    let legal = legal_in f.graph f.parts f.log z v h ns same x c.requires.legal in
    let told = c.in_default.ensures s (parts_in f.graph f.parts f.log z v h ns same) legal in
    flow_halted f.graph f.parts c.close.new.self f.log c.halt.new.self h legal.running c.halt.ensures
    (subst (λ gs. IsParts gs (step (plain_graph gs) s halt) c.close.new.self) same told)

pub returns-in_default-clause-err : goal.returns-in_default-clause-err
returns-in_default-clause-err c = let f = c.self.inside in grown_by f.graph f.parts f.log c.args.self.now c.self.view_is c.self.invariant c.halt.new.self _ _ c.halt.ensures

pub invariant_of-self-2 : goal.invariant_of-self-2
invariant_of-self-2 c =
    let f = c.self.inside in let z = c.args.self.now in let v = c.self.view_is in let h = c.self.invariant in let s = state_in f.graph f.log in
    let ns = c.nodes-nodes.result.now in let same = c.nodes-nodes.ensures.nodes in let x = e.Close c.args.node in
    let legal = legal_in f.graph f.parts f.log z v h ns same x c.requires.legal in
    let told = c.in-Ok.ensures s (parts_in f.graph f.parts f.log z v h ns same) legal in
    flow_event f.graph f.parts c.close.new.self f.log c.add.new.self x c.in-Ok.stop tt h (has_room f.graph f.parts f.log z v h c.requires.room) c.add.ensures
    (subst (λ gs. Leads gs s (step (plain_graph gs) s (event_of (plain_graph gs) x)) c.in-Ok.stop c.close.new.self) same told)

pub returns-clause-ok : goal.returns-clause-ok
returns-clause-ok c = let f = c.self.inside in grown_by f.graph f.parts f.log c.args.self.now c.self.view_is c.self.invariant c.add.new.self _ _ c.add.ensures
