use Rattle.std.proofs.Common.{ap, refl, subst, sym, ◌∙◌}
use Rattle.nf_graph.specs.WellMade.{plain_graph}
use Rattle.nf_machine.specs.declared.event.Event.TheVariants as e
use Rattle.nf_machine.specs.Event.{finish}
use Rattle.nf_machine.specs.Step.{step}
use Rattle.nf_flight.specs.Ticket.{number_of}
use Rattle.nf_flow.specs.Seen.{MayAdd, grown, lost}
use Rattle.nf_flow.specs.Flow.{state_in}
use Rattle.nf_flow.specs.Parts.{Leads}
use Rattle.nf_flow.proofs.Calling.{few_attempts}
use Rattle.nf_flow.proofs.Flowing.{flow_event}
use Rattle.nf_flow.proofs.Growth.{room_place, ticket_place}
use Rattle.nf_flow.proofs.Running.{back_flies, bounded_in, grown_by, has_room, lost_flow, parts_in, some_flight, stands_to_end, state_after, there_now}
use Rattle.nf_flow.proofs.Standing.{stopped_told}
use Rattle.nf_flow.proofs.flow.Flow.reuse.Goals as goal

pub end-requires : goal.end-requires
end-requires g c =
    let f = c.self.inside in let z = c.args.self.now in let v = c.self.view_is in let h = c.self.invariant in let t = c.args.ticket in
    let x = e.Reuse (number_of t) c.args.report c.args.outs in let m : MayAdd z x = record { rules = _; allows = c.requires.legal } in
    stands_to_end f.graph f.parts f.log z v h c.nodes-nodes.result.now c.nodes-nodes.ensures.nodes x m t c.requires.ticket c.numbers_are_small.ensures c.nodes-nodes.ensures.well_made c.is_stopped-is_stopped.result c.is_stopped-is_stopped.ensures

pub lose-requires : goal.lose-requires
lose-requires g c =
    let f = c.self.inside in let t = c.args.ticket in
    ticket_place f.graph f.parts f.log c.self.invariant (some_flight f.graph f.parts f.log c.args.self.now c.self.view_is c.self.invariant (number_of t) t refl c.requires.ticket)

pub invariant_of-self : goal.invariant_of-self
invariant_of-self g c =
    let f = c.self.inside in let z = c.args.self.now in let v = c.self.view_is in let h = c.self.invariant in let s = state_in f.graph f.log in
    let t = c.args.ticket in let k = c.requires.ticket in let ns = c.nodes-nodes.result.now in let same = c.nodes-nodes.ensures.nodes in
    let x = e.Reuse (number_of t) c.args.report c.args.outs in let m : MayAdd z x = record { rules = _; allows = c.requires.legal } in
    let told = c.in_default.ensures s k.ticket c.args.report (parts_in f.graph f.parts f.log z v h ns same) (bounded_in f.graph f.parts f.log z v h c.numbers_are_small.ensures ns same c.nodes-nodes.ensures.well_made x m)
    (there_now f.graph f.parts f.log z v h ns same x m t k) k.is (c.is_stopped-is_stopped.ensures ∙ stopped_told f.log.history.items f.log.stop s.stop h.stop) in
    lost_flow f.graph f.parts f.log z v h ns same x m t k c.end.new.self c.lose.new.self c.number-number.result _ c.number-number.ensures refl c.lose.ensures told

pub returns-in_default-clause-err : goal.returns-in_default-clause-err
returns-in_default-clause-err g c =
    let f = c.self.inside in let z = c.args.self.now in
    grown_by f.graph f.parts f.log z c.self.view_is c.self.invariant c.lose.new.self _ _ c.lose.ensures ∙ ap (λ q. grown z (lost q)) c.number-number.ensures

pub come_back-back-requires : goal.come_back-back-requires
come_back-back-requires g c =
    let f = c.self.inside in let z = c.args.self.now in let v = c.self.view_is in let h = c.self.invariant in let t = c.args.ticket in
    let x = e.Reuse (number_of t) c.args.report c.args.outs in let m : MayAdd z x = record { rules = _; allows = c.requires.legal } in
    few_attempts c.nodes-nodes.result.now f.parts t c.is_stopped-is_stopped.result
    (stands_to_end f.graph f.parts f.log z v h c.nodes-nodes.result.now c.nodes-nodes.ensures.nodes x m t c.requires.ticket c.numbers_are_small.ensures c.nodes-nodes.ensures.well_made c.is_stopped-is_stopped.result c.is_stopped-is_stopped.ensures)

pub add-requires : goal.add-requires
add-requires g c = let f = c.self.inside in room_place f.graph f.parts f.log c.self.invariant (has_room f.graph f.parts f.log c.args.self.now c.self.view_is c.self.invariant c.requires.room)

pub invariant_of-self-2 : goal.invariant_of-self-2
invariant_of-self-2 g c =
    let f = c.self.inside in let z = c.args.self.now in let v = c.self.view_is in let h = c.self.invariant in let s = state_in f.graph f.log in
    let t = c.args.ticket in let k = c.requires.ticket in let ns = c.nodes-nodes.result.now in let same = c.nodes-nodes.ensures.nodes in
    let x = e.Reuse (number_of t) c.args.report c.args.outs in let m : MayAdd z x = record { rules = _; allows = c.requires.legal } in
    let told = c.in-Ok.ensures s k.ticket c.args.report (parts_in f.graph f.parts f.log z v h ns same) (bounded_in f.graph f.parts f.log z v h c.numbers_are_small.ensures ns same c.nodes-nodes.ensures.well_made x m)
    (there_now f.graph f.parts f.log z v h ns same x m t k) k.is (c.is_stopped-is_stopped.ensures ∙ stopped_told f.log.history.items f.log.stop s.stop h.stop) in
    let here = subst (λ gs. Leads gs s (step (plain_graph gs) s (finish (number_of t) c.args.report c.args.outs)) c.in-Ok.stop c.end.new.self) same told in
    flow_event f.graph f.parts c.end.new.self f.log c.add.new.self (e.Reuse c.number-number.result c.args.report c.args.outs) c.in-Ok.stop tt h (has_room f.graph f.parts f.log z v h c.requires.room) c.add.ensures
    (subst (λ q. Leads f.graph s (step (plain_graph f.graph) s (finish q c.args.report c.args.outs)) c.in-Ok.stop c.end.new.self) (sym c.number-number.ensures) here)

pub returns-clause-ok : goal.returns-clause-ok
returns-clause-ok g c =
    let f = c.self.inside in let z = c.args.self.now in
    grown_by f.graph f.parts f.log z c.self.view_is c.self.invariant c.add.new.self _ _ c.add.ensures ∙ ap (λ q. grown z (e.Reuse q c.args.report c.args.outs)) c.number-number.ensures

pub returns-clause-ticket : goal.returns-clause-ticket
returns-clause-ticket g c = c.come_back-back.ensures

pub returns-clause-flying : goal.returns-clause-flying
returns-clause-flying g c =
    let f = c.self.inside in let z = c.args.self.now in let v = c.self.view_is in let h = c.self.invariant in let s = state_in f.graph f.log in
    let t = c.args.ticket in let k = c.requires.ticket in let ns = c.nodes-nodes.result.now in let same = c.nodes-nodes.ensures.nodes in
    let state = state_after f.graph f.log c.add.new.self (e.Reuse c.number-number.result c.args.report c.args.outs) _ c.add.ensures ∙ ap (λ q. step (plain_graph f.graph) s (finish q c.args.report c.args.outs)) c.number-number.ensures in
    back_flies f.graph f.parts f.log z v h t k c.args.report c.args.outs c.come_back-back.result c.come_back-back.ensures _ state
