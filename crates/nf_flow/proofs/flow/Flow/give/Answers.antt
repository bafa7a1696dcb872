use Rattle.std.proofs.Common.{ap, refl, subst, sym, ◌∙◌}
use Rattle.std.specs.Prelude.{Err, Ok}
use Rattle.nf_value.specs.View.{plain_of}
use Rattle.nf_graph.specs.WellMade.{plain_graph}
use Rattle.nf_machine.specs.declared.event.Event.TheVariants as e
use Rattle.nf_machine.specs.Event.{give}
use Rattle.nf_machine.specs.Step.{step}
use Rattle.nf_flight.specs.Ticket.{number_of}
use Rattle.nf_flow.specs.Seen.{MayAdd, grown, lost}
use Rattle.nf_flow.specs.Flow.{state_in}
use Rattle.nf_flow.specs.Parts.{IsParts, Leads, losing}
use Rattle.nf_flow.proofs.Ending.{item_failed, lost_parts}
use Rattle.nf_flow.proofs.Flowing.{flow_event}
use Rattle.nf_flow.proofs.Growth.{room_place, ticket_place}
use Rattle.nf_flow.proofs.Running.{bounded_in, flying_in, give_legal, grown_by, has_one, has_room, item_there, lost_flow, parts_in, some_flight, stands_to_give, there_in}
use Rattle.nf_flow.proofs.flow.Flow.give.Goals as goal

pub sole_input-item-requires : goal.sole_input-item-requires
sole_input-item-requires g c =
    let f = c.self.inside in let z = c.args.self.now in let v = c.self.view_is in let h = c.self.invariant in let s = state_in f.graph f.log in
    let t = c.args.ticket in let k = c.requires.ticket in let ns = c.nodes-nodes.result.now in let same = c.nodes-nodes.ensures.nodes in
    let x = e.Give (number_of t) c.args.answer in let m : MayAdd z x = record { rules = _; allows = c.requires.legal } in
    has_one f.graph f.parts f.log z v h t k c.args.answer m c.operators_take_one_item.ensures c.nodes-nodes.ensures.well_made

pub leave-requires : goal.leave-requires
leave-requires g c = let f = c.self.inside in flying_in f.graph f.parts f.log c.args.self.now c.self.view_is c.self.invariant c.number-number.result c.args.ticket c.number-number.ensures c.requires.ticket

pub add-requires : goal.add-requires
add-requires g c = let f = c.self.inside in room_place f.graph f.parts f.log c.self.invariant (has_room f.graph f.parts f.log c.args.self.now c.self.view_is c.self.invariant c.requires.room)

pub invariant_of-self : goal.invariant_of-self
invariant_of-self g c =
    let f = c.self.inside in let z = c.args.self.now in let v = c.self.view_is in let h = c.self.invariant in let s = state_in f.graph f.log in
    let t = c.args.ticket in let k = c.requires.ticket in let ns = c.nodes-nodes.result.now in let same = c.nodes-nodes.ensures.nodes in
    let x = e.Give (number_of t) c.args.answer in let m : MayAdd z x = record { rules = _; allows = c.requires.legal } in
    let item = item_there f.graph f.parts f.log z v h t k c.args.answer m c.operators_take_one_item.ensures c.nodes-nodes.ensures.well_made c.number-number.result c.node-node.result c.port-port.result (plain_of c.sole_input-item.result)
    c.number-number.ensures c.node-node.ensures c.port-port.ensures c.sole_input-item.ensures in
    flow_event f.graph f.parts _ f.log c.add.new.self (e.Give c.number-number.result (Err c.in-Err.fault)) _ tt h (has_room f.graph f.parts f.log z v h c.requires.room) c.add.ensures
    (item_failed f.graph s f.parts h.parts c.number-number.result k.ticket c.node-node.result c.port-port.result c.sole_input-item.result c.in-Err.fault item c.leave.new.self
    (c.leave.ensures.after h.parts.next s.tickets k.ticket h.parts.flights item.there) c.leave.ensures.nodes)

pub returns-in-Err-clause-ok : goal.returns-in-Err-clause-ok
returns-in-Err-clause-ok g c =
    let f = c.self.inside in let z = c.args.self.now in
    grown_by f.graph f.parts f.log z c.self.view_is c.self.invariant c.add.new.self _ _ c.add.ensures ∙ ap (λ q. grown z (e.Give q (Err c.in-Err.fault))) c.number-number.ensures
    ∙ ap (λ a. grown z (e.Give (number_of c.args.ticket) a)) (sym c.in-Err.is)

pub leave-requires-in_default : goal.leave-requires-in_default
leave-requires-in_default g c = let f = c.self.inside in flying_in f.graph f.parts f.log c.args.self.now c.self.view_is c.self.invariant c.number-number.result c.args.ticket c.number-number.ensures c.requires.ticket

pub lose-requires : goal.lose-requires
lose-requires g c =
    let f = c.self.inside in let t = c.args.ticket in
    ticket_place f.graph f.parts f.log c.self.invariant (some_flight f.graph f.parts f.log c.args.self.now c.self.view_is c.self.invariant (number_of t) t refl c.requires.ticket)

pub invariant_of-self-in_default : goal.invariant_of-self-in_default
invariant_of-self-in_default g c =
    let f = c.self.inside in let z = c.args.self.now in let v = c.self.view_is in let h = c.self.invariant in let s = state_in f.graph f.log in
    let t = c.args.ticket in let k = c.requires.ticket in let ns = c.nodes-nodes.result.now in let same = c.nodes-nodes.ensures.nodes in
    let x = e.Give (number_of t) c.args.answer in let m : MayAdd z x = record { rules = _; allows = c.requires.legal } in
    let n = c.number-number.result in let there = there_in f.graph f.parts f.log z v h n (number_of t) k.ticket c.number-number.ensures k.there in
    let lost_at = lost_parts f.graph s f.parts h.parts n k.ticket there (record f.parts { flights = c.leave-in_default.new.self }) (c.leave-in_default.ensures.after h.parts.next s.tickets k.ticket h.parts.flights there) c.leave-in_default.ensures.nodes refl in
    lost_flow f.graph f.parts f.log z v h f.graph refl x m t k (record f.parts { flights = c.leave-in_default.new.self }) c.lose.new.self n _ c.number-number.ensures refl c.lose.ensures
    (subst (λ q. IsParts f.graph (step (plain_graph f.graph) s (losing q)) (record f.parts { flights = c.leave-in_default.new.self })) c.number-number.ensures lost_at)

pub returns-in_default-clause-err : goal.returns-in_default-clause-err
returns-in_default-clause-err g c =
    let f = c.self.inside in let z = c.args.self.now in
    grown_by f.graph f.parts f.log z c.self.view_is c.self.invariant c.lose.new.self _ _ c.lose.ensures ∙ ap (λ q. grown z (lost q)) c.number-number.ensures

pub give-requires : goal.give-requires
give-requires g c =
    let f = c.self.inside in let z = c.args.self.now in let v = c.self.view_is in let h = c.self.invariant in let s = state_in f.graph f.log in
    let t = c.args.ticket in let k = c.requires.ticket in let ns = c.nodes-nodes.result.now in let same = c.nodes-nodes.ensures.nodes in
    let x = e.Give (number_of t) c.args.answer in let m : MayAdd z x = record { rules = _; allows = c.requires.legal } in
    stands_to_give f.graph f.parts f.log z v h t k c.args.answer m c.numbers_are_small.ensures c.nodes-nodes.ensures.well_made ns same c.number-number.result c.node-node.result c.number-number.ensures c.node-node.ensures

pub lose-requires-in_default-give : goal.lose-requires-in_default-give
lose-requires-in_default-give g c =
    let f = c.self.inside in let t = c.args.ticket in
    ticket_place f.graph f.parts f.log c.self.invariant (some_flight f.graph f.parts f.log c.args.self.now c.self.view_is c.self.invariant (number_of t) t refl c.requires.ticket)

pub invariant_of-self-in_default-give : goal.invariant_of-self-in_default-give
invariant_of-self-in_default-give g c =
    let f = c.self.inside in let z = c.args.self.now in let v = c.self.view_is in let h = c.self.invariant in let s = state_in f.graph f.log in
    let t = c.args.ticket in let k = c.requires.ticket in let ns = c.nodes-nodes.result.now in let same = c.nodes-nodes.ensures.nodes in
    let x = e.Give (number_of t) c.args.answer in let m : MayAdd z x = record { rules = _; allows = c.requires.legal } in
    let item = item_there f.graph f.parts f.log z v h t k c.args.answer m c.operators_take_one_item.ensures c.nodes-nodes.ensures.well_made c.number-number.result c.node-node.result c.port-port.result (plain_of c.sole_input-item.result)
    c.number-number.ensures c.node-node.ensures c.port-port.ensures c.sole_input-item.ensures in
    let legal = give_legal f.graph f.parts f.log z v h t k c.args.answer m in
    let told = c.in_default-give.ensures s k.ticket (parts_in f.graph f.parts f.log z v h ns same) (bounded_in f.graph f.parts f.log z v h c.numbers_are_small.ensures ns same c.nodes-nodes.ensures.well_made x m) legal.running item in
    lost_flow f.graph f.parts f.log z v h ns same x m t k c.give.new.self c.lose-in_default-give.new.self c.number-number.result _ c.number-number.ensures refl c.lose-in_default-give.ensures
    (subst (λ q. IsParts ns (step (plain_graph ns) s (losing q)) c.give.new.self) c.number-number.ensures told)

pub returns-in_default-give-clause-err : goal.returns-in_default-give-clause-err
returns-in_default-give-clause-err g c =
    let f = c.self.inside in let z = c.args.self.now in
    grown_by f.graph f.parts f.log z c.self.view_is c.self.invariant c.lose-in_default-give.new.self _ _ c.lose-in_default-give.ensures ∙ ap (λ q. grown z (lost q)) c.number-number.ensures

pub add-requires-2 : goal.add-requires-2
add-requires-2 g c = let f = c.self.inside in room_place f.graph f.parts f.log c.self.invariant (has_room f.graph f.parts f.log c.args.self.now c.self.view_is c.self.invariant c.requires.room)

pub invariant_of-self-2 : goal.invariant_of-self-2
invariant_of-self-2 g c =
    let f = c.self.inside in let z = c.args.self.now in let v = c.self.view_is in let h = c.self.invariant in let s = state_in f.graph f.log in
    let t = c.args.ticket in let k = c.requires.ticket in let ns = c.nodes-nodes.result.now in let same = c.nodes-nodes.ensures.nodes in
    let x = e.Give (number_of t) c.args.answer in let m : MayAdd z x = record { rules = _; allows = c.requires.legal } in
    let item = item_there f.graph f.parts f.log z v h t k c.args.answer m c.operators_take_one_item.ensures c.nodes-nodes.ensures.well_made c.number-number.result c.node-node.result c.port-port.result (plain_of c.sole_input-item.result)
    c.number-number.ensures c.node-node.ensures c.port-port.ensures c.sole_input-item.ensures in
    let legal = give_legal f.graph f.parts f.log z v h t k c.args.answer m in
    let told = c.in-Ok-give.ensures s k.ticket (parts_in f.graph f.parts f.log z v h ns same) (bounded_in f.graph f.parts f.log z v h c.numbers_are_small.ensures ns same c.nodes-nodes.ensures.well_made x m) legal.running item in
    let n = c.number-number.result in
    let here = subst (λ gs. Leads gs s (step (plain_graph gs) s (give n (Ok (plain_of c.in-Ok.answer)))) c.in-Ok-give.stop c.give.new.self) same told in
    flow_event f.graph f.parts c.give.new.self f.log c.add-2.new.self (e.Give n (Ok c.in-Ok-copy.kept)) c.in-Ok-give.stop tt h (has_room f.graph f.parts f.log z v h c.requires.room) c.add-2.ensures
    (subst (λ a. Leads f.graph s (step (plain_graph f.graph) s (give n (Ok (plain_of a)))) c.in-Ok-give.stop c.give.new.self) (sym c.in-Ok-copy.ensures) here)

pub returns-clause-ok : goal.returns-clause-ok
returns-clause-ok g c =
    let f = c.self.inside in let z = c.args.self.now in
    grown_by f.graph f.parts f.log z c.self.view_is c.self.invariant c.add-2.new.self _ _ c.add-2.ensures ∙ ap (λ q. grown z (e.Give q (Ok c.in-Ok-copy.kept))) c.number-number.ensures
    ∙ ap (λ a. grown z (e.Give (number_of c.args.ticket) a)) (ap Ok c.in-Ok-copy.ensures ∙ sym c.in-Ok.is)
