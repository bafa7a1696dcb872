use Rattle.std.proofs.Common.{ap, ◌∙◌}
use Rattle.std.specs.Prelude.{None}
use Rattle.nf_machine.specs.declared.event.Event.TheVariants as e
use Rattle.nf_flight.specs.Ticket.{number_of}
use Rattle.nf_flow.specs.Seen.{grown}
use Rattle.nf_flow.specs.Flow.{state_in}
use Rattle.nf_flow.proofs.Ending.{started}
use Rattle.nf_flow.proofs.Flowing.{flow_event}
use Rattle.nf_flow.proofs.Growth.{room_place}
use Rattle.nf_flow.proofs.Running.{flying_in, grown_by, has_room, there_in}
use Rattle.nf_flow.proofs.flow.Flow.start.Goals as goal

pub start-requires : goal.start-requires
start-requires c = let f = c.self.inside in flying_in f.graph f.parts f.log c.args.self.now c.self.view_is c.self.invariant c.number-number.result c.args.ticket.now c.number-number.ensures c.requires.ticket

pub add-requires : goal.add-requires
add-requires c = let f = c.self.inside in room_place f.graph f.parts f.log c.self.invariant (has_room f.graph f.parts f.log c.args.self.now c.self.view_is c.self.invariant c.requires.room)

pub invariant_of-self : goal.invariant_of-self
invariant_of-self c =
    let f = c.self.inside in let z = c.args.self.now in let v = c.self.view_is in let h = c.self.invariant in
    let n = c.number-number.result in let k = c.requires.ticket in let s = state_in f.graph f.log in
    let there = there_in f.graph f.parts f.log z v h n (number_of c.args.ticket.now) k.ticket c.number-number.ensures k.there in
    let l = started f.graph s f.parts h.parts n k.ticket there c.tickets_change.ensures c.args.cause c.start.new.self (c.start.ensures.after h.parts.next s.tickets k.ticket h.parts.flights there) c.start.ensures.nodes in
    flow_event f.graph f.parts _ f.log c.add.new.self (e.Start n c.args.cause) None tt h (has_room f.graph f.parts f.log z v h c.requires.room) c.add.ensures l

pub returns : goal.returns
returns c =
    let f = c.self.inside in let z = c.args.self.now in
    grown_by f.graph f.parts f.log z c.self.view_is c.self.invariant c.add.new.self _ _ c.add.ensures ∙ ap (λ m. grown z (e.Start m c.args.cause)) c.number-number.ensures
