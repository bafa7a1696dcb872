use Rattle.std.proofs.Common.{sym, ◌∙◌, refl}
use Rattle.nf_flow.proofs.Calling.{can_take, few_tickets, has_tickets, new_ticket, node_in_flight}
use Rattle.nf_flow.specs.Parts.{taken_ticket}
use Rattle.nf_flow.proofs.Moving.{halted, stopped_parts, some_stop, takes_err, took}
use Rattle.nf_flow.proofs.parts.Parts.take.Goals as goal

pub take-requires : goal.take-requires
take-requires c = can_take c.args.nodes.now c.args.self.now c.args.node c.args.port c.args.place c.requires

pub add-requires-clause-shows : goal.add-requires-clause-shows
add-requires-clause-shows c = has_tickets c.args.nodes.now c.args.self.now c.args.node c.args.port c.args.place c.requires

pub add-requires-clause-node : goal.add-requires-clause-node
add-requires-clause-node c = node_in_flight c.args.nodes.now c.args.self.now c.args.node c.args.port c.args.place c.requires

pub add-requires-clause-number : goal.add-requires-clause-number
add-requires-clause-number c = few_tickets c.args.nodes.now c.args.self.now c.args.node c.args.port c.args.place c.requires

pub returns-in_err-taken : goal.returns-in_err-taken
returns-in_err-taken c s h may = takes_err c.args.nodes.now s c.args.node c.args.port c.args.place _ _ c.from_residual.ensures.0 (halted c.args.nodes.now s c.args.self.now h _ refl refl)

pub returns-in_err-number : goal.returns-in_err-number
returns-in_err-number c s h may = takes_err c.args.nodes.now s c.args.node c.args.port c.args.place _ _ c.from_residual-in_err-number.ensures.0
    (stopped_parts c.args.nodes.now _ _ h.next (c.in_err-number.ensures.unchanged h.next s.tickets h.flights) (c.in_err-number.ensures.nodes ∙ h.count) h.open_is (some_stop _))

pub returns : goal.returns
returns c s h may =
    let ns = c.args.nodes.now in let i = c.args.node in
    let number = c.in_ok-number.ensures.number ∙ h.flights.next_is ∙ h.next_is may.running in
    let k = taken_ticket ns s i c.args.port c.args.place in
    took ns s c.args.self.now h i c.args.port c.args.place may c.take.new.self c.add.new.self c.new.result (c.in_ok-taken.ensures.after s (h.nodes_are may.running) may)
    (c.in_ok-number.ensures.after h.next s.tickets k h.flights (sym (h.next_is may.running)) refl refl refl) c.in_ok-number.ensures.nodes
    (new_ticket ns s i c.args.port c.args.place c.new.result c.in_ok-taken.taken may (c.new.ensures.number ∙ number) c.new.ensures.node c.new.ensures.port c.new.ensures.inputs c.new.ensures.n c.new.ensures.attempt
    (c.in_ok-taken.ensures.taken s (h.nodes_are may.running) may))
