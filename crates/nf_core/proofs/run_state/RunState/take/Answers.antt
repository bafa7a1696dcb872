use Rattle.std.proofs.Common.{ap, arith, ◌∙◌}
use Rattle.nf_machine.specs.declared.event.Event.TheVariants as e
use Rattle.nf_flow.specs.Seen.{roomy, take_of}
use Rattle.nf_core.proofs.Events.{kept_or_halt, kept_quiet, quiet_halt, quiet_take}
use Rattle.nf_core.proofs.Legals.{grown_now, grown_on, has_room, on_err, on_ok}
use Rattle.nf_core.proofs.Viewed.{asks_take, goes_on, legal_take, runs_here, took, took_numbers}
use Rattle.nf_core.proofs.run_state.RunState.take.Goals as goal

pub halt_for_memory-requires : goal.halt_for_memory-requires
halt_for_memory-requires g c = goes_on c.make_room.new.self c.args.self.now (c.in_default.ensures.err ∙ c.self.view_is) c.requires.running

pub invariant_of-self : goal.invariant_of-self
invariant_of-self g c =
    let f = c.self.inside.flow in
    kept_quiet e.Halt c.halt_for_memory.new.self (g.K.Keeper.faults c.self.inside.keeper) c.self.invariant (quiet_halt (runs_here f c.args.self.now c.self.view_is c.requires.running)) (omega arith)
    (grown_now f c.make_room.new.self c.halt_for_memory.new.self e.Halt c.in_default.ensures.err c.halt_for_memory.ensures)

pub returns-in_default-clause-err : goal.returns-in_default-clause-err
returns-in_default-clause-err g c = grown_now c.args.self.now c.make_room.new.self c.halt_for_memory.new.self e.Halt (c.in_default.ensures.err ∙ c.self.view_is) c.halt_for_memory.ensures

pub take-requires-clause-room : goal.take-requires-clause-room
take-requires-clause-room g c = has_room c.self.inside.flow c.make_room.new.self c.in-Ok.ensures.ok

pub take-requires-clause-legal : goal.take-requires-clause-legal
take-requires-clause-legal g c =
    let i = c.args.node in let p = c.args.port in let k = c.args.place in
    asks_take i p k c.make_room.new.self c.self.invariant (legal_take g.J.Fixed.facts.rules c.self.inside.flow c.args.self.now i p k c.self.view_is c.requires) c.in-Ok.ensures.ok

pub invariant_of-self-2 : goal.invariant_of-self-2
invariant_of-self-2 g c =
    let f = c.self.inside.flow in let m = c.make_room.new.self in let u = c.take.new.self in let room = c.in-Ok.ensures.ok in
    let i = c.args.node in let p = c.args.port in let k = c.args.place in
    kept_or_halt c.take.result (take_of f i p k) u c.self.invariant (quiet_take (legal_take g.J.Fixed.facts.rules f c.args.self.now i p k c.self.view_is c.requires)) (runs_here f c.args.self.now c.self.view_is c.requires.running)
    (on_ok c.take.result (took f m u i p k room) c.take.ensures.ok) (on_err c.take.result (grown_on f m u e.Halt room) c.take.ensures.err)

pub returns-clause-ok : goal.returns-clause-ok
returns-clause-ok g c =
    on_ok c.take.result (took c.args.self.now c.make_room.new.self c.take.new.self c.args.node c.args.port c.args.place (c.in-Ok.ensures.ok ∙ ap roomy c.self.view_is)) c.take.ensures.ok

pub returns-clause-ticket : goal.returns-clause-ticket
returns-clause-ticket g c = c.take.ensures.ticket

pub returns-clause-number : goal.returns-clause-number
returns-clause-number g c = took_numbers c.args.self.now c.make_room.new.self c.take.result (c.in-Ok.ensures.ok ∙ ap roomy c.self.view_is) c.take.ensures.number

pub returns-clause-err : goal.returns-clause-err
returns-clause-err g c = on_err c.take.result (grown_on c.args.self.now c.make_room.new.self c.take.new.self e.Halt (c.in-Ok.ensures.ok ∙ ap roomy c.self.view_is)) c.take.ensures.err
