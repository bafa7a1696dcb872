use Rattle.std.proofs.Common.{ap, arith, ◌∙◌}
use Rattle.nf_machine.specs.declared.event.Event.TheVariants as e
use Rattle.nf_flow.specs.Seen.{roomy}
use Rattle.nf_core.proofs.Events.{kept_or_halt, kept_quiet, quiet_halt, quiet_pass}
use Rattle.nf_core.proofs.Legals.{asks, grown_now, grown_on, has_room, on_err, on_ok}
use Rattle.nf_core.proofs.Viewed.{goes_on, legal_here, runs_here}
use Rattle.nf_core.proofs.run_state.RunState.pass.Goals as goal

pub halt_for_memory-requires : goal.halt_for_memory-requires
halt_for_memory-requires g c = goes_on c.make_room.new.self c.args.self.now (c.in_default.ensures.err ∙ c.self.view_is) c.requires.running

pub invariant_of-self : goal.invariant_of-self
invariant_of-self g c =
    let f = c.self.inside.flow in
    kept_quiet e.Halt c.halt_for_memory.new.self (g.K.Keeper.faults c.self.inside.keeper) c.self.invariant (quiet_halt (runs_here f c.args.self.now c.self.view_is c.requires.running)) (omega arith)
    (grown_now f c.make_room.new.self c.halt_for_memory.new.self e.Halt c.in_default.ensures.err c.halt_for_memory.ensures)

pub returns-in_default-clause-err : goal.returns-in_default-clause-err
returns-in_default-clause-err g c = grown_now c.args.self.now c.make_room.new.self c.halt_for_memory.new.self e.Halt (c.in_default.ensures.err ∙ c.self.view_is) c.halt_for_memory.ensures

pub pass-requires-clause-room : goal.pass-requires-clause-room
pass-requires-clause-room g c = has_room c.self.inside.flow c.make_room.new.self c.in-Ok.ensures.ok

pub pass-requires-clause-legal : goal.pass-requires-clause-legal
pass-requires-clause-legal g c =
    let x = e.Pass c.args.port in
    asks x c.make_room.new.self c.self.invariant (legal_here g.J.Fixed.facts.rules c.self.inside.flow c.args.self.now x c.self.view_is c.requires) c.in-Ok.ensures.ok

pub invariant_of-self-2 : goal.invariant_of-self-2
invariant_of-self-2 g c =
    let f = c.self.inside.flow in let m = c.make_room.new.self in let u = c.pass.new.self in let x = e.Pass c.args.port in let room = c.in-Ok.ensures.ok in
    kept_or_halt c.pass.result x u c.self.invariant (quiet_pass (legal_here g.J.Fixed.facts.rules f c.args.self.now x c.self.view_is c.requires)) (runs_here f c.args.self.now c.self.view_is c.requires.running)
    (on_ok c.pass.result (grown_on f m u x room) c.pass.ensures.ok) (on_err c.pass.result (grown_on f m u e.Halt room) c.pass.ensures.err)

pub returns-clause-ok : goal.returns-clause-ok
returns-clause-ok g c = on_ok c.pass.result (grown_on c.args.self.now c.make_room.new.self c.pass.new.self (e.Pass c.args.port) (c.in-Ok.ensures.ok ∙ ap roomy c.self.view_is)) c.pass.ensures.ok

pub returns-clause-err : goal.returns-clause-err
returns-clause-err g c = on_err c.pass.result (grown_on c.args.self.now c.make_room.new.self c.pass.new.self e.Halt (c.in-Ok.ensures.ok ∙ ap roomy c.self.view_is)) c.pass.ensures.err
