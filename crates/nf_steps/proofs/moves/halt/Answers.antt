use Rattle.std.proofs.Common.{sym}
use Rattle.nf_machine.specs.declared.event.Event.TheVariants as e
use Rattle.nf_flow.specs.Seen.{state_of}
use Rattle.nf_steps.proofs.Entering.{enters, not_stopped}
use Rattle.nf_steps.proofs.Staying.{halted_stay}
use Rattle.nf_steps.proofs.moves.halt.Goals as goal

pub returns-then-not-is_stopped-clause-run : goal.returns-then-not-is_stopped-clause-run
returns-then-not-is_stopped-clause-run g c =
    enters e.Halt c.halt_for_memory.new.self c.requires.run (not_stopped (state_of c.args.flow.now).stop (sym c.if-not-is_stopped.ensures)) c.halt_for_memory.ensures

pub returns-then-not-is_stopped-clause-flying : goal.returns-then-not-is_stopped-clause-flying
returns-then-not-is_stopped-clause-flying g c = halted_stay c.args.flow.now c.halt_for_memory.new.self c.halt_for_memory.ensures
