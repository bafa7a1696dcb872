use Rattle.nf_machine.specs.declared.event.Event.TheVariants as e
use Rattle.nf_steps.proofs.Entering.{entered, enters}
use Rattle.nf_steps.proofs.moves.pass.Goals as goal

pub returns-in_err-room_or_halt-clause-run : goal.returns-in_err-room_or_halt-clause-run
returns-in_err-room_or_halt-clause-run g c = enters e.Halt c.room_or_halt.new.flow c.requires.run c.requires.legal.running c.in_err-room_or_halt.ensures.err

pub returns-clause-run : goal.returns-clause-run
returns-clause-run g c =
    entered c.pass.result (e.Pass c.args.port) e.Halt c.room_or_halt.new.flow c.pass.new.self c.requires.run c.requires.legal c.requires.legal.running c.in_ok-room_or_halt.ensures.ok c.pass.ensures.ok c.pass.ensures.err
