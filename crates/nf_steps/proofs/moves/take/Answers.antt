use Rattle.nf_machine.specs.declared.event.Event.TheVariants as e
use Rattle.nf_steps.proofs.Entering.{enters, entered_take}
use Rattle.nf_steps.proofs.moves.take.Goals as goal

pub returns-in_err-room_or_halt-clause-run : goal.returns-in_err-room_or_halt-clause-run
returns-in_err-room_or_halt-clause-run g c = enters e.Halt c.room_or_halt.new.flow c.requires.run c.requires.legal.running c.in_err-room_or_halt.ensures.err

pub returns-clause-run : goal.returns-clause-run
returns-clause-run g c =
    entered_take c.take.result c.args.node c.args.port c.args.place c.room_or_halt.new.flow c.take.new.self c.requires.run c.requires.legal c.in_ok-room_or_halt.ensures.ok c.take.ensures.ok c.take.ensures.err
