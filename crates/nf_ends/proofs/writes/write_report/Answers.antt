use Rattle.nf_ends.proofs.Writing.{two_written, two_front}
use Rattle.nf_ends.proofs.writes.write_report.Goals as goal

pub returns-in-Ok-write-clause-output : goal.returns-in-Ok-write-clause-output
returns-in-Ok-write-clause-output g c =
    let written = g.O.Sink.written in
    two_written (written c.args.out.now) (written c.write_piece.new.out) (written c.write.new.self) c.args.report.now c.args.summary.now c.in-Ok.ensures.told c.in-Ok.ensures.all c.in-Ok-write.ensures.all

pub returns-in-Err-clause-output : goal.returns-in-Err-clause-output
returns-in-Err-clause-output g c =
    let written = g.O.Sink.written in
    two_front (written c.args.out.now) (written c.write_piece.new.out) (written c.write.new.self) c.args.report.now c.args.summary.now c.in-Ok.ensures.told c.in-Ok.ensures.all c.in-Err.ensures.front
