use Rattle.std.proofs.Common.{arith, length, rules}
use Rattle.std.proofs.Math.Seq.{take-length}
use Rattle.nf_host.proofs.mem_sink.MemSinkSink.write.Goals as goal

pub returns-in-Ok-clause-front : goal.returns-in-Ok-clause-front
returns-in-Ok-clause-front c = (length c.args.piece.now, omega arith, rw (take-length c.args.piece.now) (search rules))
