use Rattle.std.proofs.Common.{length}
use Rattle.nf_trace.proofs.Lines.{IsReadTo}
use Rattle.nf_trace.proofs.read.read_lines.Given as goal

abbrev pub invariant-loop-text : goal.invariant-loop-text
invariant-loop-text l = IsReadTo l.fn.bytes l.lines.items l.rest

abbrev pub decreases-loop-text : goal.decreases-loop-text
decreases-loop-text l = length l.rest
