use Rattle.std.proofs.Common.{◌≡◌, ◌+◌, ◌++◌, drop, string_bytes}
use Rattle.nf_trace.specs.Line.{lines_text, trace_of}
use Rattle.nf_trace.specs.Task.{lines_from}
use Rattle.nf_trace.proofs.write.trace_text.Given as goal

abbrev pub invariant-loop-i : goal.invariant-loop-i
invariant-loop-i l = string_bytes l.out ++ lines_text (lines_from (l.i + 1) (drop l.i l.tasks)) ≡ trace_of (lines_from 1 l.tasks)
