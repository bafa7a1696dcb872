use Rattle.std.proofs.Common.{string_bytes}
use Rattle.nf_trace.specs.Line.{trace_of}
use Rattle.nf_trace.specs.Task.{lines_from}
use Rattle.nf_trace.proofs.Tasks.{next_task}
use Rattle.nf_trace.proofs.write.trace_text.Goals as goal

pub loop-i-preserved : goal.loop-i-preserved
loop-i-preserved c = next_task (string_bytes c.loop-i.out) (string_bytes c.push_task.new.out) (trace_of (lines_from 1 c.args.tasks.now)) c.args.tasks.now c.loop-i.i c.index-tasks-i.result c.loop-i-test.true c.index-tasks-i.is c.in_ok-push_task.ensures c.loop-i.invariant
