-- How a task stands after its last event, and how a trace says so.
use Rattle.std.specs.Prelude.{ℕ, List, codes}
use Rattle.std.specs.Fmt.{signed_decimal}
use Rattle.nf_trace.specs.declared.task.TaskStatus.{TaskStatus}
use Rattle.nf_trace.specs.declared.task.TaskStatus.TheVariants.{Completed, Cached, Aborted}
use Rattle.nf_trace.specs.declared.task.TaskStatus.TheVariants as status

abbrev pub status_name : TaskStatus → List ℕ
status_name (Completed exit) = codes "COMPLETED"
status_name (status.Failed exit) = codes "FAILED"
status_name (Cached exit) = codes "CACHED"
status_name Aborted = codes "ABORTED"

-- the exit status; a task that was given up has none
abbrev pub exit_column : TaskStatus → List ℕ
exit_column (Completed exit) = signed_decimal exit
exit_column (status.Failed exit) = signed_decimal exit
exit_column (Cached exit) = signed_decimal exit
exit_column Aborted = codes "-"
