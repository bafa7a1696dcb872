-- What a task with the one output `stdout` emits.
use Rattle.std.specs.Prelude.{ℕ, zero, suc, ℤ, pos, negsuc, List, Ok, Err}
use Rattle.std.specs.declared.result.Result.{Result}
use Rattle.nf_job.specs.declared.fault.TaskFault.{TaskFault}
use Rattle.nf_job.specs.declared.fault.TaskFault.TheVariants.{Exit, BadStdout}
use Rattle.nf_job.specs.declared.report.Captured.{Captured}
use Rattle.nf_job.specs.declared.report.Captured.TheVariants as captured
use Rattle.nf_job.specs.declared.report.Report.{Report}

-- standard output, if it is a text
abbrev pub captured_text : Captured → Result (List ℕ) TaskFault
captured_text (captured.Text t) = Ok t
captured_text captured.None = Err BadStdout
captured_text captured.Bad = Err BadStdout

-- the same, if the exit status is 0
abbrev pub text_at_exit : ℤ → Captured → Result (List ℕ) TaskFault
text_at_exit (pos zero) c = captured_text c
text_at_exit (pos (suc k)) c = Err (Exit (pos (suc k)))
text_at_exit (negsuc k) c = Err (Exit (negsuc k))

-- the text that the task emits; or its fault: an exit status other than 0, else a standard output that is no text
abbrev pub stdout_emitted : Report → Result (List ℕ) TaskFault
stdout_emitted r = text_at_exit r.exit r.captured
