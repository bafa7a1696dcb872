-- The text of a task's fault.
use Rattle.std.specs.Prelude.{ℕ, List, ◌++◌, codes}
use Rattle.std.specs.Fmt.{signed_decimal}
use Rattle.nf_value.specs.Fault.{kind_text}
use Rattle.nf_job.specs.declared.fault.TaskFault.{TaskFault}
use Rattle.nf_job.specs.declared.fault.TaskFault.TheVariants.{Exit, MissingOutput, BadStdout, StageClash, Eval}

abbrev pub fault_text : TaskFault → List ℕ
fault_text (Exit status) = codes "Exit " ++ signed_decimal status
fault_text (MissingOutput pattern) = codes "MissingOutput " ++ pattern
fault_text BadStdout = codes "BadStdout"
fault_text (StageClash name) = codes "StageClash " ++ name
fault_text (Eval fault) = codes "Eval " ++ kind_text fault.kind
