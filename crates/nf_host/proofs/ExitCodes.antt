-- A child's status is from 0 to 255.
use Rattle.std.proofs.Common.{ℕ, ◌<◌, ◌/◌, ◌%◌, ◌==◌, pos, Bool, true, false, None, Some, refl, arith}
use Rattle.std.specs.Prelude.{unwrap_or, if◌then◌else◌}
use Rattle.std.specs.declared.process.ExitStatus.{ExitStatus}
use Rattle.std.specs.Process.{status_bits}
use Rattle.nf_host.specs.declared.status.TheConstants.{NO_CODE_STATUS}
use Rattle.nf_host.specs.Starts.{IsStatus, exit_number}

code_is_status : (b : Bool) (k : ℕ) → k < 256 → IsStatus (unwrap_or (if b then Some (pos k) else None) NO_CODE_STATUS)
code_is_status true k h = (k, omega arith, refl)
code_is_status false k h = (255, omega arith, refl)

pub exit_number_is_status : (s : ExitStatus) → IsStatus (exit_number s)
exit_number_is_status s = code_is_status (status_bits s % 128 == 0) (status_bits s / 256 % 256) (omega arith)
