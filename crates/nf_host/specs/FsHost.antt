-- The count of an `FsHost`.
use Rattle.std.specs.Prelude.{ℕ}
use Rattle.nf_host.specs.declared.fs_host.FsHost.{FsHost}

-- how often it has failed (`File` and `Dir` are the types of an open file and of an open folder)
abbrev pub faults_of : {R File Dir : Type 0} → FsHost R File Dir → ℕ
faults_of h = h.faults
