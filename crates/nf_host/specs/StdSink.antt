-- The count of a `StdSink`.
use Rattle.std.specs.Prelude.{ℕ}
use Rattle.nf_host.specs.declared.std_sink.StdSink.{StdSink}

-- how often it has failed
abbrev pub faults_of : {R : Type 0} → StdSink R → ℕ
faults_of s = s.faults
