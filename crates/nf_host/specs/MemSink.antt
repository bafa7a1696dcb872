-- What a `MemSink` holds.
use Rattle.std.specs.Prelude.{ℕ, List}
use Rattle.std.specs.declared.option.Option.{Option}
use Rattle.std.specs.Ordering.{nat_cmp}
use Rattle.std.specs.BTreeMap.{get}
use Rattle.nf_host.specs.declared.mem_sink.MemSink.{MemSink}

-- the bytes that it took
abbrev pub written_of : MemSink → List ℕ
written_of s = s.written.items

-- of each failing write, by its number: how many bytes it takes
abbrev pub failing_of : MemSink → ℕ → Option ℕ
failing_of s call = get nat_cmp s.failing call

-- how many writes it has had
abbrev pub calls_of : MemSink → ℕ
calls_of s = s.calls

-- how often it has failed
abbrev pub faults_of : MemSink → ℕ
faults_of s = s.faults
