-- What a call writes to the sink.
use Rattle.std.specs.Prelude.{◌≡◌, ◌⊎◌, ℕ, List, ◌++◌, Result, Ok, Err}
use Rattle.nf_host.specs.Sink.{GrowsByFront}
use Rattle.nf_ends.specs.declared.end.End.{End}
use Rattle.nf_ends.specs.declared.end.End.TheVariants as end
use Rattle.nf_ends.specs.declared.writes.Output.{Output}
use Rattle.nf_ends.specs.declared.writes.Output.TheVariants.{Report, Text}
use Rattle.nf_ends.specs.Ends.{error_line}

-- the bytes of an output
abbrev pub output_text : Output → List ℕ
output_text (Report report summary) = report ++ summary
output_text (Text text) = text

-- an end of a call that failed before it wrote anything
abbrev pub IsRefusal : End → Type 0
IsRefusal end.Ok = ⊥
IsRefusal end.SinkFault = ⊥
IsRefusal _ = Unit {0}

-- the end stays, or becomes `Mem` if there is no memory for its line
abbrev pub IsKept : End → End → Type 0
IsKept before end.Mem = Unit {0}
IsKept before after = after ≡ before

-- the end of a call that wrote an output, or a part of it
abbrev pub IsWritten : End → Type 0
IsWritten end.Ok = Unit {0}
IsWritten end.SinkFault = Unit {0}
IsWritten _ = ⊥

-- how a call ends that has this to write
abbrev pub EndsAs : Result Output End → End → Type 0
EndsAs (Ok o) e = IsWritten e
EndsAs (Err before) e = IsKept before e

-- if the end is SinkFault, the sink's count rose
abbrev pub OnSinkFault : End → Type 0 → Type 0
OnSinkFault end.SinkFault rose = rose
OnSinkFault _ rose = Unit {0}

-- the output was written, or the front of it if the sink failed
abbrev pub WroteOutput : End → List ℕ → List ℕ → List ℕ → Type 0
WroteOutput end.Ok output before after = after ≡ before ++ output
WroteOutput end.SinkFault output before after = GrowsByFront before output after
WroteOutput _ output before after = ⊥

-- the error line was written, or the front of it if the sink's count rose; `Mem` writes nothing
abbrev pub WroteLine : End → Type 0 → List ℕ → List ℕ → Type 0
WroteLine end.Mem rose before after = after ≡ before
WroteLine end.Ok rose before after = Unit {0}
WroteLine end.SinkFault rose before after = Unit {0}
WroteLine e rose before after = (after ≡ before ++ error_line e) ⊎ (rose × GrowsByFront before (error_line e) after)
