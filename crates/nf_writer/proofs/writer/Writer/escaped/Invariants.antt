use Rattle.std.proofs.Common.{◌≡◌, ◌++◌, drop}
use Rattle.nf_writer.specs.Ink.{escaped}
use Rattle.nf_writer.specs.Styles.{kind_of}
use Rattle.nf_writer.proofs.writer.Writer.escaped.Given as goal

abbrev pub invariant-loop-byte : goal.invariant-loop-byte
invariant-loop-byte l = l.self ++ escaped (kind_of l.style) l.on_line (drop l.byte-index l.text) ≡ l.initial.self ++ escaped (kind_of l.style) l.on_line l.text
