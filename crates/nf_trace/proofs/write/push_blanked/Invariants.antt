use Rattle.std.proofs.Common.{◌≡◌, ◌++◌, string_bytes}
use Rattle.std.specs.Str.Iter.{chars_rest}
use Rattle.nf_trace.specs.Task.{blanked}
use Rattle.nf_trace.proofs.write.push_blanked.Given as goal

abbrev pub invariant-loop-mark : goal.invariant-loop-mark
invariant-loop-mark l = string_bytes l.out ++ blanked (chars_rest l.mark-iterator) ≡ string_bytes l.initial.out ++ blanked l.text
