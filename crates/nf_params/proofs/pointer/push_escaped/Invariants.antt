use Rattle.std.proofs.Common.{◌≡◌, ◌++◌, string_bytes}
use Rattle.std.specs.Str.Iter.{chars_rest}
use Rattle.nf_params.specs.Pointer.{escaped}
use Rattle.nf_params.proofs.pointer.push_escaped.Given as goal

abbrev pub invariant-loop-mark : goal.invariant-loop-mark
invariant-loop-mark l = string_bytes l.out ++ escaped (chars_rest l.mark-iterator) ≡ string_bytes l.initial.out ++ escaped l.key
