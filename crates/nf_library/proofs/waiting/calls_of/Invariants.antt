use Rattle.std.proofs.Common.{◌≡◌, ◌++◌, drop}
use Rattle.nf_library.specs.Calls.{uses_call}
use Rattle.nf_library.proofs.waiting.calls_of.Given as goal

abbrev pub invariant-loop-one : goal.invariant-loop-one
invariant-loop-one l = l.calls.items ++ uses_call (drop l.one-index l.one-items) ≡ uses_call l.one-items
