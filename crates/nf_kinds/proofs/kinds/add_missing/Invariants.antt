use Rattle.std.proofs.Common.{◌≡◌, ◌++◌, drop}
use Rattle.nf_kinds.specs.Kinds.{missing_outputs}
use Rattle.nf_kinds.proofs.kinds.add_missing.Given as goal

abbrev pub invariant-loop-output : goal.invariant-loop-output
invariant-loop-output l = l.out.items ++ missing_outputs l.first (drop l.output-index l.second) ≡ l.initial.out.items ++ missing_outputs l.first l.second
