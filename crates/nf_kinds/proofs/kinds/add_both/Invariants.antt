use Rattle.std.proofs.Common.{◌≡◌, ◌++◌, drop}
use Rattle.nf_kinds.specs.Kinds.{both_outputs}
use Rattle.nf_kinds.proofs.kinds.add_both.Given as goal

abbrev pub invariant-loop-output : goal.invariant-loop-output
invariant-loop-output l = l.out.items ++ both_outputs (drop l.output-index l.first) l.second ≡ l.initial.out.items ++ both_outputs l.first l.second
