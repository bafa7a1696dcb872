use Rattle.std.proofs.Common.{◌≡◌, ◌++◌, drop, map}
use Rattle.nf_value.specs.View.{plain_of}
use Rattle.nf_publish.specs.Clashes.{target_plain}
use Rattle.nf_publish.proofs.clash.target_values.Given as goal

abbrev pub invariant-loop-target : goal.invariant-loop-target
invariant-loop-target l = map plain_of l.values.items ++ map target_plain (drop l.target-index l.targets) ≡ map target_plain l.targets
