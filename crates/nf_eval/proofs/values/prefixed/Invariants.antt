use Rattle.std.proofs.Common.{◌≡◌, take, ◌≤◌, length}
use Rattle.nf_value.specs.View.{plain_of}
use Rattle.nf_eval.specs.Chains.{prefixed}
use Rattle.nf_eval.proofs.values.prefixed.Given as goal

abbrev pub invariant-loop-end : goal.invariant-loop-end
invariant-loop-end l = (l.end ≤ length l.operators) × (prefixed (take l.end l.operators) (plain_of l.value) ≡ prefixed l.operators (plain_of l.fn.of))

abbrev pub decreases-loop-end : goal.decreases-loop-end
decreases-loop-end l = l.end
