use Rattle.std.proofs.Common.{ℕ, ◌<◌, get_or}
use Rattle.nf_value.specs.declared.value.Value.{Value}
use Rattle.nf_bag.proofs.Sorts.{Agree}
use Rattle.nf_bag.proofs.bag.same_bag.Given as goal

abbrev pub invariant-loop-value : goal.invariant-loop-value
invariant-loop-value l = (k : ℕ) (d : Value) → k < l.value-index → Agree l.a l.b (get_or l.value-items k d)
