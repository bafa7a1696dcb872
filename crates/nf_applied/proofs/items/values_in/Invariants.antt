use Rattle.std.proofs.Common.{◌≡◌, ◌++◌, map}
use Rattle.nf_applied.proofs.items.values_in.Given as goal

abbrev pub invariant-loop-value : goal.invariant-loop-value
invariant-loop-value l = l.items.items ++ map (λ v. v.1) l.value-iterator.rest.items ≡ map (λ v. v.1) l.fn.given.items
