use Rattle.std.proofs.Common.{◌≡◌, map, take}
use Rattle.nf_value.specs.View.{plain_of, pair_of}
use Rattle.nf_builtins.proofs.maps.values_in.Given as goal

abbrev pub invariant-loop-value : goal.invariant-loop-value
invariant-loop-value l = map plain_of l.values.items ≡ map (λ p. p.1) (map pair_of (take l.value-index l.value-items))
