use Rattle.std.proofs.Common.{◌≡◌, map, take}
use Rattle.nf_value.specs.Plain.{text}
use Rattle.nf_value.specs.View.{plain_of, pair_of}
use Rattle.nf_builtins.proofs.maps.keys.Given as goal

abbrev pub invariant-loop-key : goal.invariant-loop-key
invariant-loop-key l = map plain_of l.keys.items ≡ map (λ p. text p.0) (map pair_of (take l.key-index l.key-items))
