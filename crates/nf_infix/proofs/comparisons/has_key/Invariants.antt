use Rattle.std.proofs.Common.{◌≡◌, map, drop}
use Rattle.nf_value.specs.Plain.{plain_pairs_of}
use Rattle.nf_value.specs.View.{pair_of}
use Rattle.nf_builtins.specs.Maps.{has_key}
use Rattle.nf_infix.proofs.comparisons.has_key.Given as goal

abbrev pub invariant-loop-other : goal.invariant-loop-other
invariant-loop-other l = has_key l.key (plain_pairs_of (map pair_of l.other-items)) ≡ has_key l.key (plain_pairs_of (map pair_of (drop l.other-index l.other-items)))
