use Rattle.std.proofs.Common.{◌≡◌, map, drop}
use Rattle.nf_value.specs.Plain.{plain_pairs_of}
use Rattle.nf_value.specs.View.{pair_of}
use Rattle.nf_infix.specs.Read.{value_at}
use Rattle.nf_infix.proofs.reading.value_at.Given as goal

abbrev pub invariant-loop-other : goal.invariant-loop-other
invariant-loop-other l = value_at l.key (plain_pairs_of (map pair_of l.other-items)) ≡ value_at l.key (plain_pairs_of (map pair_of (drop l.other-index l.other-items)))
