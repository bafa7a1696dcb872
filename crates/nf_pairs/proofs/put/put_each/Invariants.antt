use Rattle.std.proofs.Common.{◌≡◌, map}
use Rattle.nf_value.specs.View.{pair_of}
use Rattle.nf_pairs.specs.Pairs.{put_all}
use Rattle.nf_pairs.proofs.put.put_each.Given as goal

abbrev pub invariant-loop-key : goal.invariant-loop-key
invariant-loop-key l = put_all (map pair_of l.key-iterator.rest.items) (map pair_of l.pairs.items) ≡ put_all (map pair_of l.fn.more.items) l.fn.first
