use Rattle.std.proofs.Common.{map, rules}
use Rattle.std.proofs.lemmas.List.{nil_from_length}
use Rattle.nf_value.specs.View.{pair_of}
use Rattle.nf_pairs.proofs.Putting.{put_none, put_rises}
use Rattle.nf_pairs.proofs.put.put_each.Goals as goal

pub of-requires : goal.of-requires
of-requires c = put_rises c.loop-key.pairs.items (map pair_of c.args.more.items) c.args.first c.into_items-pairs.ensures.rising (put_none c.loop-key.key-iterator.rest.items c.loop-key.pairs.items _ (nil_from_length c.loop-key.key-iterator.rest.items (search rules)) c.loop-key.invariant)
