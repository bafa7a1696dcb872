use Rattle.std.proofs.Common.{◌≡◌, [], map, rules}
use Rattle.nf_value.specs.View.{pair_of}
use Rattle.nf_params.proofs.Members.{rising_at_end}
use Rattle.nf_params.proofs.json.+value.Goals as goal

pub pairs_of-of-requires-2 : goal.pairs_of-of-requires-2
pairs_of-of-requires-2 t c =
    let none : c.loop-key.key-iterator ≡ [] = search rules in
    rising_at_end c.args.members.now.entries (map pair_of c.loop-key.pairs.items) c.loop-key.key-iterator none c.loop-key.invariant.keys c.iter-key-items.ensures.ordered
