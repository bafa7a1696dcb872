use Rattle.std.proofs.Common.{map}
use Rattle.nf_value.specs.View.{pair_of}
use Rattle.nf_pairs.proofs.Values.{wins}
use Rattle.nf_pairs.proofs.put.merged.Goals as goal

pub returns-clause-wins : goal.returns-clause-wins
returns-clause-wins c = wins c.put_each.result c.args.first c.args.second (map pair_of c.into_items.result.items) c.into_items.ensures.items c.into_items.ensures.rising c.put_each.ensures
