use Rattle.nf_builtins.proofs.Entries.{length_of_pairs}
use Rattle.nf_builtins.proofs.maps.count.Goals as goal

pub returns-clause-count : goal.returns-clause-count
returns-clause-count c = length_of_pairs c.items.result.now c.args.pairs.now c.items.ensures.items
