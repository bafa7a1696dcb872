use Rattle.std.proofs.Common.{◌∙◌}
use Rattle.nf_bag.proofs.Sorts.{distinct_is}
use Rattle.nf_bag.proofs.sorting.distinct.Goals as goal

pub returns : goal.returns
returns c = c.of.ensures ∙ distinct_is c.args.list _ _ c.in_ok-once.ensures c.dedup.ensures.filtered
