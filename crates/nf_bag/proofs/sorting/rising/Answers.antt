use Rattle.std.proofs.Common.{◌∙◌, ap}
use Rattle.nf_bag.specs.Sorted.{sorted_of}
use Rattle.nf_bag.proofs.Sorts.{sorted_is}
use Rattle.nf_bag.proofs.sorting.rising.Goals as goal

pub returns : goal.returns
returns c = sorted_is c.into_items-items.result.items _ c.in_ok-sort.ensures.permutation c.in_ok-sort.ensures.sorted ∙ ap sorted_of c.into_items-items.ensures
