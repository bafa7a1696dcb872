use Rattle.std.proofs.Common.{◌≡◌, ◌+◌, ◌++◌, drop, length}
use Rattle.nf_shown.specs.Shown.{chosen_from}
use Rattle.nf_shown.proofs.per_view.chosen.Given as goal

abbrev pub invariant-loop-list : goal.invariant-loop-list
invariant-loop-list l =
    (l.views.items ++ chosen_from (drop l.node l.are_views) l.list-iterator.rest.items ≡ chosen_from l.are_views l.fn.lists.items)
    × (length l.list-iterator.rest.items + l.node ≡ length l.are_views)
