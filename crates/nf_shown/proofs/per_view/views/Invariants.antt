use Rattle.std.proofs.Common.{◌≡◌, drop, length}
use Rattle.nf_shown.proofs.Histories.{KeepsSoFar}
use Rattle.nf_shown.proofs.per_view.views.Given as goal

abbrev pub invariant-loop-event : goal.invariant-loop-event
invariant-loop-event l =
    KeepsSoFar l.fn.flow l.are_views (drop l.event-index l.history) l.reading.takers.items l.reading.lists.items × (length l.reading.lists.items ≡ length l.are_views)
