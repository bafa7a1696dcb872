use Rattle.std.proofs.Common.{◌≡◌, List, [], length, refl, ap, subst, ◌∙◌}
use Rattle.std.specs.Prelude.{IfOk}
use Rattle.std.proofs.lemmas.List.{length-replicate}
use Rattle.nf_value.specs.Plain.{Plain}
use Rattle.nf_shown.proofs.Histories.{keeps_first, keeps_next, keeps_all}
use Rattle.nf_shown.proofs.per_view.views.Goals as goal

pub loop-event-init : goal.loop-event-init
loop-event-init c = (
  keeps_first c.args.flow.now c.args.are_views.now c.history-history.result.now c.in_ok-reading.reading.takers.items c.in_ok-reading.reading.lists.items (length c.args.are_views.now)
      c.requires c.history-history.ensures refl c.in_ok-reading.ensures.takers c.in_ok-reading.ensures.lists,
  ap length c.in_ok-reading.ensures.lists ∙ length-replicate (length c.args.are_views.now) [],
)

pub loop-event-preserved : goal.loop-event-preserved
loop-event-preserved c = (
  keeps_next c.args.flow.now c.args.are_views.now c.history-history.result.now c.loop-event.event-index c.event-item.result c.loop-event.reading c.event.new.self
      c.loop-event-test.true c.event-item.is c.loop-event.invariant.0 c.in_ok-event.ensures.read,
  c.in_ok-event.ensures.kept,
)

pub returns : goal.returns
returns c =
    subst (λ (vs : List (List Plain)). IfOk c.chosen.result (λ v. v.items ≡ vs))
    (keeps_all c.args.flow.now c.args.are_views.now c.history-history.result.now c.loop-event.event-index c.loop-event.reading.takers.items c.loop-event.reading.lists.items c.loop-event-test.false c.loop-event.invariant.0)
    c.chosen.ensures
