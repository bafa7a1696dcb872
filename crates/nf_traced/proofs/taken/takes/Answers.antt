use Rattle.nf_traced.proofs.Histories.{keeps_all, keeps_few, keeps_first, keeps_next}
use Rattle.nf_traced.proofs.taken.takes.Goals as goal

pub loop-event-init : goal.loop-event-init
loop-event-init c = keeps_first c.args.flow.now c.history-history.result.now c.new-takes.result.items c.requires c.history-history.ensures c.new-takes.ensures.items

pub read-requires : goal.read-requires
read-requires c = keeps_few c.args.flow.now _ c.loop-event.takes.items c.loop-event.invariant

pub loop-event-preserved : goal.loop-event-preserved
loop-event-preserved c =
    keeps_next c.args.flow.now c.history-history.result.now c.loop-event.event-index c.event-item.result c.loop-event.takes.items c.read.new.takes.items
    c.loop-event-test.true c.event-item.is c.loop-event.invariant c.in_ok-read.ensures

pub returns-clause-takes : goal.returns-clause-takes
returns-clause-takes c = keeps_all c.args.flow.now c.history-history.result.now c.loop-event.event-index c.loop-event.takes.items c.loop-event-test.false c.loop-event.invariant

pub returns-clause-few : goal.returns-clause-few
returns-clause-few c = keeps_few c.args.flow.now _ c.loop-event.takes.items c.loop-event.invariant
