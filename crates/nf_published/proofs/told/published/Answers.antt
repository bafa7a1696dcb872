use Rattle.std.proofs.Common.{◌∙◌}
use Rattle.nf_bodies.specs.Bodies.{rules_of}
use Rattle.nf_tasks.specs.Memory.{program}
use Rattle.nf_published.specs.Published.{publishing_of}
use Rattle.nf_published.proofs.Histories.{keeps_end, keeps_next, keeps_start}
use Rattle.nf_published.proofs.told.published.Goals as goal

pub loop-event-init : goal.loop-event-init
loop-event-init g c =
    let n = program (g.N.Natives.titles c.args.natives.now) (g.N.Natives.answer c.args.natives.now) in
    keeps_start (rules_of n c.args.infos.now) (c.nodes_are_rules.ensures n c.args.infos.now) (publishing_of n c.args.infos.now) c.args.flow.now c.history-history.result.now
    c.in_ok-reading.reading.tries.items c.in_ok-reading.reading.targets.items c.requires.lawful c.history-history.ensures c.in_ok-reading.ensures.tries c.in_ok-reading.ensures.targets

pub loop-event-preserved : goal.loop-event-preserved
loop-event-preserved g c =
    let n = program (g.N.Natives.titles c.args.natives.now) (g.N.Natives.answer c.args.natives.now) in
    keeps_next (rules_of n c.args.infos.now) (c.nodes_are_rules.ensures n c.args.infos.now) (publishing_of n c.args.infos.now) c.args.flow.now c.history-history.result.now
    c.loop-event.event-index c.event-item.result c.loop-event.reading c.event.new.self c.loop-event-test.true c.event-item.is c.loop-event.invariant c.in_ok-event.ensures

pub returns : goal.returns
returns g c =
    let n = program (g.N.Natives.titles c.args.natives.now) (g.N.Natives.answer c.args.natives.now) in
    c.of.ensures
    ∙ keeps_end (rules_of n c.args.infos.now) (c.nodes_are_rules.ensures n c.args.infos.now) (publishing_of n c.args.infos.now) c.args.flow.now c.history-history.result.now
    c.loop-event.event-index c.loop-event.reading.tries.items c.loop-event.reading.targets.items c.loop-event-test.false c.loop-event.invariant
