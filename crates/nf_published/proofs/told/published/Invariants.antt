use Rattle.std.proofs.Common.{drop}
use Rattle.nf_bodies.specs.Bodies.{rules_of}
use Rattle.nf_tasks.specs.Memory.{program}
use Rattle.nf_published.specs.Published.{publishing_of}
use Rattle.nf_published.proofs.Histories.{KeepsTo}
use Rattle.nf_published.proofs.told.published.Given as goal

abbrev pub invariant-loop-event : goal.invariant-loop-event
invariant-loop-event g l =
    let n = program (g.N.Natives.titles l.natives) (g.N.Natives.answer l.natives) in
    KeepsTo (rules_of n l.infos) (publishing_of n l.infos) l.fn.flow (drop l.event-index l.history) l.reading.tries.items l.reading.targets.items
