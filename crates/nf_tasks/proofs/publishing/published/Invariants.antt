use Rattle.std.proofs.Common.{◌≡◌, map, drop}
use Rattle.nf_tasks.specs.Judged.{added}
use Rattle.nf_tasks.specs.Memory.{program, publish_of}
use Rattle.nf_tasks.specs.Publishing.{published}
use Rattle.nf_tasks.proofs.publishing.published.Given as goal

abbrev pub invariant-loop-publish : goal.invariant-loop-publish
invariant-loop-publish g l =
    let n = program (g.N.Natives.titles l.natives) (g.N.Natives.answer l.natives) in
    added l.targets.items (published (map (publish_of n) (drop l.publish-index l.publishes)) l.seen l.lists) ≡ published (map (publish_of n) l.publishes) l.seen l.lists
