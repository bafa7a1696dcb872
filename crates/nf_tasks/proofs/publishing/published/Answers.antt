use Rattle.std.proofs.Common.{map, refl}
use Rattle.nf_tasks.specs.Memory.{program, publish_of}
use Rattle.nf_tasks.specs.Publishing.{published, published_by}
use Rattle.nf_tasks.proofs.Walks.{grow_step}
use Rattle.nf_tasks.proofs.publishing.published.Goals as goal

pub loop-publish-preserved : goal.loop-publish-preserved
loop-publish-preserved g c =
    let n = program (g.N.Natives.titles c.args.natives.now) (g.N.Natives.answer c.args.natives.now) in
    grow_step (λ xs. published (map (publish_of n) xs) c.args.seen.now c.args.lists.now) (λ x. published_by (publish_of n x) c.args.seen.now c.args.lists.now) (λ x xs. refl)
    c.args.publishes.now c.loop-publish.publish-index c.publish-item.result c.loop-publish.targets.items c.push_published.new.targets.items _ c.loop-publish-test.true c.publish-item.is c.in_ok-push_published.ensures c.loop-publish.invariant
