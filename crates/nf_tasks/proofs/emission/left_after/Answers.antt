use Rattle.std.proofs.Common.{◌+◌, drop, map, ap, sym}
use Rattle.nf_tasks.specs.Memory.{part_of}
use Rattle.nf_tasks.specs.Emission.{left_after}
use Rattle.nf_tasks.proofs.Walks.{goes_on, ends}
use Rattle.nf_tasks.proofs.emission.left_after.Goals as goal

pub loop-part-preserved : goal.loop-part-preserved
loop-part-preserved c = λ n.
    goes_on (λ xs. left_after (map (part_of n) xs) c.loop-part.left.now) c.args.parts.now c.loop-part.part-index c.part-item.result _ _ c.loop-part-test.true c.part-item.is
    (ap (left_after (map (part_of n) (drop (c.loop-part.part-index + 1) c.args.parts.now))) (sym (c.part_left-left.ensures n))) (c.loop-part.invariant n)

pub returns : goal.returns
returns c = λ n. ends (λ xs. left_after (map (part_of n) xs) c.loop-part.left.now) c.args.parts.now c.loop-part.part-index _ c.loop-part-test.false (c.loop-part.invariant n)
