use Rattle.std.proofs.Common.{◌≡◌, ◌+◌, Bool, true, false, cond, ◌&&◌, drop, map, ap, sym, ◌∙◌, arith}
use Rattle.std.proofs.lemmas.Bool.Decides.{nat_tests}
use Rattle.nf_tasks.specs.Memory.{part_of}
use Rattle.nf_tasks.specs.Emission.{all_there, part_there}
use Rattle.nf_tasks.proofs.Walks.{goes_on, ends}
use Rattle.nf_tasks.proofs.Stored.{passes_first, stops_first}
use Rattle.nf_tasks.proofs.emission.all_there.Goals as goal

pub returns-then-not-part_there : goal.returns-then-not-part_there
returns-then-not-part_there c = λ n.
    let gone : c.part_there.result ≡ false = grind (arith, nat_tests) in
    goes_on (λ xs. all_there (map (part_of n) xs) c.loop-part.left.now) c.args.parts.now c.loop-part.part-index c.part-item.result _ _ c.loop-part-test.true c.part-item.is
    (stops_first n c.part-item.result c.args.parts.now c.loop-part.part-index c.loop-part.left.now c.first_files.result.now c.part_there.result gone c.first_files.ensures (c.part_there.ensures n)) (c.loop-part.invariant n)

pub loop-part-preserved : goal.loop-part-preserved
loop-part-preserved c = λ n.
    let there : c.part_there.result ≡ true = grind (arith, nat_tests) in
    goes_on (λ xs. all_there (map (part_of n) xs) c.loop-part.left.now) c.args.parts.now c.loop-part.part-index c.part-item.result _ _ c.loop-part-test.true c.part-item.is
    (passes_first n c.part-item.result c.args.parts.now c.loop-part.part-index c.loop-part.left.now c.part_left-left.result.now c.first_files.result.now c.part_there.result there c.first_files.ensures (c.part_there.ensures n) (c.part_left-left.ensures n)) (c.loop-part.invariant n)

pub returns : goal.returns
returns c = λ n. ends (λ xs. all_there (map (part_of n) xs) c.loop-part.left.now) c.args.parts.now c.loop-part.part-index _ c.loop-part-test.false (c.loop-part.invariant n)
