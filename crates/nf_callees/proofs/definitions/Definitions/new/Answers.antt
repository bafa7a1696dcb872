use Rattle.std.proofs.Common.{◌≡◌, drop, subst, arith}
use Rattle.nf_callees.specs.Found.{HasAll}
use Rattle.nf_callees.proofs.definitions.Definitions.new.Goals as goal

pub invariant_of-result : goal.invariant_of-result
invariant_of-result c =
    let done : c.loop-left.left ≡ 0 = omega (arith, c.loop-left-test.false) in
    subst (λ i. HasAll (drop i c.args.tops.now) c.loop-left.tables) done c.loop-left.invariant.1
