use Rattle.std.proofs.Common.{arith, sym, ◌∙◌, refl}
use Rattle.std.proofs.lemmas.Bool.{true≢false}
use Rattle.nf_bag.proofs.Bags.{same_length}
use Rattle.nf_bag.proofs.Sorts.{agree_more, same_from_each}
use Rattle.nf_bag.proofs.bag.same_bag.Goals as goal

pub returns-then-len : goal.returns-then-len
returns-then-len c = (λ h. absurd (true≢false (sym h)), λ s. absurd (omega (arith, same_length c.args.a.now c.args.b.now s)))

pub loop-value-preserved : goal.loop-value-preserved
loop-value-preserved c =
    let agrees = sym c.count_of.ensures ∙ c.if-count_of.false ∙ c.count_of-in-loop-value.ensures in
    agree_more c.args.a.now c.args.b.now _ _ c.value-item.result c.loop-value-test.true c.value-item.is agrees c.loop-value.invariant

pub returns : goal.returns
returns c =
    let same = same_from_each c.args.a.now c.args.b.now c.items-value-items.result.now c.items-value-items.ensures (omega arith) (λ k d lt. c.loop-value.invariant k d (omega arith)) in
    (λ _. same, λ _. refl)
