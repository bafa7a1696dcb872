use Rattle.std.proofs.Common.{◌∙◌, ℕ, take, not, sym, ap, subst, add-one}
use Rattle.nf_arguments.specs.Written.{AreNamed}
use Rattle.nf_arguments.proofs.Splits.{named_more}
use Rattle.nf_arguments.proofs.counts.around_unnamed.Goals as goal

pub loop-at-preserved : goal.loop-at-preserved
loop-at-preserved c =
    let xs = c.args.args.now in
    let P : ℕ → Type 0 = λ k. AreNamed (take k xs) in
    subst P (sym (add-one c.loop-at.at))
    (named_more xs c.loop-at.at c.index-args-at.result c.loop-at-test.true c.index-args-at.is (c.is_none.ensures ∙ ap not c.if-is_none.false) c.loop-at.invariant)
