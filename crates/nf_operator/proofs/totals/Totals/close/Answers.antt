use Rattle.std.proofs.Common.{subst}
use Rattle.nf_opclose.specs.Rows.{max_row, min_row, reduce_row, sum_row}
use Rattle.nf_operator.specs.Kept.{IsTotals}
use Rattle.nf_operator.proofs.Pushing.{ends}
use Rattle.nf_operator.proofs.totals.Totals.close.Goals as goal

pub returns-in-Max : goal.returns-in-Max
returns-in-Max c = λ op p after. (let k = subst (IsTotals op p) c.in-Max.is after in
    ends op max_row k.0 p c.close.result (c.close.ensures p k.1))

pub returns-in-Min : goal.returns-in-Min
returns-in-Min c = λ op p after. (let k = subst (IsTotals op p) c.in-Min.is after in
    ends op min_row k.0 p c.close-in-Min.result (c.close-in-Min.ensures p k.1))

pub returns-in-Reduce : goal.returns-in-Reduce
returns-in-Reduce c = λ op p after. (let k = subst (IsTotals op p) c.in-Reduce.is after in
    ends op (reduce_row k.0 k.1) k.2 p c.close-in-Reduce.result (c.close-in-Reduce.ensures k.0 k.1 p k.3))

pub returns-in-Sum : goal.returns-in-Sum
returns-in-Sum c = λ op p after. (let k = subst (IsTotals op p) c.in-Sum.is after in
    ends op sum_row k.0 p c.close-in-Sum.result (c.close-in-Sum.ensures.ends p k.1))
