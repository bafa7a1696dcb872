use Rattle.std.proofs.Common.{subst}
use Rattle.nf_value.specs.View.{plain_of}
use Rattle.nf_opstream.specs.Push.{push_of}
use Rattle.nf_opclose.specs.Rows.{max_row, min_row, reduce_row, sum_row}
use Rattle.nf_operator.specs.Kept.{IsTotals}
use Rattle.nf_operator.proofs.Pushing.{goes}
use Rattle.nf_operator.proofs.totals.Totals.push.Goals as goal

pub returns-in-Max : goal.returns-in-Max
returns-in-Max c = λ op p after. (let k = subst (IsTotals op p) c.in-Max.is after in
    let x = push_of c.args.port (plain_of c.args.item) (plain_of c.args.answer) in
    goes op max_row k.0 p x c.push.result (c.push.ensures.emits p k.1) (c.push.ensures.after p k.1) (λ h. (k.0, h)))

pub returns-in-Min : goal.returns-in-Min
returns-in-Min c = λ op p after. (let k = subst (IsTotals op p) c.in-Min.is after in
    let x = push_of c.args.port (plain_of c.args.item) (plain_of c.args.answer) in
    goes op min_row k.0 p x c.push-in-Min.result (c.push-in-Min.ensures.emits p k.1) (c.push-in-Min.ensures.after p k.1) (λ h. (k.0, h)))

pub returns-in-Reduce : goal.returns-in-Reduce
returns-in-Reduce c = λ op p after. (let k = subst (IsTotals op p) c.in-Reduce.is after in
    let x = push_of c.args.port (plain_of c.args.item) (plain_of c.args.answer) in
    goes op (reduce_row k.0 k.1) k.2 p x c.push-in-Reduce.result (c.push-in-Reduce.ensures.emits k.0 k.1 p k.3) (c.push-in-Reduce.ensures.after k.0 k.1 p k.3) (λ h. (k.0, k.1, k.2, h)))

pub returns-in-Sum : goal.returns-in-Sum
returns-in-Sum c = λ op p after. (let k = subst (IsTotals op p) c.in-Sum.is after in
    let x = push_of c.args.port (plain_of c.args.item) (plain_of c.args.answer) in
    goes op sum_row k.0 p x c.push-in-Sum.result (c.push-in-Sum.ensures.emits p k.1) (c.push-in-Sum.ensures.after p k.1) (λ h. (k.0, h)))
