use Rattle.std.proofs.Common.{subst}
use Rattle.nf_opstream.specs.Rows.{flatten_row, pass_row, transpose_row, unique_row}
use Rattle.nf_operator.specs.Kept.{IsByItem}
use Rattle.nf_operator.proofs.Pushing.{ends}
use Rattle.nf_operator.proofs.by_item.ByItem.close.Goals as goal

pub returns-in-Flatten : goal.returns-in-Flatten
returns-in-Flatten c = λ op p after. (let k = subst (IsByItem op p) c.in-Flatten.is after in
    ends op flatten_row k.0 p c.close.result (c.close.ensures.ends p k.1))

pub returns-in-Pass : goal.returns-in-Pass
returns-in-Pass c = λ op p after. (let k = subst (IsByItem op p) c.in-Pass.is after in
    ends op pass_row k.0 p c.close-in-Pass.result (c.close-in-Pass.ensures.ends p k.1))

pub returns-in-Transpose : goal.returns-in-Transpose
returns-in-Transpose c = λ op p after. (let k = subst (IsByItem op p) c.in-Transpose.is after in
    ends op transpose_row k.0 p c.close-in-Transpose.result (c.close-in-Transpose.ensures.ends p k.1))

pub returns-in-Unique : goal.returns-in-Unique
returns-in-Unique c = λ op p after. (let k = subst (IsByItem op p) c.in-Unique.is after in
    ends op unique_row k.0 p c.close-in-Unique.result (c.close-in-Unique.ensures.ends p k.1))
