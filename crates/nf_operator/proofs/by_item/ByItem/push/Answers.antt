use Rattle.std.proofs.Common.{subst}
use Rattle.nf_value.specs.View.{plain_of}
use Rattle.nf_opstream.specs.Push.{push_of}
use Rattle.nf_opstream.specs.Rows.{flatten_row, pass_row, transpose_row, unique_row}
use Rattle.nf_operator.specs.Kept.{IsByItem}
use Rattle.nf_operator.proofs.Pushing.{goes, goes_alone}
use Rattle.nf_operator.proofs.by_item.ByItem.push.Goals as goal

pub returns-in-Flatten : goal.returns-in-Flatten
returns-in-Flatten c = λ op p after. (let k = subst (IsByItem op p) c.in-Flatten.is after in
    let x = push_of c.args.port (plain_of c.args.item) (plain_of c.args.answer) in
    goes_alone op flatten_row k.0 p x c.push.result (c.push.ensures p k.1))

pub returns-in-Pass : goal.returns-in-Pass
returns-in-Pass c = λ op p after. (let k = subst (IsByItem op p) c.in-Pass.is after in
    let x = push_of c.args.port (plain_of c.args.item) (plain_of c.args.answer) in
    goes_alone op pass_row k.0 p x c.push-in-Pass.result (c.push-in-Pass.ensures p k.1))

pub returns-in-Transpose : goal.returns-in-Transpose
returns-in-Transpose c = λ op p after. (let k = subst (IsByItem op p) c.in-Transpose.is after in
    let x = push_of c.args.port (plain_of c.args.item) (plain_of c.args.answer) in
    goes_alone op transpose_row k.0 p x c.push-in-Transpose.result (c.push-in-Transpose.ensures p k.1))

pub returns-in-Unique : goal.returns-in-Unique
returns-in-Unique c = λ op p after. (let k = subst (IsByItem op p) c.in-Unique.is after in
    let x = push_of c.args.port (plain_of c.args.item) (plain_of c.args.answer) in
    goes op unique_row k.0 p x c.push-in-Unique.result (c.push-in-Unique.ensures.emits p k.1) (c.push-in-Unique.ensures.after p k.1) (λ h. (k.0, h)))
