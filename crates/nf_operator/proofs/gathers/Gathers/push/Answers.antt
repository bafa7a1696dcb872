use Rattle.std.proofs.Common.{subst}
use Rattle.nf_value.specs.View.{plain_of}
use Rattle.nf_opstream.specs.Push.{push_of}
use Rattle.nf_opclose.specs.Rows.{collect_row, count_row, if_empty_row, to_list_row, value_row}
use Rattle.nf_operator.specs.Kept.{IsGathers}
use Rattle.nf_operator.proofs.Pushing.{goes, goes_alone}
use Rattle.nf_operator.proofs.gathers.Gathers.push.Goals as goal

pub returns-in-Collect : goal.returns-in-Collect
returns-in-Collect c = λ op p after. (let k = subst (IsGathers op p) c.in-Collect.is after in
    let x = push_of c.args.port (plain_of c.args.item) (plain_of c.args.answer) in
    goes op (collect_row k.0) k.1 p x c.push.result (c.push.ensures.emits k.0 p k.2) (c.push.ensures.after k.0 p k.2) (λ h. (k.0, k.1, h)))

pub returns-in-Count : goal.returns-in-Count
returns-in-Count c = λ op p after. (let k = subst (IsGathers op p) c.in-Count.is after in
    let x = push_of c.args.port (plain_of c.args.item) (plain_of c.args.answer) in
    goes op count_row k.0 p x c.push-in-Count.result (c.push-in-Count.ensures.emits p k.1) (c.push-in-Count.ensures.after p k.1) (λ h. (k.0, h)))

pub returns-in-IfEmpty : goal.returns-in-IfEmpty
returns-in-IfEmpty c = λ op p after. (let k = subst (IsGathers op p) c.in-IfEmpty.is after in
    let x = push_of c.args.port (plain_of c.args.item) (plain_of c.args.answer) in
    goes op (if_empty_row k.0) k.1 p x c.push-in-IfEmpty.result (c.push-in-IfEmpty.ensures.emits k.0 p k.2) (c.push-in-IfEmpty.ensures.after k.0 p k.2) (λ h. (k.0, k.1, h)))

pub returns-in-ToList : goal.returns-in-ToList
returns-in-ToList c = λ op p after. (let k = subst (IsGathers op p) c.in-ToList.is after in
    let x = push_of c.args.port (plain_of c.args.item) (plain_of c.args.answer) in
    goes op to_list_row k.0 p x c.push-in-ToList.result (c.push-in-ToList.ensures.emits p k.1) (c.push-in-ToList.ensures.after p k.1) (λ h. (k.0, h)))

pub returns-in-Value : goal.returns-in-Value
returns-in-Value c = λ op p after. (let k = subst (IsGathers op p) c.in-Value.is after in
    let x = push_of c.args.port (plain_of c.args.item) (plain_of c.args.answer) in
    goes_alone op value_row k.0 p x c.push-in-Value.result (c.push-in-Value.ensures p k.1))
