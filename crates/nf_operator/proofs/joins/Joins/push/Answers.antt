use Rattle.std.proofs.Common.{subst}
use Rattle.nf_value.specs.View.{plain_of}
use Rattle.nf_opstream.specs.Push.{push_of}
use Rattle.nf_opjoin.specs.Combined.{combine_row}
use Rattle.nf_opjoin.specs.Grouped.{group_row}
use Rattle.nf_opjoin.specs.Joined.{join_row}
use Rattle.nf_operator.specs.Kept.{IsJoins}
use Rattle.nf_operator.proofs.Pushing.{goes}
use Rattle.nf_operator.proofs.joins.Joins.push.Goals as goal

pub returns-in-Combine : goal.returns-in-Combine
returns-in-Combine c = λ op p after. (let k = subst (IsJoins op p) c.in-Combine.is after in
    let x = push_of c.args.port (plain_of c.args.item) (plain_of c.args.answer) in
    goes op (combine_row k.0) k.1 p x c.push.result (c.push.ensures.emits k.0 p k.2) (c.push.ensures.after k.0 p k.2) (λ h. (k.0, k.1, h)))

pub returns-in-Group : goal.returns-in-Group
returns-in-Group c = λ op p after. (let k = subst (IsJoins op p) c.in-Group.is after in
    let x = push_of c.args.port (plain_of c.args.item) (plain_of c.args.answer) in
    goes op (group_row k.0 k.1) k.2 p x c.push-in-Group.result (c.push-in-Group.ensures.emits k.0 k.1 p k.3) (c.push-in-Group.ensures.after k.0 k.1 p k.3) (λ h. (k.0, k.1, k.2, h)))

pub returns-in-Join : goal.returns-in-Join
returns-in-Join c = λ op p after. (let k = subst (IsJoins op p) c.in-Join.is after in
    let x = push_of c.args.port (plain_of c.args.item) (plain_of c.args.answer) in
    goes op (join_row k.0 k.1) k.2 p x c.push-in-Join.result (c.push-in-Join.ensures.emits k.0 k.1 p k.3) (c.push-in-Join.ensures.after k.0 k.1 p k.3) (λ h. (k.0, k.1, k.2, h)))
