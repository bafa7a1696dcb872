use Rattle.std.proofs.Common.{subst}
use Rattle.nf_opjoin.specs.Combined.{combine_row}
use Rattle.nf_opjoin.specs.Grouped.{group_row}
use Rattle.nf_opjoin.specs.Joined.{join_row}
use Rattle.nf_operator.specs.Kept.{IsJoins}
use Rattle.nf_operator.proofs.Pushing.{ends}
use Rattle.nf_operator.proofs.joins.Joins.close.Goals as goal

pub returns-in-Combine : goal.returns-in-Combine
returns-in-Combine c = λ op p after. (let k = subst (IsJoins op p) c.in-Combine.is after in
    ends op (combine_row k.0) k.1 p c.close.result (c.close.ensures.ends k.0 p k.2))

pub returns-in-Group : goal.returns-in-Group
returns-in-Group c = λ op p after. (let k = subst (IsJoins op p) c.in-Group.is after in
    ends op (group_row k.0 k.1) k.2 p c.close-in-Group.result (c.close-in-Group.ensures.ends k.0 k.1 p k.3))

pub returns-in-Join : goal.returns-in-Join
returns-in-Join c = λ op p after. (let k = subst (IsJoins op p) c.in-Join.is after in
    ends op (join_row k.0 k.1) k.2 p c.close-in-Join.result (c.close-in-Join.ensures.ends k.0 k.1 p k.3))
