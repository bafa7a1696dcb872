use Rattle.std.proofs.Common.{subst}
use Rattle.nf_opclose.specs.Rows.{collect_row, count_row, if_empty_row, to_list_row, value_row}
use Rattle.nf_operator.specs.Kept.{IsGathers}
use Rattle.nf_operator.proofs.Pushing.{ends}
use Rattle.nf_operator.proofs.gathers.Gathers.close.Goals as goal

pub returns-in-Collect : goal.returns-in-Collect
returns-in-Collect c = λ op p after. (let k = subst (IsGathers op p) c.in-Collect.is after in
    ends op (collect_row k.0) k.1 p c.close.result (c.close.ensures.ends k.0 p k.2))

pub returns-in-Count : goal.returns-in-Count
returns-in-Count c = λ op p after. (let k = subst (IsGathers op p) c.in-Count.is after in
    ends op count_row k.0 p c.close-in-Count.result (c.close-in-Count.ensures.ends p k.1))

pub returns-in-IfEmpty : goal.returns-in-IfEmpty
returns-in-IfEmpty c = λ op p after. (let k = subst (IsGathers op p) c.in-IfEmpty.is after in
    ends op (if_empty_row k.0) k.1 p c.close-in-IfEmpty.result (c.close-in-IfEmpty.ensures.ends k.0 p k.2))

pub returns-in-ToList : goal.returns-in-ToList
returns-in-ToList c = λ op p after. (let k = subst (IsGathers op p) c.in-ToList.is after in
    ends op to_list_row k.0 p c.close-in-ToList.result (c.close-in-ToList.ensures p k.1))

pub returns-in-Value : goal.returns-in-Value
returns-in-Value c = λ op p after. (let k = subst (IsGathers op p) c.in-Value.is after in
    ends op value_row k.0 p c.close-in-Value.result (c.close-in-Value.ensures.ends p k.1))
