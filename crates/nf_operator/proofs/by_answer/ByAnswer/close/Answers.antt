use Rattle.std.proofs.Common.{subst}
use Rattle.nf_opstream.specs.Rows.{branch_row, filter_row, flat_map_row, map_row, multi_map_row}
use Rattle.nf_operator.specs.Kept.{IsByAnswer}
use Rattle.nf_operator.proofs.Pushing.{ends}
use Rattle.nf_operator.proofs.by_answer.ByAnswer.close.Goals as goal

pub returns-in-Branch : goal.returns-in-Branch
returns-in-Branch c = λ op p after. (let k = subst (IsByAnswer op p) c.in-Branch.is after in
    ends op (branch_row k.0) k.1 p c.close.result (c.close.ensures.ends k.0 p k.2))

pub returns-in-Filter : goal.returns-in-Filter
returns-in-Filter c = λ op p after. (let k = subst (IsByAnswer op p) c.in-Filter.is after in
    ends op filter_row k.0 p c.close-in-Filter.result (c.close-in-Filter.ensures.ends p k.1))

pub returns-in-FlatMap : goal.returns-in-FlatMap
returns-in-FlatMap c = λ op p after. (let k = subst (IsByAnswer op p) c.in-FlatMap.is after in
    ends op flat_map_row k.0 p c.close-in-FlatMap.result (c.close-in-FlatMap.ensures.ends p k.1))

pub returns-in-Map : goal.returns-in-Map
returns-in-Map c = λ op p after. (let k = subst (IsByAnswer op p) c.in-Map.is after in
    ends op map_row k.0 p c.close-in-Map.result (c.close-in-Map.ensures.ends p k.1))

pub returns-in-MultiMap : goal.returns-in-MultiMap
returns-in-MultiMap c = λ op p after. (let k = subst (IsByAnswer op p) c.in-MultiMap.is after in
    ends op (multi_map_row k.0) k.1 p c.close-in-MultiMap.result (c.close-in-MultiMap.ensures.ends k.0 p k.2))
