use Rattle.std.proofs.Common.{subst}
use Rattle.nf_value.specs.View.{plain_of}
use Rattle.nf_opstream.specs.Push.{push_of}
use Rattle.nf_opstream.specs.Rows.{branch_row, filter_row, flat_map_row, map_row, multi_map_row}
use Rattle.nf_operator.specs.Kept.{IsByAnswer}
use Rattle.nf_operator.proofs.Pushing.{goes, goes_alone}
use Rattle.nf_operator.proofs.by_answer.ByAnswer.push.Goals as goal

pub returns-in-Branch : goal.returns-in-Branch
returns-in-Branch c = λ op p after. (let k = subst (IsByAnswer op p) c.in-Branch.is after in
    let x = push_of c.args.port (plain_of c.args.item) (plain_of c.args.answer) in
    goes op (branch_row k.0) k.1 p x c.push.result (c.push.ensures.emits k.0 p k.2) (c.push.ensures.after k.0 p k.2) (λ h. (k.0, k.1, h)))

pub returns-in-Filter : goal.returns-in-Filter
returns-in-Filter c = λ op p after. (let k = subst (IsByAnswer op p) c.in-Filter.is after in
    let x = push_of c.args.port (plain_of c.args.item) (plain_of c.args.answer) in
    goes_alone op filter_row k.0 p x c.push-in-Filter.result (c.push-in-Filter.ensures p k.1))

pub returns-in-FlatMap : goal.returns-in-FlatMap
returns-in-FlatMap c = λ op p after. (let k = subst (IsByAnswer op p) c.in-FlatMap.is after in
    let x = push_of c.args.port (plain_of c.args.item) (plain_of c.args.answer) in
    goes_alone op flat_map_row k.0 p x c.push-in-FlatMap.result (c.push-in-FlatMap.ensures p k.1))

pub returns-in-Map : goal.returns-in-Map
returns-in-Map c = λ op p after. (let k = subst (IsByAnswer op p) c.in-Map.is after in
    let x = push_of c.args.port (plain_of c.args.item) (plain_of c.args.answer) in
    goes_alone op map_row k.0 p x c.push-in-Map.result (c.push-in-Map.ensures p k.1))

pub returns-in-MultiMap : goal.returns-in-MultiMap
returns-in-MultiMap c = λ op p after. (let k = subst (IsByAnswer op p) c.in-MultiMap.is after in
    let x = push_of c.args.port (plain_of c.args.item) (plain_of c.args.answer) in
    goes op (multi_map_row k.0) k.1 p x c.push-in-MultiMap.result (c.push-in-MultiMap.ensures.emits k.0 p k.2) (c.push-in-MultiMap.ensures.after k.0 p k.2) (λ h. (k.0, k.1, h)))
