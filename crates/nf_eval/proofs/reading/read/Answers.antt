use Rattle.std.proofs.Common.{◌≡◌, rules}
use Rattle.nf_eval.specs.Memory.{seen}
use Rattle.nf_eval.proofs.Chaining.{read_name, read_math}
use Rattle.nf_eval.proofs.reading.read.Goals as goal

pub returns-in-Name : goal.returns-in-Name
returns-in-Name c titles answer =
    let same : c.as_str.result.now ≡ c.in-Name.name = search rules in
    read_name c.args.subject c.in-Name.field-0 c.in-Name.name c.as_str.result.now (seen c.args.around.now titles answer) c.in_ok-value_seen-in-Name.field-0 c.in-Name.is same (c.in_ok-value_seen-in-Name.ensures titles answer)

pub returns-in-Math : goal.returns-in-Math
returns-in-Math c titles answer =
    let same : c.as_str-in-Math.result.now ≡ c.in-Math.name = search rules in
    read_math c.args.subject c.in-Math.place c.in-Math.name c.as_str-in-Math.result.now (seen c.args.around.now titles answer) c.in_ok-value-in-Math.value c.property_value-in-Math.result c.in-Math.is same (c.in_ok-value-in-Math.ensures titles answer) c.property_value-in-Math.ensures
