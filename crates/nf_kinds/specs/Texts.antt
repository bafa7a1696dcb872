-- How a rule is printed.
use Rattle.std.specs.Prelude.{ℕ, List, codes}
use Rattle.nf_kinds.specs.declared.fault.OrderRule.{OrderRule}
use Rattle.nf_kinds.specs.declared.fault.OrderRule.TheVariants as rule

abbrev pub rule_text : OrderRule → List ℕ
rule_text rule.ProcessQueues = codes "Order rule 1"
rule_text rule.Arrival = codes "Order rule 2"
rule_text rule.ReduceClosure = codes "Order rule 3"
rule_text rule.ComparingClosure = codes "Order rule 4"
rule_text rule.GroupSize = codes "Order rule 5"
rule_text rule.SharedState = codes "Order rule 6"
