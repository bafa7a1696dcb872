use Rattle.nf_plan.proofs.Whole.{plan_means}
use Rattle.nf_plan.proofs.laws.plans_mean.Goals as goal

pub returns : goal.returns
returns c x b s h = plan_means c.operator_node.ensures c.process_node.ensures x b s h
