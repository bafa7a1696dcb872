use Rattle.nf_plan.proofs.Keeping.{grown_plan, grown_counts}
use Rattle.nf_plan.proofs.builder.PlanBuilder.count.Goals as goal

pub returns-clause-counts : goal.returns-clause-counts
returns-clause-counts c = grown_counts c.args.self.now c.in-Some.sizes c.args.ports c.requires c.in-Some.ensures

pub returns-clause-plan : goal.returns-clause-plan
returns-clause-plan c = grown_plan c.args.self.now c.in-Some.sizes c.args.ports c.requires c.in-Some.ensures
