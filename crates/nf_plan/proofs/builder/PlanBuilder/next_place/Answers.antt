use Rattle.std.proofs.Common.{arith}
use Rattle.nf_plan.proofs.Fitting.{place_few}
use Rattle.nf_plan.proofs.builder.PlanBuilder.next_place.Goals as goal

pub overflow_cast-result : goal.overflow_cast-result
overflow_cast-result c = let few = place_few c.args.self.now c.requires in omega arith
