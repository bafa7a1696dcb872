use Rattle.std.proofs.Common.{refl}
use Rattle.nf_plan.specs.declared.builder.PlanBuilder.{PlanBuilder}
use Rattle.nf_plan.proofs.Keeping.{wanted}
use Rattle.nf_plan.proofs.builder.PlanBuilder.want.Goals as goal

pub returns-clause-stands : goal.returns-clause-stands
returns-clause-stands c =
    let old = c.args.self.now in
    let new : PlanBuilder = record { nodes = old.nodes; infos = old.infos; views = old.views; wants = c.push.new.self; sizes = old.sizes } in
    wanted old new c.args.want refl refl refl c.in_ok-push.ensures.items
