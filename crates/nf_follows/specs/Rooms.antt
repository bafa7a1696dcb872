-- Room for calls that are counted, and whose arguments are still gone through.
use Rattle.std.specs.Prelude.{◌≤◌, ◌+◌, length}
use Rattle.nf_plan.specs.declared.builder.PlanBuilder.{PlanBuilder}
use Rattle.nf_plan.specs.Plans.{ports_in}

-- no more nodes and ports were added than were counted in between: so what was counted before still has its room
pub record KeepsRoom (old new : PlanBuilder) : Type 0 where
  pub nodes : length new.nodes.items + old.sizes.nodes ≤ length old.nodes.items + new.sizes.nodes
  pub ports : ports_in new.nodes.items + old.sizes.ports ≤ ports_in old.nodes.items + new.sizes.ports
