-- A plan to which nodes were added behind.
use Rattle.std.specs.Prelude.{◌≡◌, List, ◌++◌}
use Rattle.nf_graph.specs.declared.node.Node.{Node}
use Rattle.nf_plan.specs.NodeInfo.{NodeInfo}
use Rattle.nf_plan.specs.declared.builder.PlanBuilder.{PlanBuilder}

-- the nodes that were added, and what is known of them
pub record Extends (old new : PlanBuilder) : Type 0 where
  pub added : List Node
  pub known : List NodeInfo
  pub nodes : new.nodes.items ≡ old.nodes.items ++ added
  pub infos : new.infos.items ≡ old.infos.items ++ known
