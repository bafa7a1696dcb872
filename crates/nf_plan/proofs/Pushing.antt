-- A node and what is known of it are pushed behind the others.
use Rattle.std.proofs.Common.{◌≡◌, ℕ, List, [], ◌∷◌, ◌++◌, length, ap, ◌∙◌}
use Rattle.nf_graph.specs.declared.node.Node.{Node}
use Rattle.nf_bodies.specs.declared.body.NodeInfo.{NodeInfo}
use Rattle.nf_plan.specs.declared.builder.PlanBuilder.{PlanBuilder}
use Rattle.nf_plan.specs.Plans.{is_view, place_if, IsPlan, IsSamePlan, FitsPlan, Adds}
use Rattle.nf_plan.proofs.Nodes.{plan_grows}

-- first there is room (mid), then the view is noted (seen), then the node is pushed (new)
module _ (old mid seen new : PlanBuilder) (node : Node) (info : NodeInfo) (same : IsSamePlan old mid) (others : seen ≡ record mid { views = seen.views })
    (nodes : new.nodes.items ≡ seen.nodes.items ++ node ∷ []) (infos : new.infos.items ≡ seen.infos.items ++ info ∷ []) (wants : new.wants ≡ seen.wants) (sizes : new.sizes ≡ seen.sizes) where
  pub pushed : Adds old new node info
  pushed = record {
    nodes = nodes ∙ ap (λ (b : PlanBuilder). b.nodes.items ++ node ∷ []) others ∙ ap (λ (ns : List Node). ns ++ node ∷ []) same.nodes;
    infos = infos ∙ ap (λ (b : PlanBuilder). b.infos.items ++ info ∷ []) others ∙ ap (λ (xs : List NodeInfo). xs ++ info ∷ []) same.infos;
    wants = ap (λ w. w.items) wants ∙ ap (λ (b : PlanBuilder). b.wants.items) others ∙ same.wants;
    sizes = sizes ∙ ap (λ (b : PlanBuilder). b.sizes) others ∙ same.sizes;
  }

  pub pushed_plan : (place : ℕ) → IsPlan old → FitsPlan old node info → place ≡ length old.nodes.items → new.views.items ≡ mid.views.items ++ place_if (is_view node.kind) place → IsPlan new
  pushed_plan place plan fits at views =
      plan_grows old new node info plan fits pushed
      (views ∙ ap (λ vs. vs ++ place_if (is_view node.kind) place) same.views ∙ ap (λ i. old.views.items ++ place_if (is_view node.kind) i) at)
