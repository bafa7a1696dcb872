-- A plan that is made node by node.
use Rattle.std.specs.Prelude.{◌≡◌, ◌≤◌, ◌<◌, ◌+◌, ℕ, suc, Bool, true, false, ◌&&◌, List, [], ◌∷◌, ◌++◌, map, get_or, length, sum_by, bytes_eq}
use Rattle.std.specs.List.{list_any}
use Rattle.nf_value.specs.declared.place.Place.{Place}
use Rattle.nf_bag.specs.declared.rows.Row.{Row}
use Rattle.nf_bag.specs.declared.rows.Row.TheVariants as row
use Rattle.nf_graph.specs.declared.port.Port.{Port}
use Rattle.nf_graph.specs.declared.node.Node.{Node}
use Rattle.nf_graph.specs.declared.node.NodeKind.{NodeKind}
use Rattle.nf_graph.specs.declared.node.NodeKind.TheVariants as k
use Rattle.nf_graph.specs.Node.{PlainNode, port_in}
use Rattle.nf_graph.specs.WellMade.{FitsKind, IsWellMade, ReadsEarlier, node_in, plain_graph}
use Rattle.nf_bodies.specs.Evaluation.{nowhere}
use Rattle.nf_bodies.specs.declared.body.NodeInfo.{NodeInfo}
use Rattle.nf_bodies.specs.declared.body.NodeBody.{NodeBody}
use Rattle.nf_bodies.specs.declared.body.NodeBody.TheVariants as body
use Rattle.nf_bodies.specs.Bodies.{body_in}
use Rattle.nf_meaning.specs.Walk as walk
use Rattle.nf_meaning.specs.Sizes.{is_within_limits}
use Rattle.nf_plan.specs.declared.want.Want.{Want}
use Rattle.nf_plan.specs.declared.builder.PlanBuilder.{PlanBuilder}
use Rattle.nf_plan.specs.Sizes.{sizes_of}

-- ---- its parts, as the walk through a script has them

abbrev pub want_of : Want → walk.Want
want_of x = record { path = x.path; must = x.must; pairs = x.pairs }

-- its nodes as the meaning of graphs sees them
abbrev pub graph_of : PlanBuilder → List PlainNode
graph_of b = plain_graph b.nodes.items

-- past the last node there is no name
abbrev pub name_in : List NodeInfo → ℕ → List ℕ
name_in infos i = get_or (map (λ x. x.name) infos) i []

-- its place in the script
abbrev pub place_in : List NodeInfo → ℕ → Place
place_in infos i = get_or (map (λ x. x.place) infos) i nowhere

-- how many channels the nodes read
abbrev pub ports_in : List Node → ℕ
ports_in nodes = sum_by (λ n. length n.ports) nodes

-- ---- views

abbrev pub is_view_row : Row → Bool
is_view_row row.View = true
is_view_row _ = false

abbrev pub is_view : NodeKind → Bool
is_view (k.Op row opts) = is_view_row row
is_view (k.Source items) = false
is_view (k.Process queue) = false

abbrev pub place_if : Bool → ℕ → List ℕ
place_if true i = i ∷ []
place_if false i = []

-- the places of the nodes of `view`, the first of these nodes at place i
abbrev pub views_from : ℕ → List Node → List ℕ
views_from i [] = []
views_from i (n ∷ nodes) = place_if (is_view n.kind) i ++ views_from (suc i) nodes

-- ---- processes

abbrev pub is_process : NodeBody → Bool
is_process (body.Process s) = true
is_process _ = false

-- a process's node has a process of its name as its body, and no other node has one
abbrev pub FitsBody : NodeKind → List ℕ → NodeBody → Type 0
FitsBody (k.Process queue) n (body.Process s) = s.name ≡ n
FitsBody (k.Process queue) n _ = ⊥
FitsBody (k.Source items) n b = is_process b ≡ false
FitsBody (k.Op row opts) n b = is_process b ≡ false

-- the call of a process that has this path
abbrev pub is_call_of : List ℕ → NodeInfo → Bool
is_call_of path x = is_process x.body && bytes_eq x.name path

abbrev pub has_call_of : List ℕ → List NodeInfo → Bool
has_call_of path infos = list_any (is_call_of path) infos

-- no two calls of processes have one path
abbrev pub PathsApart : List NodeInfo → Type 0
PathsApart infos =
    (i j : ℕ) → is_process (body_in infos i) ≡ true → is_process (body_in infos j) ≡ true
    → name_in infos i ≡ name_in infos j → i ≡ j

-- ---- a plan

-- The nodes make a graph, each with its name and body; the views are those of the graph; and the sources and calls that
-- are counted so far are as many as the nodes, or more, and within the limits
pub record IsPlan (b : PlanBuilder) : Type 0 where
  pub graph : IsWellMade b.nodes.items
  pub infos : length b.infos.items ≡ length b.nodes.items
  pub bodies : (i : ℕ) → FitsBody (node_in b.nodes.items i).kind (name_in b.infos.items i) (body_in b.infos.items i)
  pub views : b.views.items ≡ views_from 0 b.nodes.items
  pub paths : PathsApart b.infos.items
  pub nodes : length b.nodes.items ≤ b.sizes.nodes
  pub ports : ports_in b.nodes.items ≤ b.sizes.ports
  pub within : is_within_limits (sizes_of b.sizes) ≡ true

-- one more source or call that reads so many channels has been counted
pub record HasRoom (b : PlanBuilder) (more : ℕ) : Type 0 where
  pub nodes : length b.nodes.items < b.sizes.nodes
  pub ports : ports_in b.nodes.items + more ≤ b.sizes.ports

-- each port reads an output of a node of the plan, a value port that of a value channel
abbrev pub ReadPlan : PlanBuilder → List Port → Type 0
ReadPlan b ports =
    (i : ℕ) → i < length ports → ReadsEarlier b.nodes.items (length b.nodes.items) (port_in ports i)

-- the node and what is known of it fit the plan
pub record FitsPlan (b : PlanBuilder) (node : Node) (info : NodeInfo) : Type 0 where
  pub room : HasRoom b (length node.ports)
  pub kind : FitsKind node node.kind
  pub reads : ReadPlan b node.ports
  pub body : FitsBody node.kind info.name info.body
  pub path : is_process info.body ≡ true → has_call_of info.name b.infos.items ≡ false

-- the plan has one node more, its last, and all else stays
pub record Adds (old new : PlanBuilder) (node : Node) (info : NodeInfo) : Type 0 where
  pub nodes : new.nodes.items ≡ old.nodes.items ++ node ∷ []
  pub infos : new.infos.items ≡ old.infos.items ++ info ∷ []
  pub wants : new.wants.items ≡ old.wants.items
  pub sizes : new.sizes ≡ old.sizes

-- the plan has what it had
pub record IsSamePlan (old new : PlanBuilder) : Type 0 where
  pub nodes : new.nodes.items ≡ old.nodes.items
  pub infos : new.infos.items ≡ old.infos.items
  pub views : new.views.items ≡ old.views.items
  pub wants : new.wants.items ≡ old.wants.items
  pub sizes : new.sizes ≡ old.sizes
