-- The graph of a plan means what the calls mean that its nodes are of.
use Rattle.std.proofs.Common.{◌≡◌, ℕ, List, [], ◌∷◌, ◌++◌, Ok, Err, map, length, refl, ap, sym, ◌∙◌}
use Rattle.std.specs.Prelude.{Option}
use Rattle.std.specs.List.{flat_map}
use Rattle.std.proofs.lemmas.List.{map-append}
use Rattle.nf_value.specs.Plain.{Plain}
use Rattle.nf_value.specs.declared.place.Place.{Place}
use Rattle.nf_bag.specs.declared.options.OpOpts.{OpOpts}
use Rattle.nf_bag.specs.declared.rows.Row.{Row}
use Rattle.nf_bag.specs.declared.rows.Row.TheVariants as row
use Rattle.nf_bodies.specs.Placed.{Placed}
use Rattle.nf_job.specs.declared.report.Report.{Report}
use Rattle.nf_job.specs.declared.fault.TaskFault.{TaskFault}
use Rattle.nf_opstream.specs.Fault.{Fault}
use Rattle.nf_opstream.specs.Push.{Push}
use Rattle.nf_operator.specs.Answer as answer
use Rattle.nf_operator.specs.Row.{operator_of}
use Rattle.nf_tasks.specs.Judged.{Judged}
use Rattle.nf_tasks.specs.declared.target_list.Target.{Target}
use Rattle.nf_graph.specs.declared.node.NodeKind.{NodeKind}
use Rattle.nf_graph.specs.declared.node.NodeKind.TheVariants as k
use Rattle.nf_graph.specs.Rules.{Outs, fault_by}
use Rattle.nf_graph.specs.Node.{Kind, source, operator, process, PlainNode, node_at}
use Rattle.nf_graph.specs.Meaning.{printed, instances, numbered, same_inputs}
use Rattle.nf_graph.specs.Faults.{node_faults}
use Rattle.nf_graph.specs.WellMade.{node_in, plain_kind}
use Rattle.nf_bodies.specs.Bodies.{body_in, published_of}
use Rattle.nf_meaning.specs.Meaning.{Instance, operator_fails, task_fails, ScriptMeaning, nothing_meant, and_meant}
use Rattle.nf_meaning.specs.Walk.{State}
use Rattle.nf_meaning.specs.Operators as operators
use Rattle.nf_meaning.specs.Operators.{Call, answer as answer_in, item_fault, pushes_of, call_meaning, operator_in}
use Rattle.nf_meaning.specs.Tasks.{TaskCall, outs, published, targets_from, targets_in, faults_in, input_lists, decided_in, task_meaning}
use Rattle.nf_meaning.specs.Nodes.{Site, IsCallSite, MeansCall, IsTaskSite, MeansTasks, in_graph, site_of}
use Rattle.nf_plan.specs.declared.builder.PlanBuilder.{PlanBuilder}
use Rattle.nf_plan.specs.Plans.{graph_of, is_view, is_view_row, name_in, place_in}
use Rattle.nf_plan.specs.Runs.{Run, bags_of, NodeCall, source_call, operator_call, process_call, meaning_in, IsOperatorNode, IsProcessNode, IsNodeOf, AreNodesOf, meant_by, PlanStands}
use Rattle.nf_plan.specs.Whole.{in_script, faults_at, views_if, instances_at, named, targets_at, kind_meaning, meaning_to, graph_meaning}
use Rattle.nf_plan.proofs.Standing as standing

-- the laws of nodes
abbrev pub CallLaw : Type 0
CallLaw = (x : Site) (c : Call) → IsCallSite x c → MeansCall x c

abbrev pub TaskLaw : Type 0
TaskLaw = (x : Site) (queue : Option ℕ) (c : TaskCall) → IsTaskSite x queue c → MeansTasks x queue c

-- ---- faults there and back

back_operators : (path : List ℕ) (p : Place) (i : ℕ) (fs : List Fault)
    → map (in_script path p) (map (in_graph i) (map (operator_fails p) fs)) ≡ map (operator_fails p) fs
back_operators path p i [] = refl
back_operators path p i (f ∷ fs) = ap (λ zs. operator_fails p f ∷ zs) (back_operators path p i fs)

back_item : (path : List ℕ) (p : Place) (i : ℕ) (x : Plain) (r : Placed Plain) → map (in_script path p) (map (in_graph i) (item_fault x r)) ≡ item_fault x r
back_item path p i x (Ok v) = refl
back_item path p i x (Err f) = refl

back_items : (path : List ℕ) (p : Place) (i : ℕ) (answer : Plain → Placed Plain) (ds : List (ℕ × Plain))
    → map (in_script path p) (map (in_graph i) (flat_map (λ d. item_fault d.1 (answer d.1)) ds)) ≡ flat_map (λ d. item_fault d.1 (answer d.1)) ds
back_items path p i answer [] = refl
back_items path p i answer (d ∷ ds) =
    ap (map (in_script path p)) (map-append (in_graph i) (item_fault d.1 (answer d.1)) (flat_map (λ e. item_fault e.1 (answer e.1)) ds))
    ∙ map-append (in_script path p) (map (in_graph i) (item_fault d.1 (answer d.1))) (map (in_graph i) (flat_map (λ e. item_fault e.1 (answer e.1)) ds))
    ∙ ap (λ zs. zs ++ map (in_script path p) (map (in_graph i) (flat_map (λ e. item_fault e.1 (answer e.1)) ds))) (back_item path p i d.1 (answer d.1))
    ∙ ap (λ zs. item_fault d.1 (answer d.1) ++ zs) (back_items path p i answer ds)

back_call : (path : List ℕ) (i : ℕ) (c : Call) → map (in_script path c.place) (map (in_graph i) (call_meaning c).faults) ≡ (call_meaning c).faults
back_call path i c =
    let fs = operators.operator_faults c in
    let gs = operators.item_faults c in
    ap (map (in_script path c.place)) (map-append (in_graph i) fs gs)
    ∙ map-append (in_script path c.place) (map (in_graph i) fs) (map (in_graph i) gs)
    ∙ ap (λ zs. zs ++ map (in_script path c.place) (map (in_graph i) gs)) (back_operators path c.place i ((operator_in c).faults (pushes_of c)))
    ∙ ap (λ zs. fs ++ zs) (back_items path c.place i (answer_in c.row c.taken) (operators.delivered 0 c.channels))

back_task : (path : List ℕ) (p : Place) (i : ℕ) (z : Instance) (fs : List TaskFault) → z.call ≡ path
    → map (in_script path p) (map (in_graph i) (map (task_fails z) fs)) ≡ map (task_fails z) fs
back_task path p i z [] e = refl
back_task path p i z (f ∷ fs) e =
    ap (λ (q : List ℕ). task_fails (record { call = q; inputs = z.inputs; n = z.n }) f ∷ map (in_script path p) (map (in_graph i) (map (task_fails z) fs))) (sym e)
    ∙ ap (λ zs. task_fails z f ∷ zs) (back_task path p i z fs e)

back_tasks : (p : Place) (i : ℕ) (c : TaskCall) (zs : List (List Plain × ℕ))
    → map (in_script c.path p) (map (in_graph i) (flat_map (faults_in c) (map (named c.path) zs))) ≡ flat_map (faults_in c) (map (named c.path) zs)
back_tasks p i c [] = refl
back_tasks p i c (z ∷ zs) =
    let rest = flat_map (faults_in c) (map (named c.path) zs) in
    ap (map (in_script c.path p)) (map-append (in_graph i) (faults_in c (named c.path z)) rest)
    ∙ map-append (in_script c.path p) (map (in_graph i) (faults_in c (named c.path z))) (map (in_graph i) rest)
    ∙ ap (λ ys. ys ++ map (in_script c.path p) (map (in_graph i) rest)) (back_task c.path p i (named c.path z) (fault_by (decided_in c (named c.path z))) refl)
    ∙ ap (λ ys. faults_in c (named c.path z) ++ ys) (back_tasks p i c zs)

-- ---- what is published

targets_alike : (f g : ℕ → Report → Outs) (s t : ℕ → Report → Judged (List Target)) → ((a : ℕ) (r : Report) → f a r ≡ g a r) → ((a : ℕ) (r : Report) → s a r ≡ t a r)
    → (a : ℕ) (rs qs : List Report) → rs ≡ qs → targets_from f s a rs ≡ targets_from g t a qs
targets_alike f g s t h l a rs qs e = λ i. targets_from (λ b r. h b r i) (λ b r. l b r i) a (e i)

all_targets : (f : List Plain × ℕ → List Target) (c : TaskCall) → ((z : List Plain × ℕ) → f z ≡ targets_in c (named c.path z)) → (zs : List (List Plain × ℕ))
    → flat_map f zs ≡ flat_map (targets_in c) (map (named c.path) zs)
all_targets f c h [] = refl
all_targets f c h (z ∷ zs) = ap (λ ys. ys ++ flat_map f zs) (h z) ∙ ap (λ ys. targets_in c (named c.path z) ++ ys) (all_targets f c h zs)

-- ---- a node

views_are : (r : Row) (q : List Push) → views_if (is_view_row r) (answer.printed q) ≡ operators.printed r q
views_are row.View q = refl
views_are _ q = refl

-- the faults of a node depend on its kind and its ports
faults_by : (x : Run) (b : PlanBuilder) (i : ℕ) (n : PlainNode) (kind : Kind) → n.kind ≡ kind
    → node_faults x.rules x.outcomes (bags_of x b) i n n.kind ≡ node_faults x.rules x.outcomes (bags_of x b) i (record { kind = kind; ports = n.ports }) kind
faults_by x b i n kind e = ap (λ z. node_faults x.rules x.outcomes (bags_of x b) i (record { kind = z; ports = n.ports }) z) e

module _ (x : Run) (b : PlanBuilder) (i : ℕ) where
  abbrev node : PlainNode
  node = node_at (graph_of b) i

  operator_means : CallLaw → (c : Call) (r : Row) (opts : OpOpts) → (node_in b.nodes.items i).kind ≡ k.Op r opts → IsOperatorNode x b i c
      → kind_meaning x b i (k.Op r opts) ≡ call_meaning c
  operator_means law c r opts kind h =
      let means : MeansCall (site_of (graph_of b) x.rules x.outcomes i) c = law (site_of (graph_of b) x.rules x.outcomes i) c h.node.site in
      let view : is_view_row r ≡ is_view_row c.row = sym (ap is_view kind) ∙ h.view in
      let views : views_if (is_view_row r) (printed x.rules x.outcomes (graph_of b) i) ≡ operators.printed c.row (pushes_of c) =
      ap (λ t. views_if t (printed x.rules x.outcomes (graph_of b) i)) view
      ∙ ap (λ q. views_if (is_view_row c.row) (answer.printed q)) means.pushed
      ∙ views_are c.row (pushes_of c) in
      let faults : faults_at x b i ≡ (call_meaning c).faults =
      ap (λ p. map (in_script (name_in b.infos.items i) p) (node_faults x.rules x.outcomes (bags_of x b) i node node.kind)) h.place
      ∙ ap (map (in_script (name_in b.infos.items i) c.place)) (faults_by x b i node (operator (operator_in c)) h.node.kind ∙ means.faults)
      ∙ back_call (name_in b.infos.items i) i c in
      λ j. record nothing_meant { views = views j; deliveries = means.delivered j; faults = faults j }

  process_means : TaskLaw → (c : TaskCall) (queue : Option ℕ) → node.kind ≡ process queue → IsProcessNode x b i c → kind_meaning x b i (k.Process queue) ≡ task_meaning c
  process_means law c queue kind h =
      let site = site_of (graph_of b) x.rules x.outcomes i in
      let means : MeansTasks site h.node.queue c = law site h.node.queue c h.node.site in
      let same : queue ≡ h.node.queue = same_queue queue h.node.queue (sym kind ∙ h.node.kind) in
      let ys = numbered same_inputs (input_lists c.channels) in
      let made : instances_at x b i queue ≡ ys =
      ap (λ (q : Option ℕ). instances_at x b i q) same
      ∙ ap (λ (z : Kind). instances (bags_of x b) (record { kind = z; ports = node.ports }) h.node.queue) h.node.kind
      ∙ means.made in
      let targets : flat_map (targets_at x b i) (instances_at x b i queue) ≡ (task_meaning c).targets =
      ap (flat_map (targets_at x b i)) made
      ∙ all_targets (targets_at x b i) c (λ z. targets_alike (x.rules.outputs i z.0) (outs c.called z.0) (published_of x.program (body_in b.infos.items i) z.0) (published c.called z.0)
      (λ a r. h.node.site.amounts z.0 a r) (λ a r. h.publishes z.0 a r) 1 (x.outcomes i z.0 z.1) (c.outcomes c.path z.0 z.1) (h.node.site.reports z.0 z.1)) ys in
      let instances : map (named (name_in b.infos.items i)) (instances_at x b i queue) ≡ (task_meaning c).instances =
      ap (map (named (name_in b.infos.items i))) made ∙ ap (λ p. map (named p) ys) h.path in
      let faults : faults_at x b i ≡ (task_meaning c).faults =
      ap (λ q. map (in_script q (place_in b.infos.items i)) (node_faults x.rules x.outcomes (bags_of x b) i node node.kind)) h.path
      ∙ ap (map (in_script c.path (place_in b.infos.items i))) (faults_by x b i node (process h.node.queue) h.node.kind ∙ means.faults)
      ∙ back_tasks (place_in b.infos.items i) i c ys in
      λ j. record nothing_meant { targets = targets j; instances = instances j; deliveries = means.delivered j; faults = faults j }
    where
      same_queue : (p q : Option ℕ) → process p ≡ process q → p ≡ q
      same_queue p q e = cc

  -- a node in memory has the kind that the meaning of graphs sees
  plain_is : (kind : NodeKind) → (node_in b.nodes.items i).kind ≡ kind → node.kind ≡ plain_kind kind
  plain_is kind e = ap (λ (n : PlainNode). n.kind) (standing.plain_at b.nodes.items i) ∙ ap plain_kind e

  node_means : CallLaw → TaskLaw → (c : NodeCall) (kind : NodeKind) → (node_in b.nodes.items i).kind ≡ kind → IsNodeOf x b i c → kind_meaning x b i kind ≡ meaning_in c
  node_means calls tasks (source_call c) (k.Source items) e h = refl
  node_means calls tasks (source_call c) (k.Op r opts) e h = absurd (let z : operator (operator_of r opts) ≡ source c.bag = sym (plain_is (k.Op r opts) e) ∙ h in cc)
  node_means calls tasks (source_call c) (k.Process queue) e h = absurd (let z : process queue ≡ source c.bag = sym (plain_is (k.Process queue) e) ∙ h in cc)
  node_means calls tasks (operator_call c) (k.Source items) e h = absurd (let z : source items ≡ operator (operator_in c) = sym (plain_is (k.Source items) e) ∙ h.node.kind in cc)
  node_means calls tasks (operator_call c) (k.Op r opts) e h = operator_means calls c r opts e h
  node_means calls tasks (operator_call c) (k.Process queue) e h = absurd (let z : process queue ≡ operator (operator_in c) = sym (plain_is (k.Process queue) e) ∙ h.node.kind in cc)
  node_means calls tasks (process_call c) (k.Source items) e h = absurd (let z : source items ≡ process h.node.queue = sym (plain_is (k.Source items) e) ∙ h.node.kind in cc)
  node_means calls tasks (process_call c) (k.Op r opts) e h = absurd (let z : operator (operator_of r opts) ≡ process h.node.queue = sym (plain_is (k.Op r opts) e) ∙ h.node.kind in cc)
  node_means calls tasks (process_call c) (k.Process queue) e h = process_means tasks c queue (plain_is (k.Process queue) e) h

-- ---- all nodes

nodes_mean : CallLaw → TaskLaw → (x : Run) (b : PlanBuilder) (calls : List NodeCall) → AreNodesOf x b calls → meaning_to x b (length calls) ≡ meant_by calls
nodes_mean by_call by_task x b [] h = refl
nodes_mean by_call by_task x b (c ∷ earlier) h =
    ap (λ (m : ScriptMeaning). and_meant m (kind_meaning x b (length earlier) (node_in b.nodes.items (length earlier)).kind)) (nodes_mean by_call by_task x b earlier h.1)
    ∙ ap (λ (m : ScriptMeaning). and_meant (meant_by earlier) m) (node_means x b (length earlier) by_call by_task c (node_in b.nodes.items (length earlier)).kind refl h.0)

pub plan_means : CallLaw → TaskLaw → (x : Run) (b : PlanBuilder) (s : State) → PlanStands x b s → graph_meaning x b ≡ s.meant
plan_means by_call by_task x b s h =
    ap (meaning_to x b) (sym h.count) ∙ nodes_mean by_call by_task x b h.calls h.nodes ∙ h.meant
