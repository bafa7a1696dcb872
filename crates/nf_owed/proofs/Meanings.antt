-- What the graph of a plan means, part by part, in the words of graphs.
use Rattle.std.proofs.Common.{◌≡◌, ℕ, zero, suc, ◌+◌, ◌<◌, ◌≤◌, List, [], ◌∷◌, ◌++◌, map, length, get_or, take, Bool, true, false, refl, ap, sym, ◌∙◌, subst, arith, ◌⊎◌, inl, inr}
use Rattle.std.specs.Prelude.{Result, Ok, Err, sum_by}
use Rattle.std.specs.List.{flat_map}
use Rattle.std.proofs.lemmas.List.{take_more, take_all, length-map, length-take-le}
use Rattle.std.proofs.lemmas.List.Sums.{sum_by-append, sum_by-cons}
use Rattle.std.proofs.Math.ListN.{get_or-map}
use Rattle.nf_value.specs.Plain.{Plain}
use Rattle.nf_value.specs.declared.fault.EvalFault.{EvalFault}
use Rattle.nf_bag.specs.Bag.{IsSameBag}
use Rattle.nf_job.specs.declared.report.Report.{Report}
use Rattle.nf_job.specs.declared.emitted.Outputs.TheVariants.{Emits, Ignored, Failed, Again}
use Rattle.nf_opstream.proofs.Members.{In}
use Rattle.nf_tasks.specs.declared.target_list.Target.{Target}
use Rattle.nf_tasks.specs.Judged.{Judged}
use Rattle.nf_graph.specs.declared.port.Port.{Port}
use Rattle.nf_graph.specs.declared.node.Node.{Node}
use Rattle.nf_graph.specs.declared.node.NodeKind.{NodeKind}
use Rattle.nf_graph.specs.declared.node.NodeKind.TheVariants as k
use Rattle.nf_graph.specs.Rules.{Rules, Outs, fault_by}
use Rattle.nf_graph.specs.Node.{Kind, source, operator, process, PlainNode, node_at, IsGraph}
use Rattle.nf_graph.specs.Meaning as graph
use Rattle.nf_graph.specs.Meaning.{Bags, bags, bag_of, cost, delivered, deliveries, printed}
use Rattle.nf_graph.specs.Faults as fault
use Rattle.nf_graph.specs.Faults.{GraphFault, item_faults, node_faults, faults_to, faults}
use Rattle.nf_graph.specs.WellMade.{no_source, node_in, plain_kind, plain_node}
use Rattle.nf_machine.proofs.Membership.{in_left, in_right, in_map}
use Rattle.nf_meaning.specs.Meaning.{ScriptFault}
use Rattle.nf_meaning.specs.Report.{AreSameBags, bag_cost}
use Rattle.nf_meaning.specs.Tasks.{targets_if, targets_from}
use Rattle.nf_bodies.specs.Bodies.{body_in, published_of}
use Rattle.nf_plan.specs.declared.builder.PlanBuilder.{PlanBuilder}
use Rattle.nf_plan.specs.Plans.{graph_of, is_view, name_in, place_in}
use Rattle.nf_plan.specs.Runs.{Run, bags_of}
use Rattle.nf_plan.specs.Whole.{faults_at, in_script, instances_at, kind_meaning, meaning_to, targets_at, views_if, graph_meaning}
use Rattle.nf_shown.specs.Shown.{views_from}
use Rattle.nf_owed.specs.Finished.{PublishesNone}

pub node_is : (b : PlanBuilder) (i : ℕ) → node_at (graph_of b) i ≡ plain_node (node_in b.nodes.items i)
node_is b i = get_or-map plain_node b.nodes.items i no_source

cons_nil : {A : Type 0} (z : A) (zs : List A) → z ∷ zs ≡ [] → ⊥
cons_nil z zs e = cc

-- ---- faults

-- the node of a fault
abbrev pub fault_node : GraphFault → ℕ
fault_node (fault.item_fails i x f) = i
fault_node (fault.op_fails i f) = i
fault_node (fault.task_fails i inputs n f) = i

in_cases : {A : Type 0} (x : A) (xs ys : List A) → In x (xs ++ ys) → In x xs ⊎ In x ys
in_cases x [] ys m = inr m
in_cases x (y ∷ xs) ys m = elim m [ inl e ↦ inl (inl e) | inr r ↦ elim (in_cases x xs ys r) [ inl a ↦ inl (inr a) | inr z ↦ inr z ] ]

-- all members have it
abbrev AllIn : {A : Type 0} → (A → Type 0) → List A → Type 0
AllIn {A = A} P xs = (x : A) → In x xs → P x

all_both : {A : Type 0} (P : A → Type 0) (xs ys : List A) → AllIn P xs → AllIn P ys → AllIn P (xs ++ ys)
all_both P xs ys a z x m = elim (in_cases x xs ys m) [ inl l ↦ a x l | inr r ↦ z x r ]

all_map : {A B : Type 0} (P : B → Type 0) (f : A → B) (xs : List A) → ((x : A) → P (f x)) → AllIn P (map f xs)
all_map P f [] each y m = absurd m
all_map P f (x ∷ xs) each y m = elim m [ inl e ↦ subst P (sym e) (each x) | inr r ↦ all_map P f xs each y r ]

all_flat : {A B : Type 0} (P : B → Type 0) (f : A → List B) (xs : List A) → ((x : A) → AllIn P (f x)) → AllIn P (flat_map f xs)
all_flat P f [] each y m = absurd m
all_flat P f (x ∷ xs) each y m = all_both P (f x) (flat_map f xs) (each x) (all_flat P f xs each) y m

item_nodes : (i : ℕ) (x : Plain) (r : Result Plain EvalFault) → AllIn (λ f. fault_node f ≡ i) (item_faults i x r)
item_nodes i x (Ok a) f m = absurd m
item_nodes i x (Err z) f m = elim m [ inl e ↦ ap fault_node e | inr r ↦ absurd r ]

-- a node's faults name it
own_faults : (R : Rules) (o : graph.Outcomes) (bs : Bags) (i : ℕ) (nd : PlainNode) (kind : Kind) → AllIn (λ f. fault_node f ≡ i) (node_faults R o bs i nd kind)
own_faults R o bs i nd (source items) f m = absurd m
own_faults R o bs i nd (operator op) f m =
    all_both (λ g. fault_node g ≡ i) (map (fault.op_fails i) (op.faults (graph.pushes R i (deliveries bs nd)))) (flat_map (λ d. item_faults i d.1 (R.answer i d.1)) (deliveries bs nd))
    (all_map (λ g. fault_node g ≡ i) (fault.op_fails i) (op.faults (graph.pushes R i (deliveries bs nd))) (λ z. refl))
    (all_flat (λ g. fault_node g ≡ i) (λ d. item_faults i d.1 (R.answer i d.1)) (deliveries bs nd) (λ d. item_nodes i d.1 (R.answer i d.1))) f m
own_faults R o bs i nd (process queue) f m =
    all_flat (λ g. fault_node g ≡ i) (fault.task_faults R o i) (graph.instances bs nd queue)
    (λ z. all_map (λ g. fault_node g ≡ i) (fault.task_fails i z.0 z.1) (fault_by (graph.decided_under R o i z)) (λ x. refl)) f m

same_append : (a z c d : List (List Plain)) → AreSameBags a z → AreSameBags c d → AreSameBags (a ++ c) (z ++ d)
same_append [] [] c d h l = l
same_append [] (y ∷ z) c d h l = absurd h
same_append (w ∷ a) [] c d h l = absurd h
same_append (w ∷ a) (y ∷ z) c d h l = (h.0, same_append a z c d h.1 l)

same_if : (v : Bool) (a z : List Plain) → (v ≡ true → IsSameBag a z) → AreSameBags (views_if v a) (views_if v z)
same_if true a z h = (h refl, tt)
same_if false a z h = tt

if_none : (outs : Outs) (published : Judged (List Target)) (later : List Target) → PublishesNone published → later ≡ [] → targets_if outs published later ≡ []
if_none (Ok Again) published later none l = l
if_none (Ok (Emits vs)) (Ok ts) later none l = none
if_none (Ok (Emits vs)) (Err f) later none l = refl
if_none (Ok Ignored) published later none l = refl
if_none (Ok (Failed f)) published later none l = refl
if_none (Err f) published later none l = refl

module _ (x : Run) (b : PlanBuilder) where
  -- the fault, as the script has it
  abbrev pub named_fault : GraphFault → ScriptFault
  named_fault f = in_script (name_in b.infos.items (fault_node f)) (place_in b.infos.items (fault_node f)) f

  kind_faults : (i : ℕ) (kind : NodeKind) → (node_at (graph_of b) i).kind ≡ plain_kind kind → (kind_meaning x b i kind).faults ≡ faults_at x b i
  kind_faults i (k.Source items) is =
      sym (ap (λ (z : Kind). map (in_script (name_in b.infos.items i) (place_in b.infos.items i)) (node_faults x.rules x.outcomes (bags_of x b) i (node_at (graph_of b) i) z)) is)
  kind_faults i (k.Op row opts) is = refl
  kind_faults i (k.Process queue) is = refl

  at_node : (i : ℕ) → (kind_meaning x b i (node_in b.nodes.items i).kind).faults ≡ faults_at x b i
  at_node i = kind_faults i (node_in b.nodes.items i).kind (ap (λ (z : PlainNode). z.kind) (node_is b i))

  pub fault_in : (f : GraphFault) (m : ℕ) → In f (faults_to x.rules x.outcomes (bags_of x b) (graph_of b) m) → In (named_fault f) (meaning_to x b m).faults
  fault_in f zero h = absurd h
  fault_in f (suc i) h =
      let here : List GraphFault = node_faults x.rules x.outcomes (bags_of x b) i (node_at (graph_of b) i) (node_at (graph_of b) i).kind in
      elim (in_cases f here (faults_to x.rules x.outcomes (bags_of x b) (graph_of b) i) h) [
        | inl now ↦ in_right (named_fault f) (meaning_to x b i).faults (kind_meaning x b i (node_in b.nodes.items i).kind).faults
            (subst (In (named_fault f)) (sym (at_node i))
            (let own : fault_node f ≡ i = own_faults x.rules x.outcomes (bags_of x b) i (node_at (graph_of b) i) (node_at (graph_of b) i).kind f now in
            subst (λ j. In (in_script (name_in b.infos.items j) (place_in b.infos.items j) f) (faults_at x b i)) (sym own)
            (in_map (in_script (name_in b.infos.items i) (place_in b.infos.items i)) f here now)))
        | inr before ↦ in_left (named_fault f) (meaning_to x b i).faults (kind_meaning x b i (node_in b.nodes.items i).kind).faults (fault_in f i before)
      ]

  pub none_to : (m : ℕ) → faults_to x.rules x.outcomes (bags_of x b) (graph_of b) m ≡ [] → (meaning_to x b m).faults ≡ []
  none_to zero h = refl
  none_to (suc i) h =
      let here : List GraphFault = node_faults x.rules x.outcomes (bags_of x b) i (node_at (graph_of b) i) (node_at (graph_of b) i).kind in
      let two = both_none here (faults_to x.rules x.outcomes (bags_of x b) (graph_of b) i) h in
      ap (λ (fs : List ScriptFault). fs ++ (kind_meaning x b i (node_in b.nodes.items i).kind).faults) (none_to i two.1)
      ∙ at_node i ∙ ap (map (in_script (name_in b.infos.items i) (place_in b.infos.items i))) two.0
    where
      both_none : {A : Type 0} (xs ys : List A) → xs ++ ys ≡ [] → (xs ≡ []) × (ys ≡ [])
      both_none [] ys e = (refl, e)
      both_none (z ∷ xs) ys e = absurd (cons_nil z (xs ++ ys) e)

  -- ---- the charge

  port_costs : (bs : Bags) (port : ℕ) (ps : List Port) → sum_by (λ d. cost d.1) (delivered bs port ps) ≡ sum_by bag_cost (map (bag_of bs) ps)
  port_costs bs port [] = refl
  port_costs bs port (p ∷ ps) =
      let front : List (ℕ × Plain) = map (λ v. (port, v)) (bag_of bs p) in
      sum_by-append (λ (d : ℕ × Plain). cost d.1) front (delivered bs (suc port) ps)
      ∙ ap (λ c. c + sum_by (λ d. cost d.1) (delivered bs (suc port) ps)) (same (bag_of bs p))
      ∙ ap (λ c. bag_cost (bag_of bs p) + c) (port_costs bs (suc port) ps)
      ∙ sym (sum_by-cons bag_cost (bag_of bs p) (map (bag_of bs) ps))
    where
      same : (vs : List Plain) → sum_by (λ (d : ℕ × Plain). cost d.1) (map (λ v. (port, v)) vs) ≡ bag_cost vs
      same [] = refl
      same (v ∷ vs) = sum_by-cons (λ (d : ℕ × Plain). cost d.1) (port, v) (map (λ w. (port, w)) vs) ∙ ap (λ c. cost v + c) (same vs) ∙ sym (sum_by-cons cost v vs)

  kind_cost : IsGraph (graph_of b) → (i : ℕ) (kind : NodeKind) → (node_at (graph_of b) i).kind ≡ plain_kind kind
      → sum_by bag_cost (kind_meaning x b i kind).deliveries ≡ sum_by (λ d. cost d.1) (deliveries (bags_of x b) (node_at (graph_of b) i))
  kind_cost ok i (k.Source items) is =
      sym (ap (λ (ps : List Port). sum_by (λ d. cost d.1) (delivered (bags_of x b) 0 ps)) (ok.no_ports i items is))
  kind_cost ok i (k.Op row opts) is = sym (port_costs (bags_of x b) 0 (node_at (graph_of b) i).ports)
  kind_cost ok i (k.Process queue) is = sym (port_costs (bags_of x b) 0 (node_at (graph_of b) i).ports)

  pub cost_to : IsGraph (graph_of b) → (m : ℕ) → sum_by bag_cost (meaning_to x b m).deliveries ≡ graph.charge_to (bags_of x b) (graph_of b) m
  cost_to ok zero = refl
  cost_to ok (suc i) =
      let join = sum_by-append bag_cost (meaning_to x b i).deliveries (kind_meaning x b i (node_in b.nodes.items i).kind).deliveries in
      let here = kind_cost ok i (node_in b.nodes.items i).kind (ap (λ (z : PlainNode). z.kind) (node_is b i)) in
      let before = cost_to ok i in
      omega (arith, join, here, before)

  -- ---- views

  kind_views : (i : ℕ) (kind : NodeKind) → (kind_meaning x b i kind).views ≡ views_if (is_view kind) (printed x.rules x.outcomes (graph_of b) i)
  kind_views i (k.Source items) = refl
  kind_views i (k.Op row opts) = refl
  kind_views i (k.Process queue) = refl

  abbrev pub are : List Bool
  are = map (λ (node : Node). is_view node.kind) b.nodes.items

  module _ (p : ℕ → List Plain) where
    more_views : (i : ℕ) (cs bs : List Bool) → views_from p i (cs ++ bs) ≡ views_from p i cs ++ views_from p (i + length cs) bs
    more_views i [] bs = ap (λ j. views_from p j bs) (omega arith)
    more_views i (true ∷ cs) bs = ap (λ vs. p i ∷ vs) (more_views (suc i) cs bs ∙ ap (λ j. views_from p (suc i) cs ++ views_from p j bs) (omega arith))
    more_views i (false ∷ cs) bs = more_views (suc i) cs bs ∙ ap (λ j. views_from p (suc i) cs ++ views_from p j bs) (omega arith)

    one_view : (i : ℕ) (v : Bool) → views_from p i (v ∷ []) ≡ views_if v (p i)
    one_view i true = refl
    one_view i false = refl

    -- the same bag at each view
    abbrev pub SameAt : Type 0
    SameAt = (i : ℕ) → is_view (node_in b.nodes.items i).kind ≡ true → IsSameBag (p i) (printed x.rules x.outcomes (graph_of b) i)

    views_to : SameAt → (m : ℕ) → m ≤ length b.nodes.items → AreSameBags (views_from p 0 (take m are)) (meaning_to x b m).views
    views_to same zero l = tt
    views_to same (suc i) l =
        let node : Node = node_in b.nodes.items i in
        let here : get_or are i false ≡ is_view node.kind = get_or-map (λ (z : Node). is_view z.kind) b.nodes.items i no_source in
        let within : i < length are = (let n = length-map b.nodes.items (λ (z : Node). is_view z.kind) in omega (arith, n, l)) in
        let short : length (take i are) ≡ i = length-take-le i are (omega (arith, within)) in
        let one : suc i ≡ i + 1 = omega arith in
        let split : take (suc i) are ≡ take i are ++ is_view node.kind ∷ [] = ap (λ n. take n are) one ∙ take_more are i false within ∙ ap (λ v. take i are ++ v ∷ []) here in
        let place : 0 + length (take i are) ≡ i = omega (arith, short) in
        let left : views_from p 0 (take (suc i) are) ≡ views_from p 0 (take i are) ++ views_if (is_view node.kind) (p i) =
        ap (views_from p 0) split ∙ more_views 0 (take i are) (is_view node.kind ∷ [])
        ∙ ap (λ j. views_from p 0 (take i are) ++ views_from p j (is_view node.kind ∷ [])) place
        ∙ ap (λ vs. views_from p 0 (take i are) ++ vs) (one_view i (is_view node.kind)) in
        let right = same_append (views_from p 0 (take i are)) (meaning_to x b i).views (views_if (is_view node.kind) (p i)) (views_if (is_view node.kind) (printed x.rules x.outcomes (graph_of b) i))
        (views_to same i (omega (arith, l))) (same_if (is_view node.kind) (p i) (printed x.rules x.outcomes (graph_of b) i) (same i)) in
        subst (λ (vs : List (List Plain)). AreSameBags vs (meaning_to x b (suc i)).views) (sym left)
        (subst (λ (vs : List (List Plain)). AreSameBags (views_from p 0 (take i are) ++ views_if (is_view node.kind) (p i)) ((meaning_to x b i).views ++ vs)) (sym (kind_views i node.kind)) right)

    pub views_same : SameAt → AreSameBags (views_from p 0 are) (graph_meaning x b).views
    views_same same =
        let whole : take (length b.nodes.items) are ≡ are = take_all (length b.nodes.items) are (let n = length-map b.nodes.items (λ (z : Node). is_view z.kind) in omega (arith, n)) in
        subst (λ (vs : List Bool). AreSameBags (views_from p 0 vs) (graph_meaning x b).views) whole (views_to same (length b.nodes.items) (omega arith))

  -- ---- targets

  abbrev pub Unpublished : Type 0
  Unpublished = (i : ℕ) (inputs : List Plain) (attempt : ℕ) (r : Report) → PublishesNone (published_of x.program (body_in b.infos.items i) inputs attempt r)

  no_targets : (outs : ℕ → Report → Outs) (published : ℕ → Report → Judged (List Target)) → ((a : ℕ) (r : Report) → PublishesNone (published a r)) → (attempt : ℕ) (rs : List Report) → targets_from outs published attempt rs ≡ []
  no_targets outs published none attempt [] = refl
  no_targets outs published none attempt (r ∷ rs) = if_none (outs attempt r) (published attempt r) (targets_from outs published (suc attempt) rs) (none attempt r) (no_targets outs published none (suc attempt) rs)

  flat_none : {A : Type 0} (f : A → List Target) (xs : List A) → ((y : A) → f y ≡ []) → flat_map f xs ≡ []
  flat_none f [] none = refl
  flat_none f (y ∷ xs) none = ap (λ ts. ts ++ flat_map f xs) (none y) ∙ flat_none f xs none

  kind_targets : Unpublished → (i : ℕ) (kind : NodeKind) → (kind_meaning x b i kind).targets ≡ []
  kind_targets none i (k.Source items) = refl
  kind_targets none i (k.Op row opts) = refl
  kind_targets none i (k.Process queue) =
      flat_none (targets_at x b i) (instances_at x b i queue)
      (λ z. no_targets (x.rules.outputs i z.0) (published_of x.program (body_in b.infos.items i) z.0) (none i z.0) 1 (x.outcomes i z.0 z.1))

  pub targets_to : Unpublished → (m : ℕ) → (meaning_to x b m).targets ≡ []
  targets_to none zero = refl
  targets_to none (suc i) = ap (λ ts. ts ++ (kind_meaning x b i (node_in b.nodes.items i).kind).targets) (targets_to none i) ∙ kind_targets none i (node_in b.nodes.items i).kind
