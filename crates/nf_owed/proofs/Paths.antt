-- The outcomes of a plan's processes, by the paths of their calls.
use Rattle.std.proofs.Common.{◌≡◌, ℕ, zero, suc, ◌+◌, ◌<◌, ◌≤◌, List, [], ◌∷◌, map, length, get_or, Bool, true, false, ◌&&◌, refl, ap, sym, ◌∙◌, subst, arith, inl, inr}
use Rattle.std.specs.Prelude.{if◌then◌else◌, bytes_eq, nat_lt}
use Rattle.std.proofs.lemmas.Bool.{cases_Bool, true≢false}
use Rattle.std.proofs.lemmas.Bool.Decides.{nat_tests}
use Rattle.std.proofs.lemmas.List.{get_or_past, length-map}
use Rattle.std.proofs.lemmas.Slice.Eq.{bytes_eq-Decides}
use Rattle.std.proofs.Math.ListN.{get_or-map}
use Rattle.nf_value.specs.Plain.{Plain}
use Rattle.nf_tasks.specs.Memory.{Program}
use Rattle.nf_eval.specs.Evaluation.{nowhere}
use Rattle.nf_graph.specs.declared.node.NodeKind.{NodeKind}
use Rattle.nf_graph.specs.declared.node.NodeKind.TheVariants as k
use Rattle.nf_graph.specs.Node.{PlainNode, node_at}
use Rattle.nf_graph.specs.Meaning as graph
use Rattle.nf_graph.specs.WellMade.{no_source, node_in, plain_kind, plain_node}
use Rattle.nf_machine.specs.Legal.{IsProcessKind}
use Rattle.nf_bodies.specs.declared.body.NodeBody.{NodeBody}
use Rattle.nf_bodies.specs.declared.body.NodeBody.TheVariants as body
use Rattle.nf_bodies.specs.declared.body.NodeInfo.{NodeInfo}
use Rattle.nf_bodies.specs.Bodies.{body_in}
use Rattle.nf_plan.specs.declared.builder.PlanBuilder.{PlanBuilder}
use Rattle.nf_plan.specs.Plans.{FitsBody, IsPlan, graph_of, is_process, name_in, place_in}
use Rattle.nf_owed.specs.Run.{Named, no_name, is_call_of, told_from, by_path, named_of, run_of, name_at}

-- past the last node
abbrev pub no_info : NodeInfo
no_info = record { name = []; place = nowhere; body = body.Source }

pub name_is : (n : Program) (b : PlanBuilder) (i : ℕ) → (name_at (run_of n b) i).name ≡ name_in b.infos.items i
name_is n b i = ap (λ (x : Named). x.name) (get_or-map named_of b.infos.items i no_info) ∙ sym (get_or-map (λ (x : NodeInfo). x.name) b.infos.items i no_info)

pub place_is : (n : Program) (b : PlanBuilder) (i : ℕ) → (name_at (run_of n b) i).place ≡ place_in b.infos.items i
place_is n b i = ap (λ (x : Named). x.place) (get_or-map named_of b.infos.items i no_info) ∙ sym (get_or-map (λ (x : NodeInfo). x.place) b.infos.items i no_info)

-- whether it is the call of a path
call_is : (infos : List NodeInfo) (path : List ℕ) (j : ℕ) → is_call_of path (get_or (map named_of infos) j no_name) ≡ (is_process (body_in infos j) && bytes_eq (name_in infos j) path)
call_is infos path j =
    let z : NodeInfo = get_or infos j no_info in
    ap (is_call_of path) (get_or-map named_of infos j no_info)
    ∙ ap (λ name. is_process z.body && bytes_eq name path) (sym (get_or-map (λ (x : NodeInfo). x.name) infos j no_info))
    ∙ ap (λ b. is_process b && bytes_eq (name_in infos j) path) (sym (get_or-map (λ (x : NodeInfo). x.body) infos j no_info))

told_is : (o : graph.Outcomes) (xs : List Named) (path : List ℕ) (start i : ℕ) (inputs : List Plain) (m : ℕ) → i < length xs → is_call_of path (get_or xs i no_name) ≡ true
    → ((j : ℕ) → j < i → is_call_of path (get_or xs j no_name) ≡ false) → told_from o start xs path inputs m ≡ o (start + i) inputs m
told_is o [] path start i inputs m within here earlier = absurd (omega (arith, within))
told_is o (x ∷ xs) path start zero inputs m within here earlier =
    ap (λ v. if v then o start inputs m else told_from o (suc start) xs path inputs m) here ∙ ap (λ p. o p inputs m) (omega arith)
told_is o (x ∷ xs) path start (suc i) inputs m within here earlier =
    ap (λ v. if v then o start inputs m else told_from o (suc start) xs path inputs m) (earlier 0 (omega arith))
    ∙ told_is o xs path (suc start) i inputs m (omega (arith, within)) here (λ j l. earlier (suc j) (omega (arith, l)))
    ∙ ap (λ p. o p inputs m) (omega arith)

both_true : (a b : Bool) → (a && b) ≡ true → (a ≡ true) × (b ≡ true)
both_true true b h = (refl, h)
both_true false b h = absurd (true≢false (sym h))

fits_process : (kind : NodeKind) (name : List ℕ) (b : NodeBody) → FitsBody kind name b → IsProcessKind (plain_kind kind) → is_process b ≡ true
fits_process (k.Source items) name b fits is = absurd is
fits_process (k.Op row opts) name b fits is = absurd is
fits_process (k.Process queue) name (body.Process s) fits is = refl
fits_process (k.Process queue) name b fits is = absurd fits

module _ (n : Program) (b : PlanBuilder) (plan : IsPlan b) (i : ℕ) where
  -- a node of the graph
  node_is : node_at (graph_of b) i ≡ plain_node (node_in b.nodes.items i)
  node_is = get_or-map plain_node b.nodes.items i no_source

  is_body : IsProcessKind (node_at (graph_of b) i).kind → is_process (body_in b.infos.items i) ≡ true
  is_body is =
      fits_process (node_in b.nodes.items i).kind (name_in b.infos.items i) (body_in b.infos.items i) (plan.bodies i)
      (subst (λ (z : PlainNode). IsProcessKind z.kind) node_is is)

  is_within : IsProcessKind (node_at (graph_of b) i).kind → i < length b.infos.items
  is_within is = elim (cases_Bool (nat_lt i (length b.infos.items))) [
    | inl e ↦ grind (arith, nat_tests)
    | inr e ↦ absurd (
        let past : length b.nodes.items ≤ i = (let l = plan.infos in let m : length b.infos.items ≤ i = grind (arith, nat_tests) in omega (arith, l, m)) in
        let last : node_in b.nodes.items i ≡ no_source = get_or_past b.nodes.items i no_source past in
        subst (λ (z : PlainNode). IsProcessKind z.kind) (node_is ∙ ap plain_node last) is)
  ]

  -- what a process's node is told is what its path is told
  pub path_told : (o : graph.Outcomes) (inputs : List Plain) (m : ℕ) → IsProcessKind (node_at (graph_of b) i).kind → by_path (run_of n b) o (name_in b.infos.items i) inputs m ≡ o i inputs m
  path_told o inputs m is =
      let infos = b.infos.items in
      let name = name_in infos i in
      let same : bytes_eq name name ≡ true = (bytes_eq-Decides name name).1 refl in
      let here : is_call_of name (get_or (map named_of infos) i no_name) ≡ true = call_is infos name i ∙ ap (λ v. v && bytes_eq name name) (is_body is) ∙ same in
      told_is o (map named_of infos) name 0 i inputs m (let w = is_within is in let l = length-map infos named_of in omega (arith, w, l)) here
      (λ j below. elim (cases_Bool (is_call_of name (get_or (map named_of infos) j no_name))) [
        | inl e ↦ absurd (
            let two = both_true (is_process (body_in infos j)) (bytes_eq (name_in infos j) name) (sym (call_is infos name j) ∙ e) in
            let one : j ≡ i = plan.paths j i two.0 (is_body is) ((bytes_eq-Decides (name_in infos j) name).0 two.1) in
            omega (arith, one, below))
        | inr e ↦ e
      ])
      ∙ ap (λ p. o p inputs m) (omega arith)
