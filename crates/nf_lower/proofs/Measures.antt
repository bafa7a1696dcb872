-- That lowering ends: each step goes down a tree, enters a workflow with a call fewer left, or stays there with a lower rank.
use Rattle.std.proofs.Common.{◌≡◌, ◌∙◌, ◌+◌, ◌*◌, ◌-◌, ◌<◌, ◌≤◌, ℕ, zero, suc, max, List, [], ◌∷◌, ◌++◌, map, length, get_or, Option, Some, None, refl, sym, ap, subst, option_map, arith, rules}
use Rattle.std.specs.Global.{Vec}
use Rattle.nf_ast.specs.declared.expr.Arg.{Arg}
use Rattle.nf_ast.specs.declared.expr.Arm.{Arm}
use Rattle.nf_ast.specs.declared.expr.ClosureExpr.{ClosureExpr, the_lemmas as closure_lemmas}
use Rattle.nf_ast.specs.declared.expr.Stmt.{Stmt}
use Rattle.nf_ast.specs.declared.tops.Workflow.{Workflow}
use Rattle.nf_ast.specs.Tops.{view_workflow, view_workflow_body}
use Rattle.nf_ast.specs.declared.operators.InfixOperator.{InfixOperator}
use Rattle.nf_ast.specs.declared.operators.InfixOperator.TheVariants as infix_operator
use Rattle.nf_ast.specs.Tree as tree
use Rattle.nf_ast.specs.Tree.{Tree, cons}
use Rattle.nf_ast.specs.View.{ArmTree, choice, last_arm, params_tree, trees, view_arg, view_arm, view_body, view_closure, view_stmt, view_stmts}
use Rattle.nf_graph.specs.Meaning.{Bags}
use Rattle.nf_arguments.specs.declared.args.Args.{Args}
use Rattle.nf_arguments.specs.declared.args.Before.{Before}
use Rattle.nf_arguments.specs.declared.one.One.{One}
use Rattle.nf_arguments.specs.Args.{AreArgs, AreBefore, HasFirst, HasReceiver, written_args, written_in}
use Rattle.nf_arguments.specs.Written.{args_in, closure_arg}
use Rattle.nf_arguments.proofs.Behind.{closure_tree}
use Rattle.nf_meaning.specs.Arguments as meaning
use Rattle.nf_meaning.specs.Given.{tree_named}
use Rattle.nf_meaning.specs.Script.{emit_value}
use Rattle.nf_meaning.specs.Workflow.{Part, of_binary, part_of}
use Rattle.nf_callees.specs.Found.{defined_in}
use Rattle.nf_walked.specs.declared.walker.Walker.{Walker}
use Rattle.nf_walked.specs.Depth.{budget, deepest, depth}
use Rattle.nf_walked.proofs.Depths.{call_within, named_within}

-- the deepest of these arguments
abbrev pub depth_of : List meaning.Arg → ℕ
depth_of [] = 0
depth_of (x ∷ xs) = max (depth x.tree) (depth_of xs)

-- how deep it may still go, and its rank
abbrev pub weigh : ℕ → ℕ → ℕ → ℕ
weigh deep left rank = (deep + left) * 64 + rank

-- ---- arguments

pub both_deep : (xs ys : List meaning.Arg) → depth_of (xs ++ ys) ≡ max (depth_of xs) (depth_of ys)
both_deep [] ys = omega arith
both_deep (x ∷ xs) ys = omega (arith, both_deep xs ys)

module _ (x : One) (old new : Args) where
  -- the first of some, and those that are left
  pub first_deep : HasFirst x old new → depth_of (written_args old) ≡ max (depth_of (written_in x)) (depth_of (written_args new))
  first_deep h = ap depth_of h.written ∙ both_deep (written_in x) (written_args new)

  -- the one that an operator is called on, and the others
  pub receiver_deep : HasReceiver x old new → depth_of (written_args old) ≡ max (depth_of (written_in x)) (depth_of (written_args new))
  receiver_deep h =
      let all = ap depth_of h.written ∙ both_deep h.front (written_in x ++ h.back) in
      let back = both_deep (written_in x) h.back in
      let others = ap depth_of h.others ∙ both_deep h.front h.back in
      omega (arith, all, back, others)

-- ---- those in brackets

pipe_tree : (k : InfixOperator) (e left : Tree) (a b : Part) → (of_binary k e left a b).argument.tree ≡ e
pipe_tree infix_operator.Pipe e left a b = refl
pipe_tree _ e left a b = refl

-- what an argument is lies in it
arg_deep : (t : Tree) → depth (part_of t).argument.tree ≤ depth t
arg_deep (tree.named n e) = omega arith
arg_deep (tree.binary p k a b) = let e : depth (part_of (tree.binary p k a b)).argument.tree ≡ depth (tree.binary p k a b) = ap depth (pipe_tree k (tree.binary p k a b) a (part_of a) (part_of b)) in omega (arith, e)
arg_deep _ = omega arith

args_deep : (ts : List Tree) → depth_of (part_of (trees ts)).arguments ≤ depth (trees ts)
args_deep [] = omega arith
args_deep (t ∷ ts) = omega (arith, arg_deep t, args_deep ts)

-- nothing is gone into in a closure
pub closure_flat : (c : ClosureExpr) → depth (closure_arg c).tree ≡ 0
closure_flat c =
    let seen : view_closure c ≡ tree.closure c.place (params_tree (option_map (λ v. v.items) c.params)) (view_body c.body) = search (rules, closure_lemmas) in
    ap depth (closure_tree c ∙ seen)

-- what is written of arguments before which nothing stands
only_written : (bags : Bags) (x : Args) (ys : List meaning.Arg) → x.before ≡ None → AreArgs bags x ys → ys ≡ written_args x
only_written bags x ys none h =
    let P : Option Before → Type 0 = λ o. AreBefore bags o h.before in
    let empty : h.before ≡ [] = subst P none h.flows in
    h.all ∙ ap (λ xs. xs ++ written_args x) empty

no_bags : Bags
no_bags i out = []

module _ (x : Args) (none : x.before ≡ None) where
  pub of_deep : (xs : List Arg) → ((bags : Bags) → AreArgs bags x (args_in xs)) → depth_of (written_args x) ≤ depth (trees (map view_arg xs))
  of_deep xs are =
      let is : depth_of (args_in xs) ≡ depth_of (written_args x) = ap depth_of (only_written no_bags x (args_in xs) none (are no_bags)) in
      omega (arith, is, args_deep (map view_arg xs))

  pub with_deep : (xs : List Arg) (c : ClosureExpr) → ((bags : Bags) → AreArgs bags x (args_in xs ++ closure_arg c ∷ [])) → depth_of (written_args x) ≤ depth (trees (map view_arg xs))
  with_deep xs c are =
      let ys = args_in xs ++ closure_arg c ∷ [] in
      let is : depth_of ys ≡ depth_of (written_args x) = ap depth_of (only_written no_bags x ys none (are no_bags)) in
      omega (arith, is, both_deep (args_in xs) (closure_arg c ∷ []), closure_flat c, args_deep (map view_arg xs))

-- ---- parts of trees

-- the body of an arm of a choice, and what stands after its last `else`
pub arm_deep : (arms : List Arm) (i : ℕ) (x : Arm) (last : Tree) → i < length arms → x ≡ get_or arms i x → suc (depth (view_arm x).body) ≤ depth (choice (map view_arm arms) last)
arm_deep [] i x last h is = absurd (omega (arith, h))
arm_deep (a ∷ arms) zero x last h is = let e : depth (view_arm x).body ≡ depth (view_arm a).body = ap (λ (y : Arm). depth (view_arm y).body) is in omega (arith, e)
arm_deep (a ∷ arms) (suc i) x last h is = omega (arith, arm_deep arms i x last (omega (arith, h)) is)

pub last_deep : (arms : List ArmTree) (last : Tree) → depth last ≤ depth (choice arms last)
last_deep [] last = omega arith
last_deep (a ∷ arms) last = omega (arith, last_deep arms last)

-- the expression of what is emitted
pub emit_deep : (t : Tree) → depth (emit_value t) ≤ depth t
emit_deep (tree.assign n e) = omega arith
emit_deep _ = omega arith

-- ---- into the body of a workflow

-- the body of one that is called, with a call fewer left
pub entered_falls : {N : Type 0} (x : Walker N) (n : List ℕ) (w : Workflow) → (x.left ≡ 0 → ⊥) → tree_named n (defined_in x.definitions.now).workflows ≡ Some (view_workflow w)
    → depth (view_workflow_body w.body) + budget (record x { left = x.left - 1 }) < budget x
unfolding budget
entered_falls x n w some is =
    call_within x.left (deepest (defined_in x.definitions.now).workflows) (depth (view_workflow_body w.body)) (omega (arith, some)) (named_within n (view_workflow w) (defined_in x.definitions.now).workflows is)
