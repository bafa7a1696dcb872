-- The tree of what lies in memory.
use Rattle.std.specs.Prelude.{ℕ, List, [], ◌∷◌, Option, Some, None, map, option_map}
use Rattle.nf_value.specs.declared.place.Place.{Place}
use Rattle.nf_ast.specs.declared.operators.BranchOperator.{BranchOperator}
use Rattle.nf_ast.specs.declared.operators.BranchOperator.TheVariants as branch
use Rattle.nf_ast.specs.declared.expr.Prefix.{Prefix}
use Rattle.nf_ast.specs.declared.expr.Key.{Key}
use Rattle.nf_ast.specs.declared.expr.Key.TheVariants as key
use Rattle.nf_ast.specs.declared.expr.Expr.{Expr}
use Rattle.nf_ast.specs.declared.expr.Arm.{Arm}
use Rattle.nf_ast.specs.declared.expr.Label.{Label}
use Rattle.nf_ast.specs.declared.expr.ClosureBody.{ClosureBody}
use Rattle.nf_ast.specs.declared.expr.Arg.{Arg}
use Rattle.nf_ast.specs.declared.expr.Postfix.{Postfix}
use Rattle.nf_ast.specs.declared.expr.Branch.{Branch}
use Rattle.nf_ast.specs.declared.expr.Operand.{Operand}
use Rattle.nf_ast.specs.declared.expr.Pair.{Pair}
use Rattle.nf_ast.specs.declared.expr.Fragment.{Fragment}
use Rattle.nf_ast.specs.declared.expr.Stmt.{Stmt}
use Rattle.nf_ast.specs.declared.expr.ClosureExpr.{ClosureExpr}
use Rattle.nf_ast.specs.declared.expr.ClosureBody.TheOpen as o
use Rattle.nf_ast.specs.declared.expr.ClosureBody.TheOpen.{Expr-F, Fragment-F, Pair-F, Operand-F, Branch-F, Postfix-F, Arg-F, ClosureExpr-F, ClosureBody-F, Label-F, Stmt-F, Arm-F}
use Rattle.nf_ast.specs.declared.expr.ClosureBody.TheFolds.{fold-Expr, fold-Fragment, fold-Pair, fold-Operand, fold-Branch, fold-Postfix, fold-Arg, fold-ClosureExpr, fold-ClosureBody, fold-Label, fold-Stmt, fold-Arm}
use Rattle.nf_ast.specs.Tree as tree
use Rattle.nf_ast.specs.Tree.{Tree, empty, cons, name, snoc}

-- parts in a row
abbrev pub trees : List Tree → Tree
trees [] = empty
trees (x ∷ xs) = cons x (trees xs)

abbrev pub name_tree : Place × List ℕ → Tree
name_tree n = name n.0 n.1

abbrev pub names : List (Place × List ℕ) → Tree
names ns = trees (map name_tree ns)

-- ---- lists of one level

-- Operands of one level, joined from the left: each of the list is an operator with an empty left operand.
abbrev pub operands : Tree → List Tree → Tree
operands a [] = a
operands a (tree.binary p operator x b ∷ xs) = operands (tree.binary p operator a b) xs
operands a (_ ∷ xs) = operands a xs

abbrev pub prefixes : List Prefix → Tree → Tree
prefixes [] e = e
prefixes (x ∷ xs) e = tree.prefix x.place x.operator (prefixes xs e)

-- a part of a chain, which stands on `empty`, put on the expression before it
abbrev pub applied : Tree → Tree → Tree
applied e (tree.property x n) = tree.property e n
applied e (tree.safe_property x n) = tree.safe_property e n
applied e (tree.index p x i) = tree.index p e i
applied e (tree.call p x args) = tree.call p e args
applied e (tree.call_with x c) = tree.call_with e c
applied e _ = empty

abbrev pub postfix : Tree → List Tree → Tree
postfix e [] = e
postfix e (x ∷ xs) = postfix (applied e x) xs

-- ---- conditionals

-- a conditional that isn't complete: what it has when the next operand comes
pub data Frame : Type 0 where
  -- a condition, which waits for what a true one gives
  asked : Place → Tree → Frame
  -- a condition and what a true one gives, which wait for what a false one gives
  answered : Place → Tree → Tree → Frame
  -- the left operand of `?:`, which waits for the right one
  preferred : Place → Tree → Frame

-- the tree, where the last operand is read
abbrev pub ended : List Frame → Tree → Tree
ended [] e = e
ended (asked p c ∷ fs) e = ended fs (tree.conditional p c e empty)
ended (answered p c a ∷ fs) e = ended fs (tree.conditional p c a e)
ended (preferred p a ∷ fs) e = ended fs (tree.elvis p a e)

-- At a `:`, all up to the condition that waits for it is complete. A `:` that no condition waits for, which no text spells, is read as
-- `?:`.
abbrev pub turned : Place → List Frame → Tree → List Frame
turned q [] e = preferred q e ∷ []
turned q (asked p c ∷ fs) e = answered p c e ∷ fs
turned q (answered p c a ∷ fs) e = turned q fs (tree.conditional p c a e)
turned q (preferred p a ∷ fs) e = turned q fs (tree.elvis p a e)

abbrev pub framed : Place → BranchOperator → List Frame → Tree → List Frame
framed p branch.Then fs e = asked p e ∷ fs
framed p branch.Else fs e = turned p fs e
framed p branch.Elvis fs e = preferred p e ∷ fs

pub record BranchTree : Type 0 where
  pub place : Place
  pub operator : BranchOperator
  pub expr : Tree

-- a conditional expression, from its operands in the order of the text, each with the operator before it
abbrev pub conditional : List Frame → Tree → List BranchTree → Tree
conditional fs e [] = ended fs e
conditional fs e (x ∷ xs) = conditional (framed x.place x.operator fs e) x.expr xs

-- ---- the arms of a choice

pub record ArmTree : Type 0 where
  pub place : Place
  pub condition : Tree
  pub body : Tree

abbrev pub last_arm : Option (List Tree) → Tree
last_arm None = empty
last_arm (Some xs) = tree.statements (trees xs)

abbrev pub choice : List ArmTree → Tree → Tree
choice [] last = last
choice (x ∷ xs) last = tree.choice x.place x.condition (tree.statements x.body) (choice xs last)

-- ---- each node

abbrev pub part_of : Option (Place × List ℕ) → Tree
part_of None = empty
part_of (Some x) = cons (tree.piece x.0 x.1) empty

abbrev pub key_tree : Key → Tree
key_tree (key.Name p n) = name p n
key_tree (key.Text p k s) = tree.text p k s
key_tree (key.Template p k x) = tree.template p k (part_of x)

abbrev pub with_name : Option (Place × List ℕ) → Tree → Tree
with_name None e = e
with_name (Some n) e = tree.named (name_tree n) e

abbrev pub params_tree : Option (List (Place × List ℕ)) → Tree
params_tree None = empty
params_tree (Some ns) = tree.params (names ns)

abbrev pub expr_step : Expr-F Tree Tree Tree Tree Tree Tree ArmTree BranchTree Tree Tree Tree Tree → Tree
expr_step (o.Number p n) = tree.number p n
expr_step (o.Text p k s) = tree.text p k s
expr_step (o.Pattern p s) = tree.pattern p s
expr_step (o.Template p k xs) = tree.template p k (trees xs.items)
expr_step (o.Truth p b) = tree.truth p b
expr_step (o.Null p) = tree.null p
expr_step (o.Name p n) = name p n
expr_step (o.List p xs) = tree.list p (trees xs.items)
expr_step (o.Map p xs) = tree.map p (trees xs.items)
expr_step (o.Closure c) = c
expr_step (o.Prefix ms e) = prefixes ms.items e.value
expr_step (o.Infix a xs) = operands a.value (xs.items)
expr_step (o.Conditional a xs) = conditional [] a.value xs.items
expr_step (o.Postfix e xs) = postfix e.value xs.items

abbrev pub piece_step : Fragment-F Tree Tree Tree Tree Tree Tree ArmTree BranchTree Tree Tree Tree Tree → Tree
piece_step (o.Plain p s) = tree.piece p s
piece_step (o.Hole p e) = tree.hole p e

abbrev pub pair_step : Pair-F Tree Tree Tree Tree Tree Tree ArmTree BranchTree Tree Tree Tree Tree → Tree
pair_step x = tree.pair (key_tree x.key) x.value

abbrev pub operand_step : Operand-F Tree Tree Tree Tree Tree Tree ArmTree BranchTree Tree Tree Tree Tree → Tree
operand_step x = tree.binary x.place x.operator empty x.expr

abbrev pub branch_step : Branch-F Tree Tree Tree Tree Tree Tree ArmTree BranchTree Tree Tree Tree Tree → BranchTree
branch_step x = record { place = x.place; operator = x.operator; expr = x.expr }

abbrev pub postfix_step : Postfix-F Tree Tree Tree Tree Tree Tree ArmTree BranchTree Tree Tree Tree Tree → Tree
postfix_step (o.Property p n) = tree.property empty (name p n)
postfix_step (o.SafeProperty p n) = tree.safe_property empty (name p n)
postfix_step (o.Index p i) = tree.index p empty i
postfix_step (o.Call p xs) = tree.call p empty (trees xs.items)
postfix_step (o.With c) = tree.call_with empty c

abbrev pub arg_step : Arg-F Tree Tree Tree Tree Tree Tree ArmTree BranchTree Tree Tree Tree Tree → Tree
arg_step x = with_name x.name x.value

abbrev pub closure_step : ClosureExpr-F Tree Tree Tree Tree Tree Tree ArmTree BranchTree Tree Tree Tree Tree → Tree
closure_step c = tree.closure c.place (params_tree (option_map (λ v. v.items) c.params)) c.body

abbrev pub body_step : ClosureBody-F Tree Tree Tree Tree Tree Tree ArmTree BranchTree Tree Tree Tree Tree → Tree
body_step (o.Statements xs) = trees xs.items
body_step (o.Labels xs) = trees xs.items

abbrev pub label_step : Label-F Tree Tree Tree Tree Tree Tree ArmTree BranchTree Tree Tree Tree Tree → Tree
label_step x = tree.label (name x.place x.name) x.value

abbrev pub stmt_step : Stmt-F Tree Tree Tree Tree Tree Tree ArmTree BranchTree Tree Tree Tree Tree → Tree
stmt_step (o.Define p q n e) = tree.define p (name q n) e
stmt_step (o.DefineAll p ns e) = tree.define_all p (names ns.items) e
stmt_step (o.Assign p n e) = tree.assign (name p n) e
stmt_step (o.Return p e) = tree.return_ p e
stmt_step (o.Choice arms last) = choice arms.items (last_arm (option_map (λ v. v.items) last))
stmt_step (o.Println p e) = tree.println p e
stmt_step (o.Log p q n e) = tree.log p (name q n) e
stmt_step (o.Expr e) = e

abbrev pub arm_step : Arm-F Tree Tree Tree Tree Tree Tree ArmTree BranchTree Tree Tree Tree Tree → ArmTree
arm_step x = record { place = x.place; condition = x.condition; body = trees x.body.items }

abbrev pub view : Expr → Tree
view = fold-Expr Tree Tree Tree Tree Tree Tree ArmTree BranchTree Tree Tree Tree Tree body_step expr_step piece_step postfix_step stmt_step arg_step arm_step branch_step closure_step label_step operand_step pair_step

abbrev pub view_piece : Fragment → Tree
view_piece = fold-Fragment Tree Tree Tree Tree Tree Tree ArmTree BranchTree Tree Tree Tree Tree body_step expr_step piece_step postfix_step stmt_step arg_step arm_step branch_step closure_step label_step operand_step pair_step

abbrev pub view_pair : Pair → Tree
view_pair = fold-Pair Tree Tree Tree Tree Tree Tree ArmTree BranchTree Tree Tree Tree Tree body_step expr_step piece_step postfix_step stmt_step arg_step arm_step branch_step closure_step label_step operand_step pair_step

abbrev pub view_operand : Operand → Tree
view_operand = fold-Operand Tree Tree Tree Tree Tree Tree ArmTree BranchTree Tree Tree Tree Tree body_step expr_step piece_step postfix_step stmt_step arg_step arm_step branch_step closure_step label_step operand_step pair_step

abbrev pub view_branch : Branch → BranchTree
view_branch = fold-Branch Tree Tree Tree Tree Tree Tree ArmTree BranchTree Tree Tree Tree Tree body_step expr_step piece_step postfix_step stmt_step arg_step arm_step branch_step closure_step label_step operand_step pair_step

abbrev pub view_postfix : Postfix → Tree
view_postfix = fold-Postfix Tree Tree Tree Tree Tree Tree ArmTree BranchTree Tree Tree Tree Tree body_step expr_step piece_step postfix_step stmt_step arg_step arm_step branch_step closure_step label_step operand_step pair_step

abbrev pub view_arg : Arg → Tree
view_arg = fold-Arg Tree Tree Tree Tree Tree Tree ArmTree BranchTree Tree Tree Tree Tree body_step expr_step piece_step postfix_step stmt_step arg_step arm_step branch_step closure_step label_step operand_step pair_step

abbrev pub view_closure : ClosureExpr → Tree
view_closure = fold-ClosureExpr Tree Tree Tree Tree Tree Tree ArmTree BranchTree Tree Tree Tree Tree body_step expr_step piece_step postfix_step stmt_step arg_step arm_step branch_step closure_step label_step operand_step pair_step

abbrev pub view_body : ClosureBody → Tree
view_body = fold-ClosureBody Tree Tree Tree Tree Tree Tree ArmTree BranchTree Tree Tree Tree Tree body_step expr_step piece_step postfix_step stmt_step arg_step arm_step branch_step closure_step label_step operand_step pair_step

abbrev pub view_label : Label → Tree
view_label = fold-Label Tree Tree Tree Tree Tree Tree ArmTree BranchTree Tree Tree Tree Tree body_step expr_step piece_step postfix_step stmt_step arg_step arm_step branch_step closure_step label_step operand_step pair_step

abbrev pub view_stmt : Stmt → Tree
view_stmt = fold-Stmt Tree Tree Tree Tree Tree Tree ArmTree BranchTree Tree Tree Tree Tree body_step expr_step piece_step postfix_step stmt_step arg_step arm_step branch_step closure_step label_step operand_step pair_step

abbrev pub view_arm : Arm → ArmTree
view_arm = fold-Arm Tree Tree Tree Tree Tree Tree ArmTree BranchTree Tree Tree Tree Tree body_step expr_step piece_step postfix_step stmt_step arg_step arm_step branch_step closure_step label_step operand_step pair_step

abbrev pub views : List Expr → Tree
views es = trees (map view es)

abbrev pub view_stmts : List Stmt → Tree
view_stmts ss = trees (map view_stmt ss)
