-- What contracts say of what lies in memory.
use Rattle.std.specs.Prelude.{◌≡◌, ◌≤◌, ◌+◌, ◌++◌, ◌∷◌, [], List, map, suc, false, ℕ, Option, option_map, Result, IfOk}
use Rattle.std.specs.Borrow.{Bor}
use Rattle.std.specs.Global.{Vec}
use Rattle.nf_value.specs.declared.place.Place.{Place}
use Rattle.nf_builtins.specs.Natives.{is_among}
use Rattle.nf_ast.specs.Tree.{Tree, empty}
use Rattle.nf_ast.specs.Tops.{view_workflow_body}
use Rattle.nf_ast.specs.View.{choice, conditional, last_arm, trees, view, view_arg, view_arm, view_branch, view_closure, view_stmt}
use Rattle.nf_ast.specs.declared.expr.Arg as in_brackets
use Rattle.nf_ast.specs.declared.expr.Arm.{Arm}
use Rattle.nf_ast.specs.declared.expr.Branch.{Branch}
use Rattle.nf_ast.specs.declared.expr.ClosureExpr.{ClosureExpr}
use Rattle.nf_ast.specs.declared.expr.Expr.{Expr}
use Rattle.nf_ast.specs.declared.expr.Stmt.{Stmt}
use Rattle.nf_ast.specs.declared.tops.WorkflowBody.{WorkflowBody}
use Rattle.nf_kinds.specs.Kinds.{Shaped}
use Rattle.nf_kinds.specs.Walk.{Walk}
use Rattle.nf_kinds.specs.declared.args.Given.{Given}
use Rattle.nf_kinds.specs.declared.kinds.Kinds.{Kinds}
use Rattle.nf_opkinds.specs.Operators.{Call}
use Rattle.nf_slips.specs.Memory.{body_depth, weight}
use Rattle.nf_order.specs.declared.around.Around as held
use Rattle.nf_order.specs.declared.around.State.{State}
use Rattle.nf_order.specs.declared.subject.Head.{Head}
use Rattle.nf_order.specs.declared.subject.Subject.{Subject}
use Rattle.nf_order.specs.Accepted.{entered_with}
use Rattle.nf_order.specs.Callees.{Around, call_of, entered}
use Rattle.nf_order.specs.Parts.{Arg, Part, head_of, name_piped, of_name, of_property, part_of}
use Rattle.nf_order.specs.Standing.{Chain, Gives, IsCalledBy, IsSecond, Stands, Turned, around_of, arms_of, chain_of, led_from, rest}

-- ---- around a body

-- what a tree comes to there, what a name calls there, and what it calls at the head of a pipe and after a `|`
abbrev pub part_in : held.Around → Tree → Part
part_in a t = part_of (around_of a) t

abbrev pub call_in : held.Around → Place → List ℕ → List Given → Walk Shaped
call_in a p n gs = call_of ((around_of a).callee n) p n gs

abbrev pub head_in : held.Around → Place → List ℕ → Walk Shaped
head_in a p n = head_of ((around_of a).callee n) p n

abbrev pub piped_in : held.Around → Place → List ℕ → Given → Walk Shaped
piped_in a p n g = name_piped ((around_of a).callee n) p n g

-- a workflow with its arguments, in its own surroundings
abbrev pub run_in : held.Around → WorkflowBody → List Given → Call
run_in a b args = entered_with (around_of a) (view_workflow_body b) args

-- what the call of the workflow n with this body comes to
abbrev pub led_in : held.Around → List ℕ → WorkflowBody → List Given → Call
led_in a n b args = led_from a n (view_workflow_body b) args

abbrev pub entered_in : held.Around → List ℕ → WorkflowBody → List Given → Walk Shaped
entered_in a n b args = entered n args (led_in a n b args)

-- what may still be entered gets lighter by more than this body, if its workflow isn't entered yet: so judging ends
abbrev pub IsLighter : held.Around → List ℕ → WorkflowBody → Type 0
IsLighter a n b =
    is_among n a.within.now ≡ false
    → suc (body_depth b) + weight a.tops.now (a.within.now ++ n ∷ []) ≤ weight a.tops.now a.within.now

-- ---- expressions

-- the result stands for this part, from the one state to the other
abbrev pub IfRead : {E : Type 0} → Result Subject E → held.Around → (Around → Part) → State → State → Type 0
IfRead r a p old new = IfOk r (λ x. Stands (p (around_of a)) (rest (around_of a) x) old new)

-- `m.n`, where n stands at p; where m stands doesn't matter
abbrev pub of_member : Around → List ℕ → Place → List ℕ → Part
of_member a m p n = of_property empty (of_name a p m) p n

-- arguments in brackets, and a closure as an argument
abbrev pub args_of : Around → List in_brackets.Arg → List Arg
args_of a xs = (part_of a (trees (map view_arg xs))).arguments

abbrev pub closure_of : Around → ClosureExpr → Arg
closure_of a c = (part_of a (view_closure c)).argument

-- arguments after what is read so far are those of this head
abbrev pub IsCalled : held.Around → Subject → Head → State → State → Type 0
IsCalled a x h old new = IsCalledBy (around_of a) (rest (around_of a) x) h old new

-- ---- conditional expressions

abbrev pub whole_of : Expr → List Branch → Tree
whole_of e bs = conditional [] (view e) (map view_branch bs)

abbrev pub chain_in : Expr → List Branch → Chain
chain_in e bs = chain_of (view e) (map view_branch bs)

abbrev pub arms_in : Expr → List Branch → Place → Tree → Chain
arms_in e bs p c = arms_of p c (view e) (map view_branch bs)

-- what is read gives, and the operands that are left
abbrev pub Turn : Type 0
Turn = Shaped × Bor (List Branch)

abbrev pub IfTurned : {E : Type 0} → Result Turn E → held.Around → Chain → State → State → Type 0
IfTurned r a x old new = IfOk r (λ y. Turned (around_of a) x y.0 (map view_branch y.1.now) old new)

-- the same after a condition of these kinds, whatever its expression is
abbrev pub IfArms : {E : Type 0} → Result Turn E → held.Around → Kinds → (Place → Tree → Chain) → State → State → Type 0
IfArms r a k x old new =
    IfOk r (λ y. (p : Place) (c : Tree) (v : Shaped) (start : State)
    → v.kinds ≡ k → Gives (part_of (around_of a) c).thing start v old
    → Turned (around_of a) (x p c) y.0 (map view_branch y.1.now) start new)

-- what a false condition gives
abbrev pub IfSecond : {E : Type 0} → Result Turn E → held.Around → List Branch → State → State → Type 0
IfSecond r a bs old new =
    IfOk r (λ y. IsSecond (around_of a) (map view_branch bs) y.0 (map view_branch y.1.now) old new)

-- ---- statements

-- what stands after the last `else`, and all arms of an `if`
abbrev pub view_last : Option (Vec Stmt) → Tree
view_last last = last_arm (option_map (λ v. map view_stmt v.items) last)

abbrev pub view_choice : List Arm → Option (Vec Stmt) → Tree
view_choice arms last = choice (map view_arm arms) (view_last last)
