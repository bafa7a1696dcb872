-- That judging ends: what is gone down.
use denote.Param.Weighed.{most}
use Rattle.std.proofs.Common.{◌≡◌, ℕ, zero, suc, ◌<◌, ◌≤◌, max, List, [], ◌∷◌, length, get_or, Option, Some, None, option_map, Vec, Global, refl, ap, arith, rules}
use Rattle.nf_ast.specs.declared.expr.Expr.{the_lemmas}
use Rattle.nf_ast.specs.declared.expr.Arm.{Arm, size-Arm}
use Rattle.nf_ast.specs.declared.expr.Stmt.TheVariants as stmt
use Rattle.nf_ast.specs.declared.expr.Stmt.{Stmt, size-Stmt}
use Rattle.nf_ast.specs.declared.tops.Emit.{Emit}
use Rattle.nf_slips.specs.Memory.{depth, emit_depth, emits_depth}

-- the depth of statements is what the measure takes
pub depth_is : (ss : List Stmt) → most size-Stmt ss ≡ depth ss
depth_is [] = refl
depth_is (s ∷ more) = ap (max (size-Stmt s)) (depth_is more)

-- what is emitted is no deeper than all that is
pub emit_at : (es : List Emit) (i : ℕ) (x : Emit) → i < length es → x ≡ get_or es i x → emit_depth x ≤ emits_depth es
emit_at [] i x h is = absurd (omega (arith, h))
emit_at (e ∷ es) zero x h is = let d : emit_depth x ≡ emit_depth e = ap emit_depth is in omega (arith, d)
emit_at (e ∷ es) (suc i) x h is = omega (arith, emit_at es i x (omega (arith, h)) is)

-- the depth of what stands after the last `else`
abbrev pub last_depth : Option (List Stmt) → ℕ
last_depth None = 0
last_depth (Some ss) = most size-Stmt ss

-- a choice is deeper than its arms and its last `else`
pub choice_weighs : (arms : Vec Arm Global) (last : Option (Vec Stmt Global)) → suc (max (most size-Arm arms.items) (last_depth (option_map (λ v. v.items) last))) ≤ size-Stmt (stmt.Choice arms last)
choice_weighs arms None = search (rules, the_lemmas)
choice_weighs arms (Some v) = search (rules, the_lemmas)

-- an arm is as deep as its statements, or deeper
pub arm_weighs : (x : Arm) → most size-Stmt x.body.items ≤ size-Arm x
arm_weighs x = search (rules, the_lemmas)
