-- The trees of arguments as they are written.
use Rattle.std.proofs.Common.{◌≡◌, ◌∙◌, ap}
use Rattle.std.specs.Borrow.{Bor}
use Rattle.nf_ast.specs.View.{view, view_closure}
use Rattle.nf_ast.specs.declared.expr.Arg.{Arg}
use Rattle.nf_ast.specs.declared.expr.ClosureExpr.{ClosureExpr}
use Rattle.nf_arguments.specs.declared.written.Written.{Written}
use Rattle.nf_arguments.specs.declared.written.Written.TheVariants as written
use Rattle.nf_arguments.specs.Args.{written_arg}
use Rattle.nf_arguments.proofs.Behind.{closure_tree}

pub closure_is : (w : Written) (c : Bor ClosureExpr) → w ≡ written.Closure c → (written_arg w).tree ≡ view_closure c.now
closure_is w c is = ap (λ v. (written_arg v).tree) is ∙ closure_tree c.now

pub arg_is : (w : Written) (x : Bor Arg) → w ≡ written.Arg x → (written_arg w).tree ≡ view x.now.value
arg_is w x is = ap (λ v. (written_arg v).tree) is
