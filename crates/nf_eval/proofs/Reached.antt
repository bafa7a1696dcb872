-- The value of what a chain came to.
use Rattle.std.proofs.Common.{◌≡◌, Bool, Result, Err, sym, subst}
use Rattle.nf_value.specs.declared.value.Value.{Value}
use Rattle.nf_value.specs.declared.fault.EvalRefusal.{EvalRefusal}
use Rattle.nf_value.specs.declared.fault.EvalRefusal.TheVariants as refusal
use Rattle.nf_ast.specs.Tree.{Tree}
use Rattle.nf_placed.specs.Placed.{Evaluates}
use Rattle.nf_placed.specs.Scope.{Env}
use Rattle.nf_eval.specs.Evaluation.{eval_of}
use Rattle.nf_eval.specs.Chains.{Comes}

pub comes_refused : (closure : Bool) (t : Tree) (env : Env) (r : EvalRefusal) (s : Result Value EvalRefusal) → s ≡ Err r → Comes closure t env (Err r) → Evaluates (eval_of t env) s
comes_refused closure t env (refusal.Fault e) s is h = subst (Evaluates (eval_of t env)) (sym is) h.no_value
comes_refused closure t env refusal.Mem s is h = subst (Evaluates (eval_of t env)) (sym is) tt
