use Rattle.std.proofs.Common.{◌≡◌, Err, rules}
use Rattle.nf_ast.specs.View.{view}
use Rattle.nf_around.proofs.Evaluated.{value_at_closure, value_wrong, value_right}
use Rattle.nf_around.proofs.surroundings.Surroundings.value_of.Goals as goal

pub returns-in-Some : goal.returns-in-Some
returns-in-Some g c a s h = value_at_closure (view c.args.expr.now) c.in-Some.closure.now a s c.in-Some.ensures

pub returns-in_err-check-in-None : goal.returns-in_err-check-in-None
returns-in_err-check-in-None g c a s h =
    let err : c.from_residual.result ≡ Err c.in_err-check-in-None.field-0.0 = search rules in
    rw err (value_wrong (view c.args.expr.now) a s c.in-None.ensures c.in_err-check-in-None.field-0.0 (c.in_err-check-in-None.ensures a s.scope h))

pub returns-in_ok-check-in-None : goal.returns-in_ok-check-in-None
returns-in_ok-check-in-None g c a s h = value_right (view c.args.expr.now) a s c.in-None.ensures c.in_ok-check-in-None.field-0 c.evaluated.result (c.in_ok-check-in-None.ensures a s.scope h) (c.evaluated.ensures a s.scope h)
