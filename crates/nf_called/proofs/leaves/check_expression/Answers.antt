use Rattle.std.proofs.Common.{true, false, refl}
use Rattle.nf_ast.specs.View.{view}
use Rattle.nf_called.proofs.ByName.{wanted_as}
use Rattle.nf_called.proofs.leaves.check_expression.Goals as goal

pub returns-then-is_closure : goal.returns-then-is_closure
returns-then-is_closure c = wanted_as c.args.place (view c.args.expr.now) c.is_closure.result true c.is_closure.ensures.expression c.is_closure.ensures.closure c.if-is_closure.true

pub returns : goal.returns
returns c = record {
  value = view c.args.expr.now;
  is = wanted_as c.args.place (view c.args.expr.now) c.is_closure.result false c.is_closure.ensures.expression c.is_closure.ensures.closure c.if-is_closure.false;
  fits = refl;
}
