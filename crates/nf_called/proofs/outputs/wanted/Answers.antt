use Rattle.std.proofs.Common.{◌≡◌, Err, subst, sym, rules}
use Rattle.nf_ast.specs.View.{view}
use Rattle.nf_meaning.specs.Places.{begins_at}
use Rattle.nf_meaning.specs.Directives.{expression, expression_wanted}
use Rattle.nf_lowered.specs.Given.{Gives, HasFault, HasValue}
use Rattle.nf_lowered.proofs.Joining.{fault_on}
use Rattle.nf_called.specs.Formulas.{IsFormula}
use Rattle.nf_called.proofs.Steps.{then_gives}
use Rattle.nf_called.proofs.outputs.wanted.Goals as goal

pub returns-in_err-check_expression : goal.returns-in_err-check_expression
returns-in_err-check_expression g c =
    let x = g.F.Formulas.inside c.args.formulas.now in
    let t = view c.args.expr.now in
    let e = c.in_err-check_expression.field-0.0 in
    let err : c.from_residual.result ≡ Err e = search rules in
    rw err (fault_on (expression_wanted (begins_at t) t) (expression x) e (subst (λ p. HasFault (expression_wanted p t) e) c.begins_at.ensures c.in_err-check_expression.ensures))

pub returns : goal.returns
returns g c =
    let x = g.F.Formulas.inside c.args.formulas.now in
    let n = g.F.Formulas.program c.args.formulas.now in
    let t = view c.args.expr.now in
    let r = c.expression.result in
    then_gives (λ u. u ≡ t) (IsFormula n) (expression_wanted (begins_at t) t) (expression x) r (subst (λ p. HasValue (expression_wanted p t) (λ u. u ≡ t)) c.begins_at.ensures c.in_ok-check_expression.ensures)
    (λ u is. subst (λ y. Gives (IsFormula n) (expression x y) r) (sym is) c.expression.ensures)
