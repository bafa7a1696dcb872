use Rattle.std.proofs.Common.{◌≡◌, Err, map, subst, rules}
use Rattle.nf_ast.specs.View.{trees, view, view_arg}
use Rattle.nf_meaning.specs.Directives.{expression, only_arg}
use Rattle.nf_lowered.specs.Given.{Gives}
use Rattle.nf_lowered.proofs.Joining.{fault_on}
use Rattle.nf_called.specs.Formulas.{IsFormula}
use Rattle.nf_called.proofs.Steps.{then_gives}
use Rattle.nf_called.proofs.directives.only_expression.Goals as goal

pub returns-in_err-expr : goal.returns-in_err-expr
returns-in_err-expr g c =
    let x = g.F.Formulas.inside c.args.formulas.now in
    let e = c.in_err-expr.field-0.0 in
    let err : c.from_residual.result ≡ Err e = search rules in
    rw err (fault_on (only_arg c.args.place (trees (map view_arg c.args.args.now))) (expression x) e c.in_err-expr.ensures)

pub returns : goal.returns
returns g c =
    let x = g.F.Formulas.inside c.args.formulas.now in
    let n = g.F.Formulas.program c.args.formulas.now in
    let r = c.expression.result in
    then_gives (λ t. view c.in_ok-expr.expr.now ≡ t) (IsFormula n) (only_arg c.args.place (trees (map view_arg c.args.args.now))) (expression x) r c.in_ok-expr.ensures
    (λ t is. subst (λ u. Gives (IsFormula n) (expression x u) r) is c.expression.ensures)
