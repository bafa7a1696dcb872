use Rattle.std.proofs.Common.{◌≡◌, ◌∙◌, Err, true, false, ap, sym, rules}
use Rattle.std.specs.Prelude.{is_some}
use Rattle.nf_ast.specs.declared.expr.Arg.{the_lemmas}
use Rattle.nf_ast.specs.View.{view, view_arg, with_name}
use Rattle.nf_meaning.specs.Directives.{expression_wanted}
use Rattle.nf_called.proofs.ByName.{named_arg, plain_arg}
use Rattle.nf_called.proofs.Steps.{fault_as}
use Rattle.nf_called.proofs.directives.sole.Goals as goal

pub returns-then-is_some : goal.returns-then-is_some
returns-then-is_some c =
    let a = c.args.arg.now in
    let seen : view_arg a ≡ with_name a.name (view a.value) = search (rules, the_lemmas) in
    let named : is_some a.name ≡ true = search rules in
    ap (expression_wanted c.args.place) seen ∙ named_arg c.args.place a.name (view a.value) named

pub returns-in_err-check_expression : goal.returns-in_err-check_expression
returns-in_err-check_expression c =
    let a = c.args.arg.now in
    let seen : view_arg a ≡ with_name a.name (view a.value) = search (rules, the_lemmas) in
    let plain : is_some a.name ≡ false = search rules in
    let e = c.in_err-check_expression.field-0.0 in
    let err : c.from_residual.result ≡ Err e = search rules in
    rw err (fault_as _ _ e (ap (expression_wanted c.args.place) (seen ∙ plain_arg a.name (view a.value) plain)) c.in_err-check_expression.ensures)

pub returns : goal.returns
returns c =
    let a = c.args.arg.now in
    let seen : view_arg a ≡ with_name a.name (view a.value) = search (rules, the_lemmas) in
    let plain : is_some a.name ≡ false = search rules in
    let v = c.in_ok-check_expression.ensures in
    record {
      value = v.value;
      is = ap (expression_wanted c.args.place) (seen ∙ plain_arg a.name (view a.value) plain) ∙ v.is;
      fits = sym v.fits;
    }
