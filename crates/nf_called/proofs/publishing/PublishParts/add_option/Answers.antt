use Rattle.std.proofs.Common.{◌≡◌, Err, rules}
use Rattle.nf_ast.specs.View.{view}
use Rattle.nf_called.proofs.Folders.{pattern_given, pattern_refused, pattern_unknown, other_given, other_refused}
use Rattle.nf_called.proofs.publishing.PublishParts.add_option.Goals as goal

pub returns-in_err-check_expression-clause-meant : goal.returns-in_err-check_expression-clause-meant
returns-in_err-check_expression-clause-meant g c = λ m so.
    let x = g.F.Formulas.inside c.args.formulas.now in
    let n = g.F.Formulas.program c.args.formulas.now in
    let e = c.in_err-check_expression.field-0.0 in
    let err : c.from_residual.result ≡ Err e = search rules in
    rw err (pattern_refused n x m c.args.self.now so c.args.place c.args.name.now (view c.args.value.now) e (search rules) c.in_err-check_expression.ensures)

pub returns-in_err-expression-clause-meant : goal.returns-in_err-expression-clause-meant
returns-in_err-expression-clause-meant g c = λ m so.
    let x = g.F.Formulas.inside c.args.formulas.now in
    let n = g.F.Formulas.program c.args.formulas.now in
    let e = c.in_err-expression.field-0.0 in
    let err : c.from_residual-in_err-expression.result ≡ Err e = search rules in
    rw err (pattern_unknown n x m c.args.self.now so c.args.place c.args.name.now (view c.args.value.now) e (search rules) c.in_ok-check_expression.ensures c.in_err-expression.ensures)

pub returns-then-eq-clause-meant : goal.returns-then-eq-clause-meant
returns-then-eq-clause-meant g c = λ m so.
    let x = g.F.Formulas.inside c.args.formulas.now in
    let n = g.F.Formulas.program c.args.formulas.now in
    pattern_given n x m c.args.self.now so c.args.place c.args.name.now (view c.args.value.now) c.in_ok-expression.field-0 (search rules) c.in_ok-check_expression.ensures c.in_ok-expression.ensures

pub returns-then-is_without_effect-clause-meant : goal.returns-then-is_without_effect-clause-meant
returns-then-is_without_effect-clause-meant g c = λ m so.
    let x = g.F.Formulas.inside c.args.formulas.now in
    let n = g.F.Formulas.program c.args.formulas.now in
    other_given n x m c.args.self.now so c.args.place c.args.name.now (view c.args.value.now) (search rules) (search rules)

pub returns-clause-meant : goal.returns-clause-meant
returns-clause-meant g c = λ m so.
    let x = g.F.Formulas.inside c.args.formulas.now in
    let n = g.F.Formulas.program c.args.formulas.now in
    other_refused n x m c.args.self.now so c.args.place c.args.name.now (view c.args.value.now) (search rules) (search rules)
