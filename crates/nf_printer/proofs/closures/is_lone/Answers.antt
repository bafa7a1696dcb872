use Rattle.std.proofs.Common.{◌≡◌, map, sym, ap, ◌∙◌, rules}
use Rattle.std.specs.Prelude.{option_map}
use Rattle.nf_ast.specs.declared.expr.Expr.{the_lemmas}
use Rattle.nf_ast.specs.View.{view_stmt, view_arm, choice, last_arm}
use Rattle.nf_printer.specs.Bodies.{is_expr}
use Rattle.nf_printer.proofs.Arms.{choice_expr}
use Rattle.nf_printer.proofs.closures.is_lone.Goals as goal

pub returns-in-Choice : goal.returns-in-Choice
returns-in-Choice c =
    let xs = map view_arm c.in-Choice.field-0.items in
    let last = option_map (λ v. map view_stmt v.items) c.in-Choice.field-1 in
    let is : view_stmt c.args.stmt.now ≡ choice xs (last_arm last) = search (rules, the_lemmas) in
    sym (ap is_expr is ∙ choice_expr xs last)
