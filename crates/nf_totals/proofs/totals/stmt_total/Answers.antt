use Rattle.std.proofs.Common.{◌≡◌, ◌∙◌, map, sym, ap, rules}
use Rattle.std.specs.Prelude.{option_map}
use Rattle.nf_ast.specs.declared.expr.Expr.{the_lemmas}
use Rattle.nf_ast.specs.View.{choice, last_arm, view_arm, view_stmt}
use Rattle.nf_meaning.specs.Totals.{folding_in, total_over}
use Rattle.nf_totals.proofs.Bodies.{choice_none}
use Rattle.nf_totals.proofs.totals.stmt_total.Goals as goal

pub returns-in-Choice : goal.returns-in-Choice
returns-in-Choice c =
    let xs = map view_arm c.in-Choice.field-0.items in
    let last = option_map (λ v. map view_stmt v.items) c.in-Choice.field-1 in
    let is : view_stmt c.args.stmt.now ≡ choice xs (last_arm last) = search (rules, the_lemmas) in
    sym (ap (λ t. total_over c.args.first.now c.args.second.now (folding_in t)) is ∙ choice_none c.args.first.now c.args.second.now xs last)
