use Rattle.std.proofs.Common.{◌≡◌, ◌∙◌, map, sym, ap, rules}
use Rattle.nf_ast.specs.declared.expr.Expr.{the_lemmas}
use Rattle.nf_ast.specs.View.{trees, view_body, view_label}
use Rattle.nf_totals.specs.Totals.{total_alone}
use Rattle.nf_totals.proofs.Bodies.{labels_none}
use Rattle.nf_totals.proofs.totals.body_total.Goals as goal

pub returns-in-Labels : goal.returns-in-Labels
returns-in-Labels c =
    let xs = c.in-Labels.field-0.items in
    let is : view_body c.args.body.now ≡ trees (map view_label xs) = search (rules, the_lemmas) in
    sym (ap (total_alone c.args.first.now c.args.second.now) is ∙ labels_none c.args.first.now c.args.second.now xs)
