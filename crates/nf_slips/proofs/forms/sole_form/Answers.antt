use Rattle.std.proofs.Common.{◌≡◌, ◌∙◌, map, sym, ap, rules}
use Rattle.nf_ast.specs.declared.expr.Expr.{the_lemmas}
use Rattle.nf_ast.specs.View.{trees, view_body, view_label}
use Rattle.nf_slips.specs.Forms.{form_of, sole_of}
use Rattle.nf_slips.proofs.Bodies.{sole_labels}
use Rattle.nf_slips.proofs.forms.sole_form.Goals as goal

pub returns-in-Labels : goal.returns-in-Labels
returns-in-Labels c =
    let xs = c.in-Labels.field-0.items in
    let is : view_body c.args.body.now ≡ trees (map view_label xs) = search (rules, the_lemmas) in
    sym (ap (λ t. sole_of (form_of t)) is ∙ sole_labels xs)
