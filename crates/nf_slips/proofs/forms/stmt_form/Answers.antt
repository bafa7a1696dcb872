use Rattle.std.proofs.Common.{◌≡◌, ◌∙◌, map, sym, ap, rules}
use Rattle.std.specs.Prelude.{option_map}
use Rattle.nf_ast.specs.declared.expr.Expr.{the_lemmas}
use Rattle.nf_ast.specs.View.{choice, last_arm, view_arm, view_stmt}
use Rattle.nf_slips.specs.Forms.{form_of}
use Rattle.nf_slips.proofs.Formed.{choice_form}
use Rattle.nf_slips.proofs.forms.stmt_form.Goals as goal

pub returns-in-Choice : goal.returns-in-Choice
returns-in-Choice c =
    let xs = map view_arm c.in-Choice.field-0.items in
    let last = c.in-Choice.field-1 in
    let is : view_stmt c.args.stmt.now ≡ choice xs (last_arm (option_map (λ v. map view_stmt v.items) last)) = search (rules, the_lemmas) in
    sym (ap form_of is ∙ choice_form xs (option_map (λ v. map view_stmt v.items) last))
