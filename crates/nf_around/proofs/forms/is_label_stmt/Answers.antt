use Rattle.std.proofs.Common.{◌≡◌, map, rules}
use Rattle.std.specs.Prelude.{option_map}
use Rattle.nf_ast.specs.declared.expr.Expr.{the_lemmas}
use Rattle.nf_ast.specs.View.{choice, last_arm, view_arm, view_stmt}
use Rattle.nf_around.proofs.Leaves.{choice_is_none}
use Rattle.nf_around.proofs.forms.is_label_stmt.Goals as goal

pub returns-in-Choice-clause-label : goal.returns-in-Choice-clause-label
returns-in-Choice-clause-label c =
    let xs = map view_arm c.in-Choice.field-0.items in
    let last = option_map (λ v. map view_stmt v.items) c.in-Choice.field-1 in
    let is : view_stmt c.args.stmt.now ≡ choice xs (last_arm last) = search (rules, the_lemmas) in
    choice_is_none (view_stmt c.args.stmt.now) xs last is
