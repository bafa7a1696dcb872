use Rattle.std.proofs.Common.{◌≡◌, ◌∙◌, [], map, sym, ap, subst, rules, arith}
use Rattle.nf_ast.specs.declared.expr.Expr.{the_lemmas}
use Rattle.nf_ast.specs.Tree as tree
use Rattle.nf_ast.specs.View.{conditional, operands, postfix, prefixes, view, view_branch, view_operand, view_postfix}
use Rattle.nf_totals.specs.Marks.{IsSignOf}
use Rattle.nf_totals.proofs.Signed.{last_sign, parts_sign, prefixes_sign, turns_sign}
use Rattle.nf_totals.proofs.marks.+operator_total.Goals as goal

pub returns-in-Prefix : goal.returns-in-Prefix
returns-in-Prefix t c =
    let ops = c.in-Prefix.field-0.items in
    let e = view c.in-Prefix.of.value in
    let is : view c.args.expr.now ≡ prefixes ops e = search (rules, the_lemmas) in
    let same : c.deref.result.now ≡ c.in-Prefix.of.value = search rules in
    prefixes_sign (view c.args.expr.now) e ops c.operator_total.result is (subst (λ x. IsSignOf (view x) c.operator_total.result) same c.operator_total.ensures)

pub returns-in-len1-up : goal.returns-in-len1-up
returns-in-len1-up t c p o b d h =
    let all = c.as_slice.result.now in
    let a = view c.in-Infix.first.value in
    let x = c.last-item.result in
    let is : view c.args.expr.now ≡ operands a (map view_operand c.in-Infix.rest.items) = search (rules, the_lemmas) in
    let one : view_operand x ≡ tree.binary x.place x.operator tree.empty (view x.expr) = search (rules, the_lemmas) in
    let whole = is ∙ ap (λ xs. operands a (map view_operand xs)) (sym c.as_slice.ensures.value) in
    c.sign_total.ensures ∙ last_sign (view c.args.expr.now) a all x (view x.expr) whole (omega (arith, c.in-len1-up.len_at_least)) c.last-item.is one p o b d h

pub returns-in-Conditional : goal.returns-in-Conditional
returns-in-Conditional t c =
    let e = view c.in-Conditional.first.value in
    let xs = map view_branch c.in-Conditional.field-1.items in
    let is : view c.args.expr.now ≡ conditional [] e xs = search (rules, the_lemmas) in
    let same : c.deref-in-Conditional.result.now ≡ c.in-Conditional.first.value = search rules in
    turns_sign (view c.args.expr.now) e xs c.operator_total-in-Conditional.result is (subst (λ x. IsSignOf (view x) c.operator_total-in-Conditional.result) same c.operator_total-in-Conditional.ensures)

pub returns-in-Postfix : goal.returns-in-Postfix
returns-in-Postfix t c =
    let e = view c.in-Postfix.first.value in
    let xs = map view_postfix c.in-Postfix.field-1.items in
    let is : view c.args.expr.now ≡ postfix e xs = search (rules, the_lemmas) in
    let same : c.deref-in-Postfix.result.now ≡ c.in-Postfix.first.value = search rules in
    parts_sign (view c.args.expr.now) e xs c.operator_total-in-Postfix.result is (subst (λ x. IsSignOf (view x) c.operator_total-in-Postfix.result) same c.operator_total-in-Postfix.ensures)
