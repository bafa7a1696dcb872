use Rattle.std.proofs.Common.{◌≡◌, [], map, true, ap, ◌∙◌, rules}
use Rattle.nf_ast.specs.declared.expr.Expr.{the_lemmas}
use Rattle.nf_ast.specs.View.{view, view_operand, view_branch, view_postfix, operands, conditional, postfix, prefixes}
use Rattle.nf_printer.specs.Bodies.{is_expr}
use Rattle.nf_printer.proofs.Operands.{operands_expr, prefixes_expr}
use Rattle.nf_printer.proofs.Firsts.{branches_expr}
use Rattle.nf_printer.proofs.Postfixes.{parts_expr}
use Rattle.nf_printer.proofs.leading.+is_expression.Goals as goal

pub returns-in-Prefix : goal.returns-in-Prefix
returns-in-Prefix t c =
    let a = view c.in-Prefix.of.value in
    let is : view c.args.expr.now ≡ prefixes c.in-Prefix.field-0.items a = search (rules, the_lemmas) in
    let one : is_expr a ≡ true = search rules in
    ap is_expr is ∙ prefixes_expr c.in-Prefix.field-0.items a one

pub returns-in-Infix : goal.returns-in-Infix
returns-in-Infix t c =
    let a = view c.in-Infix.first.value in
    let xs = map view_operand c.in-Infix.field-1.items in
    let is : view c.args.expr.now ≡ operands a xs = search (rules, the_lemmas) in
    let one : is_expr a ≡ true = search rules in
    ap is_expr is ∙ operands_expr a xs one

pub returns-in-Conditional : goal.returns-in-Conditional
returns-in-Conditional t c =
    let a = view c.in-Conditional.first.value in
    let xs = map view_branch c.in-Conditional.field-1.items in
    let is : view c.args.expr.now ≡ conditional [] a xs = search (rules, the_lemmas) in
    let one : is_expr a ≡ true = search rules in
    ap is_expr is ∙ branches_expr a xs one

pub returns-in-Postfix : goal.returns-in-Postfix
returns-in-Postfix t c =
    let a = view c.in-Postfix.first.value in
    let ys = c.in-Postfix.field-1.items in
    let is : view c.args.expr.now ≡ postfix a (map view_postfix ys) = search (rules, the_lemmas) in
    let one : is_expr a ≡ true = search rules in
    ap is_expr is ∙ parts_expr a ys one
