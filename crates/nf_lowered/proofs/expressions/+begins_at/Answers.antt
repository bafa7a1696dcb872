use Rattle.std.proofs.Common.{◌≡◌, [], map, ap, ◌∙◌, sym, rules}
use Rattle.nf_ast.specs.declared.expr.Expr.{the_lemmas}
use Rattle.nf_ast.specs.View.{view, view_operand, view_branch, view_postfix, operands, conditional, postfix}
use Rattle.nf_meaning.specs.Places.{begins_at}
use Rattle.nf_lowered.proofs.Chains.{operands_begin, branches_begin, parts_begin}
use Rattle.nf_lowered.proofs.expressions.+begins_at.Goals as goal

pub returns-in-Infix : goal.returns-in-Infix
returns-in-Infix t c =
    let a = view c.in-Infix.first.value in
    let xs = map view_operand c.in-Infix.field-1.items in
    let is : view c.args.expr.now ≡ operands a xs = search (rules, the_lemmas) in
    let first : c.begins_at-in-Infix.result ≡ begins_at a = search rules in
    first ∙ sym (ap begins_at is ∙ operands_begin a xs)

pub returns-in-Conditional : goal.returns-in-Conditional
returns-in-Conditional t c =
    let a = view c.in-Conditional.first.value in
    let xs = map view_branch c.in-Conditional.field-1.items in
    let is : view c.args.expr.now ≡ conditional [] a xs = search (rules, the_lemmas) in
    let first : c.begins_at-in-Conditional.result ≡ begins_at a = search rules in
    first ∙ sym (ap begins_at is ∙ branches_begin a xs)

pub returns-in-Postfix : goal.returns-in-Postfix
returns-in-Postfix t c =
    let a = view c.in-Postfix.first.value in
    let ys = c.in-Postfix.field-1.items in
    let is : view c.args.expr.now ≡ postfix a (map view_postfix ys) = search (rules, the_lemmas) in
    let first : c.begins_at-in-Postfix.result ≡ begins_at a = search rules in
    first ∙ sym (ap begins_at is ∙ parts_begin a ys)
