use Rattle.std.proofs.Common.{◌≡◌, [], map, false, ap, ◌∙◌, rules}
use Rattle.std.specs.Prelude.{◌&&◌}
use Rattle.nf_ast.specs.declared.expr.Expr.{the_lemmas}
use Rattle.nf_ast.specs.View.{view, view_operand, view_branch, view_postfix, operands, conditional, postfix}
use Rattle.nf_printer.specs.Levels.{is_name}
use Rattle.nf_printer.specs.Chains.{is_nil}
use Rattle.nf_printer.proofs.Lists.{ends}
use Rattle.nf_printer.proofs.Operands.{operands_name}
use Rattle.nf_printer.proofs.Firsts.{branches_name}
use Rattle.nf_printer.proofs.Postfixes.{parts_name}
use Rattle.nf_printer.proofs.leading.+is_name.Goals as goal

pub returns-else-no_operands : goal.returns-else-no_operands
returns-else-no_operands t c =
    let w = c.args.word.now in
    let a = view c.in-Infix.first.value in
    let ys = c.in-Infix.rest.items in
    let is : view c.args.expr.now ≡ operands a (map view_operand ys) = search (rules, the_lemmas) in
    let some : is_nil (map view_operand ys) ≡ false = search rules in
    ends (ap (is_name w) is ∙ operands_name w a ys ∙ ap (λ b. b && is_name w a) some) (search rules)

pub returns-else-no_branches : goal.returns-else-no_branches
returns-else-no_branches t c =
    let w = c.args.word.now in
    let a = view c.in-Conditional.first.value in
    let xs = map view_branch c.in-Conditional.rest.items in
    let is : view c.args.expr.now ≡ conditional [] a xs = search (rules, the_lemmas) in
    let some : is_nil xs ≡ false = search rules in
    ends (ap (is_name w) is ∙ branches_name w a xs ∙ ap (λ b. b && is_name w a) some) (search rules)

pub returns-else-no_parts : goal.returns-else-no_parts
returns-else-no_parts t c =
    let w = c.args.word.now in
    let a = view c.in-Postfix.first.value in
    let ys = c.in-Postfix.rest.items in
    let is : view c.args.expr.now ≡ postfix a (map view_postfix ys) = search (rules, the_lemmas) in
    let some : is_nil (map view_postfix ys) ≡ false = search rules in
    ends (ap (is_name w) is ∙ parts_name w a ys ∙ ap (λ b. b && is_name w a) some) (search rules)
