use Rattle.std.proofs.Common.{◌≡◌, ◌<◌, ◌-◌, Some, length, arith, [], map, true, false, ap, ◌∙◌, sym, rules}
use Rattle.std.specs.Prelude.{if◌then◌else◌}
use Rattle.std.specs.List.{slice_get}
use Rattle.std.proofs.lemmas.Option.{slice_get_within}
use Rattle.nf_ast.specs.declared.expr.Expr.{the_lemmas}
use Rattle.nf_ast.specs.View.{view, view_operand, view_branch, view_postfix, operands, conditional, postfix}
use Rattle.nf_printer.specs.Levels.{level}
use Rattle.nf_printer.specs.Chains.{is_nil}
use Rattle.nf_printer.proofs.Operands.{operands_level}
use Rattle.nf_printer.proofs.Lasts.{last_operator}
use Rattle.nf_printer.proofs.Firsts.{branches_level}
use Rattle.nf_printer.proofs.Postfixes.{parts_level}
use Rattle.nf_printer.proofs.levels.+level.Goals as goal

pub returns-in-Some : goal.returns-in-Some
returns-in-Some t c =
    let a = view c.in-Infix.first.value in
    let ys = c.in-Infix.rest.items in
    let y = c.in-Some.operand.now in
    let is : view c.args.expr.now ≡ operands a (map view_operand ys) = search (rules, the_lemmas) in
    let at : slice_get ys (length ys - 1) ≡ Some y = search rules in
    let some : length ys - 1 < length ys = slice_get_within ys (length ys - 1) y at in
    c.infix_level.ensures ∙ sym (ap level is ∙ operands_level a (map view_operand ys) ∙ last_operator ys y (level a) (length ys - 1) (omega arith) at)

pub returns-then-no_branches : goal.returns-then-no_branches
returns-then-no_branches t c =
    let a = view c.in-Conditional.first.value in
    let xs = map view_branch c.in-Conditional.rest.items in
    let is : view c.args.expr.now ≡ conditional [] a xs = search (rules, the_lemmas) in
    let led : c.level-then-no_branches.result ≡ level a = search rules in
    let none : is_nil xs ≡ true = search rules in
    led ∙ sym (ap level is ∙ branches_level a xs ∙ ap (λ b. if b then level a else 0) none)

pub returns-else-no_branches : goal.returns-else-no_branches
returns-else-no_branches t c =
    let a = view c.in-Conditional.first.value in
    let xs = map view_branch c.in-Conditional.rest.items in
    let is : view c.args.expr.now ≡ conditional [] a xs = search (rules, the_lemmas) in
    let some : is_nil xs ≡ false = search rules in
    sym (ap level is ∙ branches_level a xs ∙ ap (λ b. if b then level a else 0) some)

pub returns-then-no_parts : goal.returns-then-no_parts
returns-then-no_parts t c =
    let a = view c.in-Postfix.first.value in
    let ys = c.in-Postfix.rest.items in
    let is : view c.args.expr.now ≡ postfix a (map view_postfix ys) = search (rules, the_lemmas) in
    let led : c.level-then-no_parts.result ≡ level a = search rules in
    let none : is_nil (map view_postfix ys) ≡ true = search rules in
    led ∙ sym (ap level is ∙ parts_level a ys ∙ ap (λ b. if b then level a else 10) none)

pub returns-else-no_parts : goal.returns-else-no_parts
returns-else-no_parts t c =
    let a = view c.in-Postfix.first.value in
    let ys = c.in-Postfix.rest.items in
    let is : view c.args.expr.now ≡ postfix a (map view_postfix ys) = search (rules, the_lemmas) in
    let some : is_nil (map view_postfix ys) ≡ false = search rules in
    sym (ap level is ∙ parts_level a ys ∙ ap (λ b. if b then level a else 10) some)
