use Rattle.std.proofs.Common.{◌≡◌, [], map, true, false, ap, ◌∙◌, sym, rules}
use Rattle.std.specs.Prelude.{◌&&◌, ◌||◌, not}
use Rattle.nf_ast.specs.declared.expr.Expr.{the_lemmas}
use Rattle.nf_ast.specs.View.{view, view_operand, view_branch, view_postfix, operands, conditional, postfix}
use Rattle.nf_printer.specs.Levels.{level, needs, postfix_level, begins_round}
use Rattle.nf_printer.specs.Chains.{is_nil, is_bare, none_late, is_held}
use Rattle.nf_printer.proofs.Lists.{ends}
use Rattle.nf_printer.proofs.Operands.{operands_begin}
use Rattle.nf_printer.proofs.Firsts.{branches_begin}
use Rattle.nf_printer.proofs.Postfixes.{parts_begin}
use Rattle.nf_printer.proofs.leading.+begins_round.Goals as goal

pub returns-then-is_bare : goal.returns-then-is_bare
returns-then-is_bare t c =
    let a = view c.in-Infix.first.value in
    let xs = map view_operand c.in-Infix.rest.items in
    let is : view c.args.expr.now ≡ operands a xs = search (rules, the_lemmas) in
    let bare : is_bare xs (level a) ≡ true = search rules in
    ends (ap begins_round is ∙ operands_begin a xs ∙ ap (λ b. not b || begins_round a) bare) (search rules)

pub returns-else-is_bare : goal.returns-else-is_bare
returns-else-is_bare t c =
    let a = view c.in-Infix.first.value in
    let xs = map view_operand c.in-Infix.rest.items in
    let is : view c.args.expr.now ≡ operands a xs = search (rules, the_lemmas) in
    let bare : is_bare xs (level a) ≡ false = search rules in
    sym (ap begins_round is ∙ operands_begin a xs ∙ ap (λ b. not b || begins_round a) bare)

pub returns-then-has_late : goal.returns-then-has_late
returns-then-has_late t c =
    let a = view c.in-Conditional.first.value in
    let xs = map view_branch c.in-Conditional.rest.items in
    let is : view c.args.expr.now ≡ conditional [] a xs = search (rules, the_lemmas) in
    let late : none_late xs 0 false ≡ false = search rules in
    sym (ap begins_round is ∙ branches_begin a xs ∙ ap (λ b. not b || (is_held a xs 0 false || begins_round a)) late)

pub returns-then-holds : goal.returns-then-holds
returns-then-holds t c =
    let a = view c.in-Conditional.first.value in
    let xs = map view_branch c.in-Conditional.rest.items in
    let is : view c.args.expr.now ≡ conditional [] a xs = search (rules, the_lemmas) in
    let late : none_late xs 0 false ≡ true = search rules in
    let held : is_held a xs 0 false ≡ true = search rules in
    sym (ap begins_round is ∙ branches_begin a xs ∙ ap (λ b. not b || (is_held a xs 0 false || begins_round a)) late ∙ ap (λ b. b || begins_round a) held)

pub returns-else-holds : goal.returns-else-holds
returns-else-holds t c =
    let a = view c.in-Conditional.first.value in
    let xs = map view_branch c.in-Conditional.rest.items in
    let is : view c.args.expr.now ≡ conditional [] a xs = search (rules, the_lemmas) in
    let late : none_late xs 0 false ≡ true = search rules in
    let held : is_held a xs 0 false ≡ false = search rules in
    ends (ap begins_round is ∙ branches_begin a xs ∙ ap (λ b. not b || (is_held a xs 0 false || begins_round a)) late ∙ ap (λ b. b || begins_round a) held) (search rules)

pub returns-then-bracketed : goal.returns-then-bracketed
returns-then-bracketed t c =
    let a = view c.in-Postfix.first.value in
    let ys = c.in-Postfix.rest.items in
    let is : view c.args.expr.now ≡ postfix a (map view_postfix ys) = search (rules, the_lemmas) in
    let held : not (is_nil (map view_postfix ys)) && needs postfix_level a ≡ true = search rules in
    sym (ap begins_round is ∙ parts_begin a ys ∙ ap (λ b. b || begins_round a) held)

pub returns-else-bracketed : goal.returns-else-bracketed
returns-else-bracketed t c =
    let a = view c.in-Postfix.first.value in
    let ys = c.in-Postfix.rest.items in
    let is : view c.args.expr.now ≡ postfix a (map view_postfix ys) = search (rules, the_lemmas) in
    let held : not (is_nil (map view_postfix ys)) && needs postfix_level a ≡ false = search rules in
    ends (ap begins_round is ∙ parts_begin a ys ∙ ap (λ b. b || begins_round a) held) (search rules)
