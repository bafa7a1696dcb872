use Rattle.std.proofs.Common.{◌≡◌, [], map, true, false, ap, ◌∙◌, sym, rules}
use Rattle.std.specs.Prelude.{◌&&◌, not, codes, if◌then◌else◌}
use Rattle.nf_ast.specs.declared.expr.Expr.{the_lemmas}
use Rattle.nf_ast.specs.View.{view, view_operand, view_branch, view_postfix, operands, conditional, postfix}
use Rattle.nf_printer.specs.Levels.{level, needs, postfix_level, is_name, prints}
use Rattle.nf_printer.specs.Chains.{is_nil, is_bare, none_late, is_held}
use Rattle.nf_printer.specs.Leading.{begins_property, after_first, next_begins, next_minus}
use Rattle.nf_printer.proofs.Lists.{ends}
use Rattle.nf_printer.proofs.Operands.{operands_print}
use Rattle.nf_printer.proofs.Firsts.{branches_print}
use Rattle.nf_printer.proofs.Postfixes.{parts_print, prints_with}
use Rattle.nf_printer.proofs.leading.+prints.Goals as goal

pub returns-then-is_bare : goal.returns-then-is_bare
returns-then-is_bare t c =
    let a = view c.in-Infix.first.value in
    let xs = map view_operand c.in-Infix.rest.items in
    let is : view c.args.expr.now ≡ operands a xs = search (rules, the_lemmas) in
    let bare : is_bare xs (level a) ≡ true = search rules in
    ends (ap (λ e. prints e c.args.next) is ∙ operands_print a xs c.args.next ∙ ap (λ b. b && prints a (next_minus xs c.args.next)) bare) (search rules)

pub returns-else-is_bare : goal.returns-else-is_bare
returns-else-is_bare t c =
    let a = view c.in-Infix.first.value in
    let xs = map view_operand c.in-Infix.rest.items in
    let is : view c.args.expr.now ≡ operands a xs = search (rules, the_lemmas) in
    let bare : is_bare xs (level a) ≡ false = search rules in
    sym (ap (λ e. prints e c.args.next) is ∙ operands_print a xs c.args.next ∙ ap (λ b. b && prints a (next_minus xs c.args.next)) bare)

pub returns-then-has_late : goal.returns-then-has_late
returns-then-has_late t c =
    let a = view c.in-Conditional.first.value in
    let xs = map view_branch c.in-Conditional.rest.items in
    let is : view c.args.expr.now ≡ conditional [] a xs = search (rules, the_lemmas) in
    let late : none_late xs 0 false ≡ false = search rules in
    sym (ap (λ e. prints e c.args.next) is ∙ branches_print a xs c.args.next ∙ ap (λ b. b && (not (is_held a xs 0 false) && prints a (c.args.next && is_nil xs))) late)

pub returns-then-holds : goal.returns-then-holds
returns-then-holds t c =
    let a = view c.in-Conditional.first.value in
    let xs = map view_branch c.in-Conditional.rest.items in
    let is : view c.args.expr.now ≡ conditional [] a xs = search (rules, the_lemmas) in
    let late : none_late xs 0 false ≡ true = search rules in
    let held : is_held a xs 0 false ≡ true = search rules in
    sym (ap (λ e. prints e c.args.next) is ∙ branches_print a xs c.args.next ∙ ap (λ b. b && (not (is_held a xs 0 false) && prints a (c.args.next && is_nil xs))) late ∙ ap (λ b. not b && prints a (c.args.next && is_nil xs)) held)

pub returns-else-holds : goal.returns-else-holds
returns-else-holds t c =
    let a = view c.in-Conditional.first.value in
    let xs = map view_branch c.in-Conditional.rest.items in
    let is : view c.args.expr.now ≡ conditional [] a xs = search (rules, the_lemmas) in
    let late : none_late xs 0 false ≡ true = search rules in
    let held : is_held a xs 0 false ≡ false = search rules in
    ends (ap (λ e. prints e c.args.next) is ∙ branches_print a xs c.args.next ∙ ap (λ b. b && (not (is_held a xs 0 false) && prints a (c.args.next && is_nil xs))) late ∙ ap (λ b. not b && prints a (c.args.next && is_nil xs)) held) (search rules)

pub returns-then-no_parts : goal.returns-then-no_parts
returns-then-no_parts t c =
    let a = view c.in-Postfix.first.value in
    let ys = c.in-Postfix.rest.items in
    let xs = map view_postfix ys in
    let is : view c.args.expr.now ≡ postfix a xs = search (rules, the_lemmas) in
    let none : is_nil xs ≡ true = search rules in
    ends (ap (λ e. prints e c.args.next) is ∙ parts_print a ys c.args.next ∙ ap (λ b. if b then prints a c.args.next else prints_with a xs c.args.next) none) (search rules)

pub returns-then-bracketed : goal.returns-then-bracketed
returns-then-bracketed t c =
    let a = view c.in-Postfix.first.value in
    let ys = c.in-Postfix.rest.items in
    let xs = map view_postfix ys in
    let is : view c.args.expr.now ≡ postfix a xs = search (rules, the_lemmas) in
    let some : is_nil xs ≡ false = search rules in
    let held : needs postfix_level a ≡ true = search rules in
    sym (ap (λ e. prints e c.args.next) is ∙ parts_print a ys c.args.next ∙ ap (λ b. if b then prints a c.args.next else prints_with a xs c.args.next) some ∙ ap (λ b. not b && (if begins_property xs && is_name (codes "log") a then next_begins (after_first xs) c.args.next else prints a (next_begins xs false))) held)

pub returns-then-both : goal.returns-then-both
returns-then-both t c =
    let a = view c.in-Postfix.first.value in
    let ys = c.in-Postfix.rest.items in
    let xs = map view_postfix ys in
    let is : view c.args.expr.now ≡ postfix a xs = search (rules, the_lemmas) in
    let some : is_nil xs ≡ false = search rules in
    let held : needs postfix_level a ≡ false = search rules in
    let logs : begins_property xs && is_name (codes "log") a ≡ true = search rules in
    ends (ap (λ e. prints e c.args.next) is ∙ parts_print a ys c.args.next ∙ ap (λ b. if b then prints a c.args.next else prints_with a xs c.args.next) some ∙ ap (λ b. not b && (if begins_property xs && is_name (codes "log") a then next_begins (after_first xs) c.args.next else prints a (next_begins xs false))) held ∙ ap (λ b. if b then next_begins (after_first xs) c.args.next else prints a (next_begins xs false)) logs) (search rules)

pub returns-else-both : goal.returns-else-both
returns-else-both t c =
    let a = view c.in-Postfix.first.value in
    let ys = c.in-Postfix.rest.items in
    let xs = map view_postfix ys in
    let is : view c.args.expr.now ≡ postfix a xs = search (rules, the_lemmas) in
    let some : is_nil xs ≡ false = search rules in
    let held : needs postfix_level a ≡ false = search rules in
    let logs : begins_property xs && is_name (codes "log") a ≡ false = search rules in
    ends (ap (λ e. prints e c.args.next) is ∙ parts_print a ys c.args.next ∙ ap (λ b. if b then prints a c.args.next else prints_with a xs c.args.next) some ∙ ap (λ b. not b && (if begins_property xs && is_name (codes "log") a then next_begins (after_first xs) c.args.next else prints a (next_begins xs false))) held ∙ ap (λ b. if b then next_begins (after_first xs) c.args.next else prints a (next_begins xs false)) logs) (search rules)
