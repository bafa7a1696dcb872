use Rattle.std.proofs.Common.{◌≡◌, ◌∙◌, [], map, ap, sym, rules}
use Rattle.nf_ast.specs.declared.expr.Expr.{the_lemmas}
use Rattle.nf_ast.specs.View.{view, view_operand, view_branch, view_postfix, prefixes, operands, conditional, postfix}
use Rattle.nf_placed.specs.Body.{pattern_in}
use Rattle.nf_eval.specs.Shapes.{is_nil}
use Rattle.nf_eval.proofs.Shaping.{prefixes_none, prefixes_some, operands_none, operands_some, conditional_none, conditional_some, postfix_none, postfix_some}
use Rattle.nf_eval.proofs.shapes.+pattern_text.Goals as goal

pub returns-then-no_prefixes : goal.returns-then-no_prefixes
returns-then-no_prefixes t c =
    let ms = c.in-Prefix.operators.items in
    let a = view c.in-Prefix.of.value in
    let is : view c.args.expr.now ≡ prefixes ms a = search (rules, the_lemmas) in
    let fact : c.no_prefixes.result ≡ is_nil ms = search rules in
    let same : view c.args.expr.now ≡ a = is ∙ prefixes_none ms a (sym fact ∙ c.if-no_prefixes.true) in
    rw same (search rules)

pub returns-else-no_prefixes : goal.returns-else-no_prefixes
returns-else-no_prefixes t c =
    let ms = c.in-Prefix.operators.items in
    let a = view c.in-Prefix.of.value in
    let is : view c.args.expr.now ≡ prefixes ms a = search (rules, the_lemmas) in
    let fact : c.no_prefixes.result ≡ is_nil ms = search rules in
    ap pattern_in is ∙ (prefixes_some ms a (sym fact ∙ c.if-no_prefixes.false)).chain.no_pattern

pub returns-then-no_operands : goal.returns-then-no_operands
returns-then-no_operands t c =
    let ms = c.in-Infix.rest.items in
    let a = view c.in-Infix.first.value in
    let is : view c.args.expr.now ≡ operands a (map view_operand ms) = search (rules, the_lemmas) in
    let fact : c.no_operands.result ≡ is_nil (map view_operand ms) = search rules in
    let same : view c.args.expr.now ≡ a = is ∙ operands_none ms a (sym fact ∙ c.if-no_operands.true) in
    rw same (search rules)

pub returns-else-no_operands : goal.returns-else-no_operands
returns-else-no_operands t c =
    let ms = c.in-Infix.rest.items in
    let a = view c.in-Infix.first.value in
    let is : view c.args.expr.now ≡ operands a (map view_operand ms) = search (rules, the_lemmas) in
    let fact : c.no_operands.result ≡ is_nil (map view_operand ms) = search rules in
    ap pattern_in is ∙ (operands_some ms a (sym fact ∙ c.if-no_operands.false)).chain.no_pattern

pub returns-then-no_branches : goal.returns-then-no_branches
returns-then-no_branches t c =
    let ms = c.in-Conditional.rest.items in
    let a = view c.in-Conditional.first.value in
    let is : view c.args.expr.now ≡ conditional [] a (map view_branch ms) = search (rules, the_lemmas) in
    let fact : c.no_branches.result ≡ is_nil (map view_branch ms) = search rules in
    let same : view c.args.expr.now ≡ a = is ∙ conditional_none ms a (sym fact ∙ c.if-no_branches.true) in
    rw same (search rules)

pub returns-else-no_branches : goal.returns-else-no_branches
returns-else-no_branches t c =
    let ms = c.in-Conditional.rest.items in
    let a = view c.in-Conditional.first.value in
    let is : view c.args.expr.now ≡ conditional [] a (map view_branch ms) = search (rules, the_lemmas) in
    let fact : c.no_branches.result ≡ is_nil (map view_branch ms) = search rules in
    ap pattern_in is ∙ (conditional_some ms a (sym fact ∙ c.if-no_branches.false)).chain.no_pattern

pub returns-then-no_parts : goal.returns-then-no_parts
returns-then-no_parts t c =
    let ms = c.in-Postfix.rest.items in
    let a = view c.in-Postfix.first.value in
    let is : view c.args.expr.now ≡ postfix a (map view_postfix ms) = search (rules, the_lemmas) in
    let fact : c.no_parts.result ≡ is_nil (map view_postfix ms) = search rules in
    let same : view c.args.expr.now ≡ a = is ∙ postfix_none ms a (sym fact ∙ c.if-no_parts.true) in
    rw same (search rules)

pub returns-else-no_parts : goal.returns-else-no_parts
returns-else-no_parts t c =
    let ms = c.in-Postfix.rest.items in
    let a = view c.in-Postfix.first.value in
    let is : view c.args.expr.now ≡ postfix a (map view_postfix ms) = search (rules, the_lemmas) in
    let fact : c.no_parts.result ≡ is_nil (map view_postfix ms) = search rules in
    ap pattern_in is ∙ (postfix_some ms a (sym fact ∙ c.if-no_parts.false)).no_pattern
