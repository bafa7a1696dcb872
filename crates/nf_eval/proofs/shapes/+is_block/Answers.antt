use Rattle.std.proofs.Common.{◌≡◌, ◌∙◌, [], map, ap, sym, rules}
use Rattle.std.specs.Prelude.{not}
use Rattle.nf_ast.specs.declared.expr.Expr.{the_lemmas}
use Rattle.nf_ast.specs.View.{view, view_operand, view_branch, view_postfix, prefixes, operands, conditional, postfix}
use Rattle.nf_eval.specs.Shapes.{is_nil, is_closure, is_plain}
use Rattle.nf_eval.proofs.Shaping.{prefixes_none, prefixes_some, operands_none, operands_some, conditional_none, conditional_some, postfix_none, postfix_some}
use Rattle.nf_eval.proofs.shapes.+is_block.Goals as goal

pub returns-then-no_prefixes-clause-closure : goal.returns-then-no_prefixes-clause-closure
returns-then-no_prefixes-clause-closure t c =
    let ms = c.in-Prefix.operators.items in
    let a = view c.in-Prefix.of.value in
    let is : view c.args.expr.now ≡ prefixes ms a = search (rules, the_lemmas) in
    let fact : c.no_prefixes.result ≡ is_nil ms = search rules in
    let same : view c.args.expr.now ≡ a = is ∙ prefixes_none ms a (sym fact ∙ c.if-no_prefixes.true) in
    let ih : c.is_block.result ≡ is_closure a = search rules in
    ih ∙ ap is_closure (sym same)

pub returns-then-no_prefixes-clause-plain : goal.returns-then-no_prefixes-clause-plain
returns-then-no_prefixes-clause-plain t c =
    let ms = c.in-Prefix.operators.items in
    let a = view c.in-Prefix.of.value in
    let is : view c.args.expr.now ≡ prefixes ms a = search (rules, the_lemmas) in
    let fact : c.no_prefixes.result ≡ is_nil ms = search rules in
    let same : view c.args.expr.now ≡ a = is ∙ prefixes_none ms a (sym fact ∙ c.if-no_prefixes.true) in
    let ih : not c.is_block.result ≡ is_plain a = search rules in
    ih ∙ ap is_plain (sym same)

pub returns-else-no_prefixes-clause-closure : goal.returns-else-no_prefixes-clause-closure
returns-else-no_prefixes-clause-closure t c =
    let ms = c.in-Prefix.operators.items in
    let a = view c.in-Prefix.of.value in
    let is : view c.args.expr.now ≡ prefixes ms a = search (rules, the_lemmas) in
    let fact : c.no_prefixes.result ≡ is_nil ms = search rules in
    sym (ap is_closure is ∙ (prefixes_some ms a (sym fact ∙ c.if-no_prefixes.false)).chain.no_closure)

pub returns-else-no_prefixes-clause-plain : goal.returns-else-no_prefixes-clause-plain
returns-else-no_prefixes-clause-plain t c =
    let ms = c.in-Prefix.operators.items in
    let a = view c.in-Prefix.of.value in
    let is : view c.args.expr.now ≡ prefixes ms a = search (rules, the_lemmas) in
    let fact : c.no_prefixes.result ≡ is_nil ms = search rules in
    sym (ap is_plain is ∙ (prefixes_some ms a (sym fact ∙ c.if-no_prefixes.false)).chain.plain_is)

pub returns-then-no_operands-clause-closure : goal.returns-then-no_operands-clause-closure
returns-then-no_operands-clause-closure t c =
    let ms = c.in-Infix.rest.items in
    let a = view c.in-Infix.first.value in
    let is : view c.args.expr.now ≡ operands a (map view_operand ms) = search (rules, the_lemmas) in
    let fact : c.no_operands.result ≡ is_nil (map view_operand ms) = search rules in
    let same : view c.args.expr.now ≡ a = is ∙ operands_none ms a (sym fact ∙ c.if-no_operands.true) in
    let ih : c.is_block-then-no_operands.result ≡ is_closure a = search rules in
    ih ∙ ap is_closure (sym same)

pub returns-then-no_operands-clause-plain : goal.returns-then-no_operands-clause-plain
returns-then-no_operands-clause-plain t c =
    let ms = c.in-Infix.rest.items in
    let a = view c.in-Infix.first.value in
    let is : view c.args.expr.now ≡ operands a (map view_operand ms) = search (rules, the_lemmas) in
    let fact : c.no_operands.result ≡ is_nil (map view_operand ms) = search rules in
    let same : view c.args.expr.now ≡ a = is ∙ operands_none ms a (sym fact ∙ c.if-no_operands.true) in
    let ih : not c.is_block-then-no_operands.result ≡ is_plain a = search rules in
    ih ∙ ap is_plain (sym same)

pub returns-else-no_operands-clause-closure : goal.returns-else-no_operands-clause-closure
returns-else-no_operands-clause-closure t c =
    let ms = c.in-Infix.rest.items in
    let a = view c.in-Infix.first.value in
    let is : view c.args.expr.now ≡ operands a (map view_operand ms) = search (rules, the_lemmas) in
    let fact : c.no_operands.result ≡ is_nil (map view_operand ms) = search rules in
    sym (ap is_closure is ∙ (operands_some ms a (sym fact ∙ c.if-no_operands.false)).chain.no_closure)

pub returns-else-no_operands-clause-plain : goal.returns-else-no_operands-clause-plain
returns-else-no_operands-clause-plain t c =
    let ms = c.in-Infix.rest.items in
    let a = view c.in-Infix.first.value in
    let is : view c.args.expr.now ≡ operands a (map view_operand ms) = search (rules, the_lemmas) in
    let fact : c.no_operands.result ≡ is_nil (map view_operand ms) = search rules in
    sym (ap is_plain is ∙ (operands_some ms a (sym fact ∙ c.if-no_operands.false)).chain.plain_is)

pub returns-then-no_branches-clause-closure : goal.returns-then-no_branches-clause-closure
returns-then-no_branches-clause-closure t c =
    let ms = c.in-Conditional.rest.items in
    let a = view c.in-Conditional.first.value in
    let is : view c.args.expr.now ≡ conditional [] a (map view_branch ms) = search (rules, the_lemmas) in
    let fact : c.no_branches.result ≡ is_nil (map view_branch ms) = search rules in
    let same : view c.args.expr.now ≡ a = is ∙ conditional_none ms a (sym fact ∙ c.if-no_branches.true) in
    let ih : c.is_block-then-no_branches.result ≡ is_closure a = search rules in
    ih ∙ ap is_closure (sym same)

pub returns-then-no_branches-clause-plain : goal.returns-then-no_branches-clause-plain
returns-then-no_branches-clause-plain t c =
    let ms = c.in-Conditional.rest.items in
    let a = view c.in-Conditional.first.value in
    let is : view c.args.expr.now ≡ conditional [] a (map view_branch ms) = search (rules, the_lemmas) in
    let fact : c.no_branches.result ≡ is_nil (map view_branch ms) = search rules in
    let same : view c.args.expr.now ≡ a = is ∙ conditional_none ms a (sym fact ∙ c.if-no_branches.true) in
    let ih : not c.is_block-then-no_branches.result ≡ is_plain a = search rules in
    ih ∙ ap is_plain (sym same)

pub returns-else-no_branches-clause-closure : goal.returns-else-no_branches-clause-closure
returns-else-no_branches-clause-closure t c =
    let ms = c.in-Conditional.rest.items in
    let a = view c.in-Conditional.first.value in
    let is : view c.args.expr.now ≡ conditional [] a (map view_branch ms) = search (rules, the_lemmas) in
    let fact : c.no_branches.result ≡ is_nil (map view_branch ms) = search rules in
    sym (ap is_closure is ∙ (conditional_some ms a (sym fact ∙ c.if-no_branches.false)).chain.no_closure)

pub returns-else-no_branches-clause-plain : goal.returns-else-no_branches-clause-plain
returns-else-no_branches-clause-plain t c =
    let ms = c.in-Conditional.rest.items in
    let a = view c.in-Conditional.first.value in
    let is : view c.args.expr.now ≡ conditional [] a (map view_branch ms) = search (rules, the_lemmas) in
    let fact : c.no_branches.result ≡ is_nil (map view_branch ms) = search rules in
    sym (ap is_plain is ∙ (conditional_some ms a (sym fact ∙ c.if-no_branches.false)).chain.plain_is)

pub returns-then-no_parts-clause-closure : goal.returns-then-no_parts-clause-closure
returns-then-no_parts-clause-closure t c =
    let ms = c.in-Postfix.rest.items in
    let a = view c.in-Postfix.first.value in
    let is : view c.args.expr.now ≡ postfix a (map view_postfix ms) = search (rules, the_lemmas) in
    let fact : c.no_parts.result ≡ is_nil (map view_postfix ms) = search rules in
    let same : view c.args.expr.now ≡ a = is ∙ postfix_none ms a (sym fact ∙ c.if-no_parts.true) in
    let ih : c.is_block-then-no_parts.result ≡ is_closure a = search rules in
    ih ∙ ap is_closure (sym same)

pub returns-then-no_parts-clause-plain : goal.returns-then-no_parts-clause-plain
returns-then-no_parts-clause-plain t c =
    let ms = c.in-Postfix.rest.items in
    let a = view c.in-Postfix.first.value in
    let is : view c.args.expr.now ≡ postfix a (map view_postfix ms) = search (rules, the_lemmas) in
    let fact : c.no_parts.result ≡ is_nil (map view_postfix ms) = search rules in
    let same : view c.args.expr.now ≡ a = is ∙ postfix_none ms a (sym fact ∙ c.if-no_parts.true) in
    let ih : not c.is_block-then-no_parts.result ≡ is_plain a = search rules in
    ih ∙ ap is_plain (sym same)

pub returns-else-no_parts-clause-closure : goal.returns-else-no_parts-clause-closure
returns-else-no_parts-clause-closure t c =
    let ms = c.in-Postfix.rest.items in
    let a = view c.in-Postfix.first.value in
    let is : view c.args.expr.now ≡ postfix a (map view_postfix ms) = search (rules, the_lemmas) in
    let fact : c.no_parts.result ≡ is_nil (map view_postfix ms) = search rules in
    sym (ap is_closure is ∙ (postfix_some ms a (sym fact ∙ c.if-no_parts.false)).no_closure)

pub returns-else-no_parts-clause-plain : goal.returns-else-no_parts-clause-plain
returns-else-no_parts-clause-plain t c =
    let ms = c.in-Postfix.rest.items in
    let a = view c.in-Postfix.first.value in
    let is : view c.args.expr.now ≡ postfix a (map view_postfix ms) = search (rules, the_lemmas) in
    let fact : c.no_parts.result ≡ is_nil (map view_postfix ms) = search rules in
    sym (ap is_plain is ∙ (postfix_some ms a (sym fact ∙ c.if-no_parts.false)).plain_is)
