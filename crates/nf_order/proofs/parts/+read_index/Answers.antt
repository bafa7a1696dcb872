use Rattle.std.proofs.Common.{◌≡◌, [], map, length, ap, ◌∙◌, sym, rules}
use Rattle.nf_ast.specs.declared.expr.Expr.{the_lemmas}
use Rattle.nf_ast.specs.View.{view, view_operand, view_branch, view_postfix, prefixes, operands, conditional, postfix}
use Rattle.nf_order.specs.Parts.{index_of}
use Rattle.nf_order.specs.Standing.{view_index, marked_by}
use Rattle.nf_order.proofs.Indexes.{prefixes_index, operands_index, branches_index, parts_index, alone_index}
use Rattle.nf_order.proofs.parts.+read_index.Goals as goal

pub returns-in-Prefix : goal.returns-in-Prefix
returns-in-Prefix t c =
    let e = view c.args.expr.now in
    let a = view c.in-Prefix.of.value in
    let ms = c.in-Prefix.operators.items in
    let is : e ≡ prefixes ms a = search (rules, the_lemmas) in
    let inner : view_index c.read_index.result ≡ index_of a = search rules in
    let all : view_index c.after_prefixes.result ≡ marked_by ms (view_index c.read_index.result) = search rules in
    all ∙ ap (marked_by ms) inner ∙ sym (prefixes_index ms a) ∙ ap index_of (sym is)

pub returns-in-Infix : goal.returns-in-Infix
returns-in-Infix t c =
    let e = view c.args.expr.now in
    let a = view c.in-Infix.first.value in
    let ys = c.in-Infix.rest.items in
    let is : e ≡ operands a (map view_operand ys) = search (rules, the_lemmas) in
    let inner : view_index c.read_index-in-Infix.result ≡ index_of a = search rules in
    alone_index e (operands a (map view_operand ys)) c.is_empty.result (length ys) _ (view_index c.alone.result) (view_index c.read_index-in-Infix.result) (index_of a) is (operands_index a ys) c.alone.ensures c.is_empty.ensures c.in-Infix.rest.ok.0 inner

pub returns-in-Conditional : goal.returns-in-Conditional
returns-in-Conditional t c =
    let e = view c.args.expr.now in
    let a = view c.in-Conditional.first.value in
    let ys = c.in-Conditional.rest.items in
    let is : e ≡ conditional [] a (map view_branch ys) = search (rules, the_lemmas) in
    let inner : view_index c.read_index-in-Conditional.result ≡ index_of a = search rules in
    alone_index e (conditional [] a (map view_branch ys)) c.is_empty-in-Conditional.result (length ys) _ (view_index c.alone-in-Conditional.result) (view_index c.read_index-in-Conditional.result) (index_of a) is (branches_index a ys) c.alone-in-Conditional.ensures c.is_empty-in-Conditional.ensures c.in-Conditional.rest.ok.0 inner

pub returns-in-Postfix : goal.returns-in-Postfix
returns-in-Postfix t c =
    let e = view c.args.expr.now in
    let a = view c.in-Postfix.first.value in
    let ys = c.in-Postfix.rest.items in
    let is : e ≡ postfix a (map view_postfix ys) = search (rules, the_lemmas) in
    let inner : view_index c.read_index-in-Postfix.result ≡ index_of a = search rules in
    alone_index e (postfix a (map view_postfix ys)) c.is_empty-in-Postfix.result (length ys) _ (view_index c.alone-in-Postfix.result) (view_index c.read_index-in-Postfix.result) (index_of a) is (parts_index a ys) c.alone-in-Postfix.ensures c.is_empty-in-Postfix.ensures c.in-Postfix.rest.ok.0 inner
