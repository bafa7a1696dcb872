use Rattle.std.proofs.Common.{◌≡◌, true, [], map, rules}
use Rattle.nf_ast.specs.declared.expr.Expr.{the_lemmas}
use Rattle.nf_ast.specs.View.{view, view_operand, view_branch, view_postfix, operands, conditional, postfix}
use Rattle.nf_called.specs.Lists.{is_nil}
use Rattle.nf_called.specs.Leaves.{leaf_of, is_alone, other, view_leaf}
use Rattle.nf_called.proofs.Chains.{of_operands, of_branches, of_parts, leaf_blind, alone_blind, chained, chained_alone}
use Rattle.nf_called.proofs.leaves.+leaf_of.Goals as goal

pub returns-in-Infix-clause-leaf : goal.returns-in-Infix-clause-leaf
returns-in-Infix-clause-leaf t c =
    let a = view c.in-Infix.first.value in
    let ys = c.in-Infix.rest.items in
    let is : view c.args.expr.now ≡ operands a (map view_operand ys) = search (rules, the_lemmas) in
    let inner : view_leaf c.leaf_of-in-Infix.result ≡ leaf_of a = search rules in
    let none : c.has_none-in-Infix.result ≡ is_nil ys = search rules in
    chained _ (operands a (map view_operand ys)) _ (is_nil ys) _ (view_leaf c.leaf_of-in-Infix.result) (leaf_of a) is (of_operands leaf_of other leaf_blind a ys) c.alone-in-Infix.ensures none inner

pub returns-in-Infix-clause-expression : goal.returns-in-Infix-clause-expression
returns-in-Infix-clause-expression t c =
    let a = view c.in-Infix.first.value in
    let ys = c.in-Infix.rest.items in
    let is : view c.args.expr.now ≡ operands a (map view_operand ys) = search (rules, the_lemmas) in
    let inner : is_alone a ≡ true = search rules in
    chained_alone _ (operands a (map view_operand ys)) a (is_nil ys) is (of_operands is_alone true alone_blind a ys) inner

pub returns-in-Conditional-clause-leaf : goal.returns-in-Conditional-clause-leaf
returns-in-Conditional-clause-leaf t c =
    let a = view c.in-Conditional.first.value in
    let ys = c.in-Conditional.rest.items in
    let is : view c.args.expr.now ≡ conditional [] a (map view_branch ys) = search (rules, the_lemmas) in
    let inner : view_leaf c.leaf_of-in-Conditional.result ≡ leaf_of a = search rules in
    let none : c.has_none-in-Conditional.result ≡ is_nil ys = search rules in
    chained _ (conditional [] a (map view_branch ys)) _ (is_nil ys) _ (view_leaf c.leaf_of-in-Conditional.result) (leaf_of a) is (of_branches leaf_of other leaf_blind a ys) c.alone-in-Conditional.ensures none inner

pub returns-in-Conditional-clause-expression : goal.returns-in-Conditional-clause-expression
returns-in-Conditional-clause-expression t c =
    let a = view c.in-Conditional.first.value in
    let ys = c.in-Conditional.rest.items in
    let is : view c.args.expr.now ≡ conditional [] a (map view_branch ys) = search (rules, the_lemmas) in
    let inner : is_alone a ≡ true = search rules in
    chained_alone _ (conditional [] a (map view_branch ys)) a (is_nil ys) is (of_branches is_alone true alone_blind a ys) inner

pub returns-in-Postfix-clause-leaf : goal.returns-in-Postfix-clause-leaf
returns-in-Postfix-clause-leaf t c =
    let a = view c.in-Postfix.first.value in
    let ys = c.in-Postfix.rest.items in
    let is : view c.args.expr.now ≡ postfix a (map view_postfix ys) = search (rules, the_lemmas) in
    let inner : view_leaf c.leaf_of-in-Postfix.result ≡ leaf_of a = search rules in
    let none : c.has_none-in-Postfix.result ≡ is_nil ys = search rules in
    chained _ (postfix a (map view_postfix ys)) _ (is_nil ys) _ (view_leaf c.leaf_of-in-Postfix.result) (leaf_of a) is (of_parts leaf_of other leaf_blind a ys) c.alone-in-Postfix.ensures none inner

pub returns-in-Postfix-clause-expression : goal.returns-in-Postfix-clause-expression
returns-in-Postfix-clause-expression t c =
    let a = view c.in-Postfix.first.value in
    let ys = c.in-Postfix.rest.items in
    let is : view c.args.expr.now ≡ postfix a (map view_postfix ys) = search (rules, the_lemmas) in
    let inner : is_alone a ≡ true = search rules in
    chained_alone _ (postfix a (map view_postfix ys)) a (is_nil ys) is (of_parts is_alone true alone_blind a ys) inner
