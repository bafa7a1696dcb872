use Rattle.std.proofs.Common.{◌≡◌, [], map, rules}
use Rattle.nf_ast.specs.declared.expr.Expr.{the_lemmas}
use Rattle.nf_ast.specs.View.{view, view_operand, view_branch, view_postfix, prefixes, operands, conditional, postfix}
use Rattle.nf_names_used.specs.Leaves.{is_nil, leaf_of, view_leaf}
use Rattle.nf_names_used.proofs.Alone.{prefixes_leaf, operands_leaf, branches_leaf, parts_leaf, chained}
use Rattle.nf_names_used.proofs.leaves.+read_leaf.Goals as goal

pub returns-in-Prefix : goal.returns-in-Prefix
returns-in-Prefix t c =
    let e = view c.args.expr.now in
    let a = view c.in-Prefix.of.value in
    let ys = c.in-Prefix.operators.items in
    let is : e ≡ prefixes ys a = search (rules, the_lemmas) in
    let inner : view_leaf c.read_leaf.result ≡ leaf_of a = search rules in
    let none : c.has_none.result ≡ is_nil ys = search rules in
    chained e (prefixes ys a) c.has_none.result (is_nil ys) (view_leaf c.alone.result) (view_leaf c.read_leaf.result) (leaf_of a) is (prefixes_leaf ys a) c.alone.ensures none inner

pub returns-in-Infix : goal.returns-in-Infix
returns-in-Infix t c =
    let e = view c.args.expr.now in
    let a = view c.in-Infix.first.value in
    let ys = c.in-Infix.rest.items in
    let is : e ≡ operands a (map view_operand ys) = search (rules, the_lemmas) in
    let inner : view_leaf c.read_leaf-in-Infix.result ≡ leaf_of a = search rules in
    let none : c.has_none-in-Infix.result ≡ is_nil ys = search rules in
    chained e (operands a (map view_operand ys)) c.has_none-in-Infix.result (is_nil ys) (view_leaf c.alone-in-Infix.result) (view_leaf c.read_leaf-in-Infix.result) (leaf_of a) is (operands_leaf a ys) c.alone-in-Infix.ensures none inner

pub returns-in-Conditional : goal.returns-in-Conditional
returns-in-Conditional t c =
    let e = view c.args.expr.now in
    let a = view c.in-Conditional.first.value in
    let ys = c.in-Conditional.rest.items in
    let is : e ≡ conditional [] a (map view_branch ys) = search (rules, the_lemmas) in
    let inner : view_leaf c.read_leaf-in-Conditional.result ≡ leaf_of a = search rules in
    let none : c.has_none-in-Conditional.result ≡ is_nil ys = search rules in
    chained e (conditional [] a (map view_branch ys)) c.has_none-in-Conditional.result (is_nil ys) (view_leaf c.alone-in-Conditional.result) (view_leaf c.read_leaf-in-Conditional.result) (leaf_of a) is (branches_leaf a ys) c.alone-in-Conditional.ensures none inner

pub returns-in-Postfix : goal.returns-in-Postfix
returns-in-Postfix t c =
    let e = view c.args.expr.now in
    let a = view c.in-Postfix.first.value in
    let ys = c.in-Postfix.rest.items in
    let is : e ≡ postfix a (map view_postfix ys) = search (rules, the_lemmas) in
    let inner : view_leaf c.read_leaf-in-Postfix.result ≡ leaf_of a = search rules in
    let none : c.has_none-in-Postfix.result ≡ is_nil ys = search rules in
    chained e (postfix a (map view_postfix ys)) c.has_none-in-Postfix.result (is_nil ys) (view_leaf c.alone-in-Postfix.result) (view_leaf c.read_leaf-in-Postfix.result) (leaf_of a) is (parts_leaf a ys) c.alone-in-Postfix.ensures none inner
