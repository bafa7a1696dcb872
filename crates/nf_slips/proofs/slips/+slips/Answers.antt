use Rattle.std.proofs.Common.{◌≡◌, ◌+◌, [], ◌++◌, map, drop, sym, ap, ◌∙◌, rules}
use Rattle.std.specs.Prelude.{Some, None, option_map}
use Rattle.std.proofs.lemmas.List.{append-nil}
use Rattle.std.proofs.lemmas.Result.{on_ok_weaker}
use Rattle.nf_ast.specs.declared.expr.Expr.{the_lemmas}
use Rattle.nf_ast.specs.Tree as tree
use Rattle.nf_ast.specs.Tree.{cons}
use Rattle.nf_ast.specs.View.{view, view_operand, view_branch, view_postfix, view_pair, view_arg, view_stmt, view_stmts, view_arm, key_tree, trees, with_name, prefixes, operands, conditional, postfix, choice, last_arm}
use Rattle.nf_slips.specs.Forms.{form_of}
use Rattle.nf_slips.specs.Slips.{slips, operands_slips, branches_slips, parts_slips, arms_slips}
use Rattle.nf_slips.specs.Memory.{view_form}
use Rattle.nf_slips.proofs.Chains.{named_broken, prefixes_broken, operands_broken, branches_broken, arms_broken}
use Rattle.nf_slips.proofs.Parts.{parts_broken}
use Rattle.nf_slips.proofs.Steps.{step, joined, alike}
use Rattle.nf_slips.proofs.slips.+slips.Goals as goal

pub add_expr-returns-in-Prefix : goal.add_expr-returns-in-Prefix
add_expr-returns-in-Prefix t c =
    let e = view c.args.expr.now in
    let a = view c.in-Prefix.of.value in
    let ms = c.in-Prefix.field-0.items in
    let is : e ≡ prefixes ms a = search (rules, the_lemmas) in
    alike c.add_expr.result c.args.out.now.items c.add_expr.new.out.items (slips a) (slips e) (sym (ap slips is ∙ prefixes_broken ms a)) (search rules)

pub add_expr-returns-in_ok-add_expr-in-Infix : goal.add_expr-returns-in_ok-add_expr-in-Infix
add_expr-returns-in_ok-add_expr-in-Infix t c =
    let e = view c.args.expr.now in
    let o = c.args.out.now.items in
    let a = view c.in-Infix.first.value in
    let ys = c.in-Infix.rest.items in
    let is : e ≡ operands a (map view_operand ys) = search (rules, the_lemmas) in
    let p : c.add_expr-in-Infix.new.out.items ≡ o ++ slips a = search rules in
    on_ok_weaker c.add_operands.result (joined o c.add_expr-in-Infix.new.out.items c.add_operands.new.out.items (slips a) (operands_slips (map view_operand ys)) (slips e) p (ap slips is ∙ operands_broken a (map view_operand ys))) (search rules)

pub add_expr-returns-in_ok-add_expr-in-Conditional : goal.add_expr-returns-in_ok-add_expr-in-Conditional
add_expr-returns-in_ok-add_expr-in-Conditional t c =
    let e = view c.args.expr.now in
    let o = c.args.out.now.items in
    let a = view c.in-Conditional.first.value in
    let ys = c.in-Conditional.rest.items in
    let is : e ≡ conditional [] a (map view_branch ys) = search (rules, the_lemmas) in
    let p : c.add_expr-in-Conditional.new.out.items ≡ o ++ slips a = search rules in
    on_ok_weaker c.add_branches.result (joined o c.add_expr-in-Conditional.new.out.items c.add_branches.new.out.items (slips a) (branches_slips (map view_branch ys)) (slips e) p (ap slips is ∙ branches_broken a (map view_branch ys))) (search rules)

pub add_expr-returns-in_ok-add_expr-in-Postfix : goal.add_expr-returns-in_ok-add_expr-in-Postfix
add_expr-returns-in_ok-add_expr-in-Postfix t c =
    let e = view c.args.expr.now in
    let o = c.args.out.now.items in
    let a = view c.in-Postfix.first.value in
    let ys = c.in-Postfix.rest.items in
    let ws = map view_postfix ys in
    let is : e ≡ postfix a ws = search (rules, the_lemmas) in
    let p : c.add_expr-in-Postfix.new.out.items ≡ o ++ slips a = search rules in
    let f : view_form c.read_form.result ≡ form_of a = search rules in
    on_ok_weaker c.add_parts.result (joined o c.add_expr-in-Postfix.new.out.items c.add_parts.new.out.items (slips a) (parts_slips (view_form c.read_form.result) ws) (slips e) p (ap slips is ∙ parts_broken a ys ∙ ap (λ g. slips a ++ parts_slips g ws) (sym f))) (search rules)

pub add_pairs-loop-pair-preserved : goal.add_pairs-loop-pair-preserved
add_pairs-loop-pair-preserved t c =
    let x = c.pair-item.result in
    let rest = trees (map view_pair (drop (c.loop-pair.pair-index + 1) c.args.pairs.now)) in
    let p = tree.pair (key_tree x.key) (view x.value) in
    let is : view_pair x ≡ p = search (rules, the_lemmas) in
    let one : c.add_expr.new.out.items ≡ c.loop-pair.out.items ++ slips (view x.value) = search rules in
    step (λ ys. slips (trees (map view_pair ys))) c.args.pairs.now c.loop-pair.pair-index x c.loop-pair.out.items c.add_expr.new.out.items (slips (view x.value)) _ c.loop-pair-test.true c.pair-item.is (ap (λ v. slips (cons v rest)) is) one c.loop-pair.invariant

pub add_args-loop-arg-preserved : goal.add_args-loop-arg-preserved
add_args-loop-arg-preserved t c =
    let x = c.arg-item.result in
    let rest = trees (map view_arg (drop (c.loop-arg.arg-index + 1) c.args.args.now)) in
    let is : view_arg x ≡ with_name x.name (view x.value) = search (rules, the_lemmas) in
    let one : c.add_expr.new.out.items ≡ c.loop-arg.out.items ++ slips (view x.value) = search rules in
    step (λ ys. slips (trees (map view_arg ys))) c.args.args.now c.loop-arg.arg-index x c.loop-arg.out.items c.add_expr.new.out.items (slips (view x.value)) _ c.loop-arg-test.true c.arg-item.is (ap (λ v. v ++ slips rest) (ap slips is ∙ named_broken x.name (view x.value))) one c.loop-arg.invariant

pub add_stmt-returns-in-None : goal.add_stmt-returns-in-None
add_stmt-returns-in-None t c =
    let e = view_stmt c.args.stmt.now in
    let xs = map view_arm c.in-Choice.arms.items in
    let last = c.in-Choice.last in
    let is : e ≡ choice xs (last_arm (option_map (λ v. map view_stmt v.items) last)) = search (rules, the_lemmas) in
    let none : last ≡ None = search rules in
    let due : slips e ≡ arms_slips xs = ap slips (is ∙ ap (λ v. choice xs (last_arm (option_map (λ v. map view_stmt v.items) v))) none) ∙ arms_broken xs tree.empty ∙ append-nil (arms_slips xs) in
    alike c.add_arms.result c.args.out.now.items c.add_arms.new.out.items (arms_slips xs) (slips e) (sym due) (search rules)

pub add_stmt-returns-in_ok-add_arms-in-Some : goal.add_stmt-returns-in_ok-add_arms-in-Some
add_stmt-returns-in_ok-add_arms-in-Some t c =
    let e = view_stmt c.args.stmt.now in
    let o = c.args.out.now.items in
    let xs = map view_arm c.in-Choice.arms.items in
    let b = view_stmts c.in-Some.stmts.items in
    let last = c.in-Choice.last in
    let is : e ≡ choice xs (last_arm (option_map (λ v. map view_stmt v.items) last)) = search (rules, the_lemmas) in
    let some : last ≡ Some c.in-Some.stmts = search rules in
    let due : slips e ≡ arms_slips xs ++ slips b = ap slips (is ∙ ap (λ v. choice xs (last_arm (option_map (λ v. map view_stmt v.items) v))) some) ∙ arms_broken xs (tree.statements b) in
    let p : c.add_arms-in-Some.new.out.items ≡ o ++ arms_slips xs = search rules in
    on_ok_weaker c.add_stmts.result (joined o c.add_arms-in-Some.new.out.items c.add_stmts.new.out.items (arms_slips xs) (slips b) (slips e) p due) (search rules)
