use Rattle.std.proofs.Common.{◌≡◌, ◌+◌, [], ◌++◌, map, drop, refl, sym, ap, ◌∙◌, rules}
use Rattle.std.specs.Prelude.{Some, None, OnOk, option_map}
use Rattle.std.proofs.lemmas.List.{append-nil}
use Rattle.std.proofs.lemmas.Result.{on_ok_weaker}
use Rattle.nf_ast.specs.declared.expr.Expr.{the_lemmas}
use Rattle.nf_ast.specs.Tree as tree
use Rattle.nf_ast.specs.Tree.{cons}
use Rattle.nf_ast.specs.View.{view, views, view_operand, view_branch, view_postfix, view_piece, view_pair, view_arg, view_stmt, view_stmts, view_arm, key_tree, trees, prefixes, operands, conditional, postfix, choice, last_arm}
use Rattle.nf_names_used.specs.Uses.{uses, begun, defined, defined_by}
use Rattle.nf_names_used.specs.Chains.{operands_uses, branches_uses, before_parts, part_uses, parts_uses, arms_uses}
use Rattle.nf_names_used.proofs.Chains.{defined_nothing, prefixes_used, operands_used, branches_used, arms_used, prefixes_define, operands_define, branches_define, arms_define}
use Rattle.nf_names_used.proofs.Parts.{parts_used, parts_define}
use Rattle.nf_names_used.proofs.Steps.{step, nothing_defined, joined, always, same_uses}
use Rattle.nf_names_used.proofs.+uses.Goals as goal

pub exprs::put_exprs-loop-item-preserved : goal.exprs::put_exprs-loop-item-preserved
exprs::put_exprs-loop-item-preserved t c = step (λ ys. uses (views ys) c.args.seen.now) c.args.items.now c.loop-item.item-index c.item-item.result c.loop-item.out.items c.put_expr.new.out.items (uses (view c.item-item.result) c.args.seen.now) _ c.loop-item-test.true c.item-item.is (nothing_defined (view c.item-item.result) (trees (map view (drop (c.loop-item.item-index + 1) c.args.items.now))) c.args.seen.now c.in_ok-put_expr.ensures.defines) c.in_ok-put_expr.ensures.uses c.loop-item.invariant

pub exprs::put_pieces-loop-piece-preserved : goal.exprs::put_pieces-loop-piece-preserved
exprs::put_pieces-loop-piece-preserved t c = step (λ ys. uses (trees (map view_piece ys)) c.args.seen.now) c.args.pieces.now c.loop-piece.piece-index c.piece-item.result c.loop-piece.out.items c.put_piece.new.out.items (uses (view_piece c.piece-item.result) c.args.seen.now) _ c.loop-piece-test.true c.piece-item.is (nothing_defined (view_piece c.piece-item.result) (trees (map view_piece (drop (c.loop-piece.piece-index + 1) c.args.pieces.now))) c.args.seen.now c.in_ok-put_piece.ensures.defines) c.in_ok-put_piece.ensures.uses c.loop-piece.invariant

pub exprs::put_args-loop-arg-preserved : goal.exprs::put_args-loop-arg-preserved
exprs::put_args-loop-arg-preserved t c = step (λ ys. uses (trees (map view_arg ys)) c.args.seen.now) c.args.args.now c.loop-arg.arg-index c.arg-item.result c.loop-arg.out.items c.put_arg.new.out.items (uses (view_arg c.arg-item.result) c.args.seen.now) _ c.loop-arg-test.true c.arg-item.is (nothing_defined (view_arg c.arg-item.result) (trees (map view_arg (drop (c.loop-arg.arg-index + 1) c.args.args.now))) c.args.seen.now c.in_ok-put_arg.ensures.defines) c.in_ok-put_arg.ensures.uses c.loop-arg.invariant

pub exprs::put_parts-loop-part-preserved : goal.exprs::put_parts-loop-part-preserved
exprs::put_parts-loop-part-preserved t c = step (λ ys. parts_uses (map view_postfix ys) c.args.seen.now) c.args.parts.now c.loop-part.part-index c.part-item.result c.loop-part.out.items c.put_part.new.out.items (part_uses (view_postfix c.part-item.result) c.args.seen.now) _ c.loop-part-test.true c.part-item.is refl c.in_ok-put_part.ensures c.loop-part.invariant

pub exprs::put_pairs-loop-pair-preserved : goal.exprs::put_pairs-loop-pair-preserved
exprs::put_pairs-loop-pair-preserved t c =
    let x = c.pair-item.result in
    let names = c.args.seen.now in
    let rest = trees (map view_pair (drop (c.loop-pair.pair-index + 1) c.args.pairs.now)) in
    let p = tree.pair (key_tree x.key) (view x.value) in
    let is : view_pair x ≡ p = search (rules, the_lemmas) in
    let eq : uses (cons (view_pair x) rest) names ≡ uses (view x.value) names ++ uses rest names = ap (λ v. uses (cons v rest) names) is ∙ nothing_defined p rest names refl in
    let one : c.put_expr.new.out.items ≡ c.loop-pair.out.items ++ uses (view x.value) names = search rules in
    step (λ ys. uses (trees (map view_pair ys)) names) c.args.pairs.now c.loop-pair.pair-index x c.loop-pair.out.items c.put_expr.new.out.items (uses (view x.value) names) _ c.loop-pair-test.true c.pair-item.is eq one c.loop-pair.invariant

pub exprs::put_expr-returns-in-Prefix-clause-uses : goal.exprs::put_expr-returns-in-Prefix-clause-uses
exprs::put_expr-returns-in-Prefix-clause-uses t c =
    let e = view c.args.expr.now in
    let names = c.args.seen.now in
    let a = view c.in-Prefix.of.value in
    let ms = c.in-Prefix.field-0.items in
    let is : e ≡ prefixes ms a = search (rules, the_lemmas) in
    same_uses c.put_expr.result c.args.out.now.items c.put_expr.new.out.items (uses a names) (uses e names) (sym (ap (λ v. uses v names) is ∙ prefixes_used names ms a)) (search rules)

pub exprs::put_expr-returns-in-Prefix-clause-defines : goal.exprs::put_expr-returns-in-Prefix-clause-defines
exprs::put_expr-returns-in-Prefix-clause-defines t c =
    let e = view c.args.expr.now in
    let a = view c.in-Prefix.of.value in
    let ms = c.in-Prefix.field-0.items in
    let is : e ≡ prefixes ms a = search (rules, the_lemmas) in
    let inner : OnOk c.put_expr.result (defined_by a ≡ []) = search rules in
    on_ok_weaker c.put_expr.result (λ h. ap defined_by is ∙ prefixes_define ms a h) inner

pub exprs::put_expr-returns-in_ok-put_expr-in-Infix-clause-uses : goal.exprs::put_expr-returns-in_ok-put_expr-in-Infix-clause-uses
exprs::put_expr-returns-in_ok-put_expr-in-Infix-clause-uses t c =
    let e = view c.args.expr.now in
    let names = c.args.seen.now in
    let o = c.args.out.now.items in
    let a = view c.in-Infix.first.value in
    let ys = c.in-Infix.rest.items in
    let is : e ≡ operands a (map view_operand ys) = search (rules, the_lemmas) in
    let p : c.put_expr-in-Infix.new.out.items ≡ o ++ uses a names = search rules in
    on_ok_weaker c.put_operands.result (joined o c.put_expr-in-Infix.new.out.items c.put_operands.new.out.items (uses a names) (operands_uses (map view_operand ys) names) (uses e names) p (ap (λ v. uses v names) is ∙ operands_used names a (map view_operand ys))) (search rules)

pub exprs::put_expr-returns-in_ok-put_expr-in-Infix-clause-defines : goal.exprs::put_expr-returns-in_ok-put_expr-in-Infix-clause-defines
exprs::put_expr-returns-in_ok-put_expr-in-Infix-clause-defines t c =
    let e = view c.args.expr.now in
    let a = view c.in-Infix.first.value in
    let ys = c.in-Infix.rest.items in
    let is : e ≡ operands a (map view_operand ys) = search (rules, the_lemmas) in
    let d : defined_by a ≡ [] = search rules in
    always c.put_operands.result (defined_by e ≡ []) (ap defined_by is ∙ operands_define a ys d)

pub exprs::put_expr-returns-in_ok-put_expr-in-Conditional-clause-uses : goal.exprs::put_expr-returns-in_ok-put_expr-in-Conditional-clause-uses
exprs::put_expr-returns-in_ok-put_expr-in-Conditional-clause-uses t c =
    let e = view c.args.expr.now in
    let names = c.args.seen.now in
    let o = c.args.out.now.items in
    let a = view c.in-Conditional.first.value in
    let ys = c.in-Conditional.rest.items in
    let is : e ≡ conditional [] a (map view_branch ys) = search (rules, the_lemmas) in
    let p : c.put_expr-in-Conditional.new.out.items ≡ o ++ uses a names = search rules in
    on_ok_weaker c.put_branches.result (joined o c.put_expr-in-Conditional.new.out.items c.put_branches.new.out.items (uses a names) (branches_uses (map view_branch ys) names) (uses e names) p (ap (λ v. uses v names) is ∙ branches_used names a (map view_branch ys))) (search rules)

pub exprs::put_expr-returns-in_ok-put_expr-in-Conditional-clause-defines : goal.exprs::put_expr-returns-in_ok-put_expr-in-Conditional-clause-defines
exprs::put_expr-returns-in_ok-put_expr-in-Conditional-clause-defines t c =
    let e = view c.args.expr.now in
    let a = view c.in-Conditional.first.value in
    let ys = c.in-Conditional.rest.items in
    let is : e ≡ conditional [] a (map view_branch ys) = search (rules, the_lemmas) in
    let d : defined_by a ≡ [] = search rules in
    always c.put_branches.result (defined_by e ≡ []) (ap defined_by is ∙ branches_define a (map view_branch ys) d)

pub exprs::put_expr-returns-in_ok-put_head-in-Postfix-clause-uses : goal.exprs::put_expr-returns-in_ok-put_head-in-Postfix-clause-uses
exprs::put_expr-returns-in_ok-put_head-in-Postfix-clause-uses t c =
    let e = view c.args.expr.now in
    let names = c.args.seen.now in
    let o = c.args.out.now.items in
    let a = view c.in-Postfix.first.value in
    let ys = c.in-Postfix.rest.items in
    let is : e ≡ postfix a (map view_postfix ys) = search (rules, the_lemmas) in
    let p : c.put_head.new.out.items ≡ o ++ before_parts a (map view_postfix ys) (uses a names) = search rules in
    on_ok_weaker c.put_parts.result (joined o c.put_head.new.out.items c.put_parts.new.out.items (before_parts a (map view_postfix ys) (uses a names)) (parts_uses (map view_postfix ys) names) (uses e names) p (ap (λ v. uses v names) is ∙ parts_used names a ys)) (search rules)

pub exprs::put_expr-returns-in_ok-put_head-in-Postfix-clause-defines : goal.exprs::put_expr-returns-in_ok-put_head-in-Postfix-clause-defines
exprs::put_expr-returns-in_ok-put_head-in-Postfix-clause-defines t c =
    let e = view c.args.expr.now in
    let a = view c.in-Postfix.first.value in
    let ys = c.in-Postfix.rest.items in
    let is : e ≡ postfix a (map view_postfix ys) = search (rules, the_lemmas) in
    let d : defined_by a ≡ [] = search rules in
    always c.put_parts.result (defined_by e ≡ []) (ap defined_by is ∙ parts_define a ys d)

pub stmts::put_stmt-returns-in-None-clause-uses : goal.stmts::put_stmt-returns-in-None-clause-uses
stmts::put_stmt-returns-in-None-clause-uses t c =
    let e = view_stmt c.args.stmt.now in
    let names = c.args.seen.now in
    let xs = map view_arm c.in-Choice.arms.items in
    let last = c.in-Choice.last in
    let is : e ≡ choice xs (last_arm (option_map (λ v. map view_stmt v.items) last)) = search (rules, the_lemmas) in
    let none : last ≡ None = search rules in
    let due : uses e names ≡ arms_uses xs names = ap (λ v. uses v names) (is ∙ ap (λ v. choice xs (last_arm (option_map (λ v. map view_stmt v.items) v))) none) ∙ arms_used names xs tree.empty ∙ append-nil (arms_uses xs names) in
    same_uses c.put_arms.result c.args.out.now.items c.put_arms.new.out.items (arms_uses xs names) (uses e names) (sym due) (search rules)

pub stmts::put_stmt-returns-in-None-clause-names : goal.stmts::put_stmt-returns-in-None-clause-names
stmts::put_stmt-returns-in-None-clause-names t c =
    let e = view_stmt c.args.stmt.now in
    let names = c.args.seen.now in
    let xs = map view_arm c.in-Choice.arms.items in
    let last = c.in-Choice.last in
    let is : e ≡ choice xs (last_arm (option_map (λ v. map view_stmt v.items) last)) = search (rules, the_lemmas) in
    let none : last ≡ None = search rules in
    let d : defined_by e ≡ [] = ap defined_by (is ∙ ap (λ v. choice xs (last_arm (option_map (λ v. map view_stmt v.items) v))) none) ∙ arms_define xs tree.empty refl in
    always c.put_arms.result (names ≡ defined (defined_by e) names) (sym (ap (λ l. defined l names) d ∙ defined_nothing names))

pub stmts::put_stmt-returns-in_ok-put_arms-in-Some-clause-uses : goal.stmts::put_stmt-returns-in_ok-put_arms-in-Some-clause-uses
stmts::put_stmt-returns-in_ok-put_arms-in-Some-clause-uses t c =
    let e = view_stmt c.args.stmt.now in
    let o = c.args.out.now.items in
    let names = c.args.seen.now in
    let xs = map view_arm c.in-Choice.arms.items in
    let b = view_stmts c.in-Some.stmts.items in
    let last = c.in-Choice.last in
    let is : e ≡ choice xs (last_arm (option_map (λ v. map view_stmt v.items) last)) = search (rules, the_lemmas) in
    let some : last ≡ Some c.in-Some.stmts = search rules in
    let due : uses e names ≡ arms_uses xs names ++ uses b (begun names) = ap (λ v. uses v names) (is ∙ ap (λ v. choice xs (last_arm (option_map (λ v. map view_stmt v.items) v))) some) ∙ arms_used names xs (tree.statements b) in
    let p : c.put_arms-in-Some.new.out.items ≡ o ++ arms_uses xs names = search rules in
    on_ok_weaker c.put_block.result (joined o c.put_arms-in-Some.new.out.items c.put_block.new.out.items (arms_uses xs names) (uses b (begun names)) (uses e names) p due) (search rules)

pub stmts::put_stmt-returns-in_ok-put_arms-in-Some-clause-names : goal.stmts::put_stmt-returns-in_ok-put_arms-in-Some-clause-names
stmts::put_stmt-returns-in_ok-put_arms-in-Some-clause-names t c =
    let e = view_stmt c.args.stmt.now in
    let names = c.args.seen.now in
    let xs = map view_arm c.in-Choice.arms.items in
    let b = view_stmts c.in-Some.stmts.items in
    let last = c.in-Choice.last in
    let is : e ≡ choice xs (last_arm (option_map (λ v. map view_stmt v.items) last)) = search (rules, the_lemmas) in
    let some : last ≡ Some c.in-Some.stmts = search rules in
    let d : defined_by e ≡ [] = ap defined_by (is ∙ ap (λ v. choice xs (last_arm (option_map (λ v. map view_stmt v.items) v))) some) ∙ arms_define xs (tree.statements b) refl in
    always c.put_block.result (names ≡ defined (defined_by e) names) (sym (ap (λ l. defined l names) d ∙ defined_nothing names))
