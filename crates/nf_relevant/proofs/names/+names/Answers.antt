use Rattle.std.proofs.Common.{◌≡◌, [], ◌++◌, map, refl, sym, ap, ◌∙◌, rules}
use Rattle.std.specs.Prelude.{Some, None, option_map}
use Rattle.std.proofs.lemmas.List.{append-nil}
use Rattle.std.proofs.lemmas.Result.{on_ok_weaker}
use Rattle.nf_ast.specs.declared.expr.Expr.{the_lemmas}
use Rattle.nf_ast.specs.Tree as tree
use Rattle.nf_ast.specs.View.{view, views, view_operand, view_branch, view_postfix, view_piece, view_pair, view_arg, view_label, view_stmt, view_stmts, view_arm, trees, prefixes, operands, conditional, postfix, choice, last_arm}
use Rattle.nf_relevant.specs.Names.{names_read, operands_read, branches_read, part_read, parts_read, arms_read}
use Rattle.nf_relevant.proofs.Chains.{prefixes_name, operands_name, branches_name, parts_name, arms_name}
use Rattle.nf_relevant.proofs.Steps.{step, joined, same_added}
use Rattle.nf_relevant.proofs.names.+names.Goals as goal

pub put_exprs-loop-item-preserved : goal.put_exprs-loop-item-preserved
put_exprs-loop-item-preserved t c = step (λ ys. names_read (views ys)) c.args.items.now c.loop-item.item-index c.item-item.result c.loop-item.out.items c.put_expr.new.out.items (names_read (view c.item-item.result)) _ c.loop-item-test.true c.item-item.is refl c.in_ok-put_expr.ensures c.loop-item.invariant

pub put_pieces-loop-piece-preserved : goal.put_pieces-loop-piece-preserved
put_pieces-loop-piece-preserved t c = step (λ ys. names_read (trees (map view_piece ys))) c.args.pieces.now c.loop-piece.piece-index c.piece-item.result c.loop-piece.out.items c.put_piece.new.out.items (names_read (view_piece c.piece-item.result)) _ c.loop-piece-test.true c.piece-item.is refl c.in_ok-put_piece.ensures c.loop-piece.invariant

pub put_pairs-loop-pair-preserved : goal.put_pairs-loop-pair-preserved
put_pairs-loop-pair-preserved t c = step (λ ys. names_read (trees (map view_pair ys))) c.args.pairs.now c.loop-pair.pair-index c.pair-item.result c.loop-pair.out.items c.put_pair.new.out.items (names_read (view_pair c.pair-item.result)) _ c.loop-pair-test.true c.pair-item.is refl c.in_ok-put_pair.ensures c.loop-pair.invariant

pub put_args-loop-arg-preserved : goal.put_args-loop-arg-preserved
put_args-loop-arg-preserved t c = step (λ ys. names_read (trees (map view_arg ys))) c.args.args.now c.loop-arg.arg-index c.arg-item.result c.loop-arg.out.items c.put_arg.new.out.items (names_read (view_arg c.arg-item.result)) _ c.loop-arg-test.true c.arg-item.is refl c.in_ok-put_arg.ensures c.loop-arg.invariant

pub put_parts-loop-part-preserved : goal.put_parts-loop-part-preserved
put_parts-loop-part-preserved t c = step (λ ys. parts_read (map view_postfix ys)) c.args.parts.now c.loop-part.part-index c.part-item.result c.loop-part.out.items c.put_part.new.out.items (part_read (view_postfix c.part-item.result)) _ c.loop-part-test.true c.part-item.is refl c.in_ok-put_part.ensures c.loop-part.invariant

pub put_labels-loop-label-preserved : goal.put_labels-loop-label-preserved
put_labels-loop-label-preserved t c = step (λ ys. names_read (trees (map view_label ys))) c.args.labels.now c.loop-label.label-index c.label-item.result c.loop-label.out.items c.put_label.new.out.items (names_read (view_label c.label-item.result)) _ c.loop-label-test.true c.label-item.is refl c.in_ok-put_label.ensures c.loop-label.invariant

pub put_stmts-loop-stmt-preserved : goal.put_stmts-loop-stmt-preserved
put_stmts-loop-stmt-preserved t c = step (λ ys. names_read (view_stmts ys)) c.args.stmts.now c.loop-stmt.stmt-index c.stmt-item.result c.loop-stmt.out.items c.put_stmt.new.out.items (names_read (view_stmt c.stmt-item.result)) _ c.loop-stmt-test.true c.stmt-item.is refl c.in_ok-put_stmt.ensures c.loop-stmt.invariant

pub put_arms-loop-arm-preserved : goal.put_arms-loop-arm-preserved
put_arms-loop-arm-preserved t c = step (λ ys. arms_read (map view_arm ys)) c.args.arms.now c.loop-arm.arm-index c.arm-item.result c.loop-arm.out.items c.put_arm.new.out.items (names_read (view_arm c.arm-item.result).condition ++ names_read (view_arm c.arm-item.result).body) _ c.loop-arm-test.true c.arm-item.is refl c.in_ok-put_arm.ensures c.loop-arm.invariant

pub put_expr-returns-in-Prefix : goal.put_expr-returns-in-Prefix
put_expr-returns-in-Prefix t c =
    let e = view c.args.expr.now in
    let a = view c.in-Prefix.of.value in
    let ms = c.in-Prefix.field-0.items in
    let is : e ≡ prefixes ms a = search (rules, the_lemmas) in
    same_added c.put_expr.result c.args.out.now.items c.put_expr.new.out.items (names_read a) (names_read e) (sym (ap names_read is ∙ prefixes_name ms a)) (search rules)

pub put_expr-returns-in_ok-put_expr-in-Infix : goal.put_expr-returns-in_ok-put_expr-in-Infix
put_expr-returns-in_ok-put_expr-in-Infix t c =
    let e = view c.args.expr.now in
    let o = c.args.out.now.items in
    let a = view c.in-Infix.first.value in
    let ys = c.in-Infix.rest.items in
    let is : e ≡ operands a (map view_operand ys) = search (rules, the_lemmas) in
    let p : c.put_expr-in-Infix.new.out.items ≡ o ++ names_read a = search rules in
    on_ok_weaker c.put_operands.result (joined o c.put_expr-in-Infix.new.out.items c.put_operands.new.out.items (names_read a) (operands_read (map view_operand ys)) (names_read e) p (ap names_read is ∙ operands_name a (map view_operand ys))) (search rules)

pub put_expr-returns-in_ok-put_expr-in-Conditional : goal.put_expr-returns-in_ok-put_expr-in-Conditional
put_expr-returns-in_ok-put_expr-in-Conditional t c =
    let e = view c.args.expr.now in
    let o = c.args.out.now.items in
    let a = view c.in-Conditional.first.value in
    let ys = c.in-Conditional.rest.items in
    let is : e ≡ conditional [] a (map view_branch ys) = search (rules, the_lemmas) in
    let p : c.put_expr-in-Conditional.new.out.items ≡ o ++ names_read a = search rules in
    on_ok_weaker c.put_branches.result (joined o c.put_expr-in-Conditional.new.out.items c.put_branches.new.out.items (names_read a) (branches_read (map view_branch ys)) (names_read e) p (ap names_read is ∙ branches_name a (map view_branch ys))) (search rules)

pub put_expr-returns-in_ok-put_expr-in-Postfix : goal.put_expr-returns-in_ok-put_expr-in-Postfix
put_expr-returns-in_ok-put_expr-in-Postfix t c =
    let e = view c.args.expr.now in
    let o = c.args.out.now.items in
    let a = view c.in-Postfix.first.value in
    let ys = c.in-Postfix.rest.items in
    let is : e ≡ postfix a (map view_postfix ys) = search (rules, the_lemmas) in
    let p : c.put_expr-in-Postfix.new.out.items ≡ o ++ names_read a = search rules in
    on_ok_weaker c.put_parts.result (joined o c.put_expr-in-Postfix.new.out.items c.put_parts.new.out.items (names_read a) (parts_read (map view_postfix ys)) (names_read e) p (ap names_read is ∙ parts_name a ys)) (search rules)

pub put_stmt-returns-in-None : goal.put_stmt-returns-in-None
put_stmt-returns-in-None t c =
    let e = view_stmt c.args.stmt.now in
    let xs = map view_arm c.in-Choice.arms.items in
    let last = c.in-Choice.last in
    let is : e ≡ choice xs (last_arm (option_map (λ v. map view_stmt v.items) last)) = search (rules, the_lemmas) in
    let none : last ≡ None = search rules in
    let due : names_read e ≡ arms_read xs = ap names_read (is ∙ ap (λ v. choice xs (last_arm (option_map (λ v. map view_stmt v.items) v))) none) ∙ arms_name xs tree.empty ∙ append-nil (arms_read xs) in
    same_added c.put_arms.result c.args.out.now.items c.put_arms.new.out.items (arms_read xs) (names_read e) (sym due) (search rules)

pub put_stmt-returns-in_ok-put_arms-in-Some : goal.put_stmt-returns-in_ok-put_arms-in-Some
put_stmt-returns-in_ok-put_arms-in-Some t c =
    let e = view_stmt c.args.stmt.now in
    let o = c.args.out.now.items in
    let xs = map view_arm c.in-Choice.arms.items in
    let b = view_stmts c.in-Some.stmts.items in
    let last = c.in-Choice.last in
    let is : e ≡ choice xs (last_arm (option_map (λ v. map view_stmt v.items) last)) = search (rules, the_lemmas) in
    let some : last ≡ Some c.in-Some.stmts = search rules in
    let due : names_read e ≡ arms_read xs ++ names_read b = ap names_read (is ∙ ap (λ v. choice xs (last_arm (option_map (λ v. map view_stmt v.items) v))) some) ∙ arms_name xs (tree.statements b) in
    let p : c.put_arms-in-Some.new.out.items ≡ o ++ arms_read xs = search rules in
    on_ok_weaker c.put_stmts.result (joined o c.put_arms-in-Some.new.out.items c.put_stmts.new.out.items (arms_read xs) (names_read b) (names_read e) p due) (search rules)
