use Rattle.std.proofs.Common.{◌≡◌, [], ◌∷◌, ◌++◌, map, false, ap, ◌∙◌, sym, rules}
use Rattle.std.specs.Prelude.{◌&&◌, not, codes, Some, None, OnOk, option_map, if◌then◌else◌}
use Rattle.std.proofs.lemmas.Result.{on_ok_weaker}
use Rattle.nf_token.specs.declared.token.Keyword.TheVariants as w
use Rattle.nf_token.specs.declared.token.Mark.TheVariants as m
use Rattle.nf_ast.specs.declared.expr.Expr.{the_lemmas}
use Rattle.nf_ast.specs.Tree as tree
use Rattle.nf_ast.specs.View.{view, view_operand, view_branch, view_postfix, view_stmt, view_stmts, view_arm, operands, conditional, postfix, prefixes, choice, last_arm}
use Rattle.nf_writer.specs.Ink as ink
use Rattle.nf_writer.specs.Ink.{inked, mark, blank, spaced}
use Rattle.nf_printer.specs.Levels.{level, needs, prefix_level, postfix_level, within, prints}
use Rattle.nf_printer.specs.Exprs.{inks}
use Rattle.nf_printer.specs.Chains.{bracket, is_nil, prefixes_inks, opens, is_bare, operands_inks, parts_inks, opens_late, none_late, is_held, branches_inks, arms_inks}
use Rattle.nf_writer.specs.Styles.{layout_of}
use Rattle.nf_printer.proofs.Lists.{inked_more}
use Rattle.nf_printer.proofs.Puts.{three, held, before_held, round_held}
use Rattle.nf_printer.proofs.Operands.{operands_text, prefixes_text}
use Rattle.nf_printer.proofs.Conditions.{branches_text}
use Rattle.nf_printer.proofs.Postfixes.{parts_text}
use Rattle.nf_printer.proofs.Arms.{arms_alone, arms_and_last}
use Rattle.nf_printer.proofs.+put.Goals as goal

pub exprs::put_expr-returns-in_ok-put_expr-in-Prefix : goal.exprs::put_expr-returns-in_ok-put_expr-in-Prefix
exprs::put_expr-returns-in_ok-put_expr-in-Prefix t c =
    let o = c.args.out.now in
    let l = layout_of c.args.margin.now in
    let g = c.args.guarded in
    let a = view c.in-Prefix.of.value in
    let ms = c.in-Prefix.prefixes.items in
    let h = c.bracketed-brackets.result in
    let b = c.both.result in
    let is : view c.args.expr.now ≡ prefixes ms a = search (rules, the_lemmas) in
    let hb : h ≡ not (is_nil ms) && needs prefix_level a = search rules in
    let bb : b ≡ g && is_nil ms = search rules in
    let p : c.put_prefixes.new.out ≡ o ++ inked (prefixes_inks ms) = search rules in
    let q : c.open_round.new.self ≡ c.put_prefixes.new.out ++ inked (bracket h m.OpenRound) = search rules in
    let r : c.put_expr.new.out ≡ c.open_round.new.self ++ inked (inks a l b) = search rules in
    let due : inks (view c.args.expr.now) l g ≡ prefixes_inks ms ++ within h (inks a l b) = ap (λ e. inks e l g) is ∙ prefixes_text ms a l g ∙ ap (λ v. prefixes_inks ms ++ within v (inks a l (g && is_nil ms))) (sym hb) ∙ ap (λ v. prefixes_inks ms ++ within h (inks a l v)) (sym bb) in
    on_ok_weaker c.close_round.result (before_held o c.put_prefixes.new.out c.open_round.new.self c.put_expr.new.out c.close_round.new.self h (prefixes_inks ms) (inks a l b) (inks (view c.args.expr.now) l g) p q r due) (search rules)

pub exprs::put_expr-returns-in_ok-put_expr-in-Infix : goal.exprs::put_expr-returns-in_ok-put_expr-in-Infix
exprs::put_expr-returns-in_ok-put_expr-in-Infix t c =
    let o = c.args.out.now in
    let l = layout_of c.args.margin.now in
    let g = c.args.guarded in
    let a = view c.in-Infix.first.value in
    let xs = map view_operand c.in-Infix.rest.items in
    let b = c.both-in-Infix.result in
    let is : view c.args.expr.now ≡ operands a xs = search (rules, the_lemmas) in
    let bb : b ≡ g && is_bare xs (level a) = search rules in
    let p : c.put_opens.new.out ≡ o ++ inked (opens xs (level a)) = search rules in
    let q : c.put_expr-in-Infix.new.out ≡ c.put_opens.new.out ++ inked (inks a l b) = search rules in
    let due : inks (view c.args.expr.now) l g ≡ opens xs (level a) ++ inks a l b ++ operands_inks xs (level a) l = ap (λ e. inks e l g) is ∙ operands_text a xs l g ∙ ap (λ v. opens xs (level a) ++ inks a l v ++ operands_inks xs (level a) l) (sym bb) in
    on_ok_weaker c.put_operands.result (three o c.put_opens.new.out c.put_expr-in-Infix.new.out c.put_operands.new.out (opens xs (level a)) (inks a l b) (operands_inks xs (level a) l) (inks (view c.args.expr.now) l g) p q due) (search rules)

pub exprs::put_expr-returns-in_ok-close_round-in-Conditional : goal.exprs::put_expr-returns-in_ok-close_round-in-Conditional
exprs::put_expr-returns-in_ok-close_round-in-Conditional t c =
    let o = c.args.out.now in
    let l = layout_of c.args.margin.now in
    let g = c.args.guarded in
    let a = view c.in-Conditional.first.value in
    let xs = map view_branch c.in-Conditional.rest.items in
    let h = c.holds-brackets.result in
    let b = c.without.result in
    let is : view c.args.expr.now ≡ conditional [] a xs = search (rules, the_lemmas) in
    let hb : h ≡ is_held a xs 0 false = search rules in
    let late : not c.has_late.result ≡ none_late xs 0 false = search rules in
    let first : c.without-outermost.result ≡ g && not c.has_late.result = search rules in
    let bb : b ≡ c.without-outermost.result && not h = search rules in
    let k = opens_late xs 0 false in
    let ys = branches_inks xs 0 false l in
    let p : c.open_late.new.out ≡ o ++ inked k = search rules in
    let q : c.open_round-in-Conditional.new.self ≡ c.open_late.new.out ++ inked (bracket h m.OpenRound) = search rules in
    let r : c.put_expr-in-Conditional.new.out ≡ c.open_round-in-Conditional.new.self ++ inked (inks a l b) = search rules in
    let s : c.close_round-in-Conditional.new.self ≡ c.put_expr-in-Conditional.new.out ++ inked (bracket h m.CloseRound) = search rules in
    let guard : b ≡ (g && none_late xs 0 false) && not h = bb ∙ ap (λ v. v && not h) (first ∙ ap (λ v. g && v) late) in
    let due : inks (view c.args.expr.now) l g ≡ k ++ (within h (inks a l b) ++ ys) = ap (λ e. inks e l g) is ∙ branches_text a xs l g ∙ ap (λ v. k ++ (within v (inks a l ((g && none_late xs 0 false) && not v)) ++ ys)) (sym hb) ∙ ap (λ v. k ++ (within h (inks a l v) ++ ys)) (sym guard) in
    on_ok_weaker c.put_branches.result (round_held o c.open_late.new.out c.open_round-in-Conditional.new.self c.put_expr-in-Conditional.new.out c.close_round-in-Conditional.new.self c.put_branches.new.out h k (inks a l b) ys (inks (view c.args.expr.now) l g) p q r s due) (search rules)

pub exprs::put_expr-returns-in_ok-close_round-in-Postfix : goal.exprs::put_expr-returns-in_ok-close_round-in-Postfix
exprs::put_expr-returns-in_ok-close_round-in-Postfix t c =
    let o = c.args.out.now in
    let l = layout_of c.args.margin.now in
    let g = c.args.guarded in
    let a = view c.in-Postfix.first.value in
    let zs = c.in-Postfix.rest.items in
    let h = c.bracketed-brackets-in-Postfix.result in
    let b = c.without-in-Postfix.result in
    let is : view c.args.expr.now ≡ postfix a (map view_postfix zs) = search (rules, the_lemmas) in
    let hb : h ≡ not (is_nil (map view_postfix zs)) && needs postfix_level a = search rules in
    let bb : b ≡ g && not h = search rules in
    let ys = parts_inks (map view_postfix zs) l in
    let p : c.open_round-in-Postfix.new.self ≡ o ++ inked (bracket h m.OpenRound) = search rules in
    let q : c.put_expr-in-Postfix.new.out ≡ c.open_round-in-Postfix.new.self ++ inked (inks a l b) = search rules in
    let r : c.close_round-in-Postfix.new.self ≡ c.put_expr-in-Postfix.new.out ++ inked (bracket h m.CloseRound) = search rules in
    let due : inks (view c.args.expr.now) l g ≡ within h (inks a l b) ++ ys = ap (λ e. inks e l g) is ∙ parts_text zs a l g ∙ ap (λ v. within v (inks a l (g && not v)) ++ ys) (sym hb) ∙ ap (λ v. within h (inks a l v) ++ ys) (sym bb) in
    on_ok_weaker c.put_parts.result (held o c.open_round-in-Postfix.new.self c.put_expr-in-Postfix.new.out c.close_round-in-Postfix.new.self c.put_parts.new.out h (inks a l b) ys (inks (view c.args.expr.now) l g) p q r due) (search rules)

pub closures::put_stmt-returns-in_ok-blank-in-Println : goal.closures::put_stmt-returns-in_ok-blank-in-Println
closures::put_stmt-returns-in_ok-blank-in-Println t c =
    let o = c.args.out.now in
    let l = layout_of c.args.margin.now in
    let e = view_stmt c.args.stmt.now in
    let a = view c.in-Println.expr in
    let is : e ≡ tree.println c.in-Println.field-0 a = search (rules, the_lemmas) in
    let p : c.name.new.self ≡ o ++ inked (ink.name (codes "println") ∷ []) = search rules in
    let q : c.blank-in-Println.new.self ≡ c.name.new.self ++ inked (blank ∷ []) = search rules in
    let due : inks e l (prints e false) ≡ (ink.name (codes "println") ∷ []) ++ (blank ∷ []) ++ inks a l false = ap (λ v. inks v l (prints v false)) is in
    on_ok_weaker c.put_expr-in-Println.result (three o c.name.new.self c.blank-in-Println.new.self c.put_expr-in-Println.new.out (ink.name (codes "println") ∷ []) (blank ∷ []) (inks a l false) (inks e l (prints e false)) p q due) (search rules)

pub closures::put_stmt-returns-in_ok-blank-in-Log : goal.closures::put_stmt-returns-in_ok-blank-in-Log
closures::put_stmt-returns-in_ok-blank-in-Log t c =
    let o = c.args.out.now in
    let l = layout_of c.args.margin.now in
    let e = view_stmt c.args.stmt.now in
    let a = view c.in-Log.expr in
    let n = c.in-Log.name in
    let word = ink.name (codes "log") ∷ [] in
    let dot = mark m.Dot ∷ [] in
    let is : e ≡ tree.log c.in-Log.field-0 (tree.name c.in-Log.field-1 n) a = search (rules, the_lemmas) in
    let p : c.name-in-Log.new.self ≡ o ++ inked word = search rules in
    let q : c.mark-in-Log.new.self ≡ c.name-in-Log.new.self ++ inked dot = search rules in
    let r : c.name-in-Log-2.new.self ≡ c.mark-in-Log.new.self ++ inked (ink.name n ∷ []) = search rules in
    let s : c.blank-in-Log.new.self ≡ c.name-in-Log-2.new.self ++ inked (blank ∷ []) = search rules in
    let head = word ++ dot ++ ink.name n ∷ [] in
    let read : c.name-in-Log-2.new.self ≡ o ++ inked head = inked_more o c.mark-in-Log.new.self c.name-in-Log-2.new.self (word ++ dot) (ink.name n ∷ []) (inked_more o c.name-in-Log.new.self c.mark-in-Log.new.self word dot p q) r in
    let due : inks e l (prints e false) ≡ head ++ (blank ∷ []) ++ inks a l false = ap (λ v. inks v l (prints v false)) is in
    on_ok_weaker c.put_expr-in-Log.result (three o c.name-in-Log-2.new.self c.blank-in-Log.new.self c.put_expr-in-Log.new.out head (blank ∷ []) (inks a l false) (inks e l (prints e false)) read s due) (search rules)

pub closures::put_stmt-returns-in-None : goal.closures::put_stmt-returns-in-None
closures::put_stmt-returns-in-None t c =
    let o = c.args.out.now in
    let l = layout_of c.args.margin.now in
    let e = view_stmt c.args.stmt.now in
    let xs = map view_arm c.in-Choice.arms.items in
    let last = c.in-Choice.last in
    let is : e ≡ choice xs (last_arm (option_map (λ v. map view_stmt v.items) last)) = search (rules, the_lemmas) in
    let none : last ≡ None = search rules in
    let due : inks e l (prints e false) ≡ arms_inks xs l [] = ap (λ v. inks v l (prints v false)) (is ∙ ap (λ v. choice xs (last_arm (option_map (λ v. map view_stmt v.items) v))) none) ∙ arms_alone xs l (prints (choice xs tree.empty) false) in
    let put : OnOk c.put_arms.result (c.put_arms.new.out ≡ o ++ inked (arms_inks xs l [])) = search rules in
    on_ok_weaker c.put_arms.result (λ p. p ∙ ap (λ v. o ++ inked v) (sym due)) put

pub closures::put_stmt-returns-in_ok-put_else-in-Some : goal.closures::put_stmt-returns-in_ok-put_else-in-Some
closures::put_stmt-returns-in_ok-put_else-in-Some t c =
    let o = c.args.out.now in
    let l = layout_of c.args.margin.now in
    let e = view_stmt c.args.stmt.now in
    let xs = map view_arm c.in-Choice.arms.items in
    let b = view_stmts c.in-Some.stmts.items in
    let last = c.in-Choice.last in
    let is : e ≡ choice xs (last_arm (option_map (λ v. map view_stmt v.items) last)) = search (rules, the_lemmas) in
    let some : last ≡ Some c.in-Some.stmts = search rules in
    let h = c.some_arms.result in
    let hb : h ≡ not (is_nil xs) = search rules in
    let k = if h then spaced (ink.keyword w.Else) else [] in
    let due : inks e l (prints e false) ≡ arms_inks xs l [] ++ k ++ inks (tree.statements b) l false = ap (λ v. inks v l (prints v false)) (is ∙ ap (λ v. choice xs (last_arm (option_map (λ v. map view_stmt v.items) v))) some) ∙ arms_and_last xs b l (prints (choice xs (tree.statements b)) false) ∙ ap (λ v. arms_inks xs l [] ++ (if v then spaced (ink.keyword w.Else) else []) ++ inks (tree.statements b) l false) (sym hb) in
    let p : c.put_arms-in-Some.new.out ≡ o ++ inked (arms_inks xs l []) = search rules in
    let q : c.put_else.new.out ≡ c.put_arms-in-Some.new.out ++ inked k = search rules in
    on_ok_weaker c.put_block.result (three o c.put_arms-in-Some.new.out c.put_else.new.out c.put_block.new.out (arms_inks xs l []) k (inks (tree.statements b) l false) (inks e l (prints e false)) p q due) (search rules)
