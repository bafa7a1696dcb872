use Rattle.std.proofs.Common.{ℕ, suc, ◌+◌, List, length, map, Some, refl, sym, subst, ap, ◌∙◌, arith}
use Rattle.std.specs.Prelude.{option_map, codes, not}
use Rattle.std.proofs.lemmas.Result.{err_from_is_err_and}
use Rattle.nf_token.specs.declared.token.Mark.TheVariants as m
use Rattle.nf_token.specs.declared.token.Keyword.TheVariants as k
use Rattle.nf_grammar.specs.Gram.{rule, gives, ◌>>=◌}
use Rattle.nf_grammar.specs.Parts.{no_next}
use Rattle.nf_grammar.specs.Outcome.{got, too_deep}
use Rattle.nf_grammar.proofs.Short.{ret, seq, off, stop, sees, stops, maybe_not, maybe_is, ruled, fails}
use Rattle.nf_ast.specs.Tree as tree
use Rattle.nf_ast.specs.Tree.{Tree}
use Rattle.nf_ast.specs.View as view
use Rattle.nf_exprs.specs.declared.band.Band.TheVariants as band
use Rattle.nf_exprs.specs.Level.{Expr, Operands, Pre, Post, Prim, Args, Arg, Pair, Closure, Body, Stmt, Choice}
use Rattle.nf_exprs.specs.Tokens.{mark_of, keyword_of, name_of, open_template, close_template, close_hole, colon, no_start, no_post, labels, assigns, items_end, body_ends}
use Rattle.nf_exprs.specs.Rules as row
use Rattle.nf_exprs.specs.Rules.{kind, mark, no_comma, no_part, listed}
use Rattle.nf_exprs.specs.Parses.{Outcome, arm_tree}
use Rattle.nf_exprs.proofs.Bands as bands
use Rattle.nf_exprs.proofs.Bands.{band_dives, band_stops, band_goes, band_not, ends_as}
use Rattle.nf_exprs.proofs.Chains.{chain_begins, chain_not, chain_goes, chain_stops, chain_dives, chain_ends, at_dot, at_safe, at_square, at_round, at_brace, mark_seen}
use Rattle.nf_exprs.proofs.Choices.{choice_begins, choice_not, choice_dives, last_got, last_stops, arm_got, arm_stops, choice_ends}
use Rattle.nf_exprs.proofs.Conditionals.{seen_none, seen_goes, seen_dives, branch_shorter, begins_not, seen_next, seen_ends, missing_at, next_within}
use Rattle.nf_exprs.proofs.Literals.{literal_seen, literal_unseen, prim_literal, prim_template, prim_round, prim_square, prim_brace, template_seen, piece_text, piece_hole, last_comma, listed_ends, goes_on, no_item, no_pair, square_colon}
use Rattle.nf_exprs.proofs.Parameters.{closure_plain, closure_got, closure_stop, plain_body, labelled_body, two_labels}
use Rattle.nf_exprs.proofs.Prefixes.{first_leads, prefix_dives, prefix_pushed, prefix_none, prefix_ends}
use Rattle.nf_exprs.proofs.Rows.{expr_misses}
use Rattle.nf_exprs.proofs.Squares.{square_pairs, square_items}
use Rattle.nf_exprs.proofs.Statements.{stmt_def, stmt_return, stmt_if, stmt_printed, stmt_logged, stmt_alone, then_sep, then_assigned, body_ends_here}
use Rattle.nf_exprs.proofs.Arguments.{args_miss, args_not, args_end, arg_named, arg_named_stop, arg_bare, arg_bare_stop}
use Rattle.nf_exprs.proofs.Turns.{goes_at, ends_at, pieces_begin, pieces_end, labels_begin, body_begin, keyword_seen, two_assigns, def_not, defines_one, defines_all}
use Rattle.nf_exprs.proofs.Steps.{comes, took, lift_fault, lifted, isnt_there, two_seen, two_unseen, deeper, as_opens, list_begins, list_goes, list_stops, row_goes, row_stops}
use Rattle.nf_exprs.proofs.+parser.Goals as goal

pub exprs::expr-loop-place-init : goal.exprs::expr-loop-place-init
exprs::expr-loop-place-init t c = (c.in_ok-first.ensures.shorter, omega arith, seen_none c.args.depth (view.view c.in_ok-first.first) c.new-branches.result.items c.new-asked.result.items c.in_ok-first.rest.now c.args.tokens.now c.new-branches.ensures.items c.new-asked.ensures.items c.in_ok-first.ensures.parses)

pub exprs::expr-returns-in_err-first-clause-parses : goal.exprs::expr-returns-in_err-first-clause-parses
exprs::expr-returns-in_err-first-clause-parses t c =
    let p = err_from_is_err_and c.from_residual.result c.from_residual.ensures.1 in
    rw (p.1, p.2) (lift_fault (rule (Operands c.args.depth band.Or)) (rule (Expr c.args.depth 0)) _ _ c.in_err-first.field-0.0 (λ o s q. begins_not c.args.depth c.args.tokens.now o s q) (c.in_err-first.ensures.parses))

pub exprs::expr-returns-then-is_past-clause-parses : goal.exprs::expr-returns-then-is_past-clause-parses
exprs::expr-returns-then-is_past-clause-parses t c = seen_dives c.args.depth _ c.loop-place.branches.items c.loop-place.nested c.loop-place.asked.items c.loop-place.rest.now c.in-Some.after.now c.args.tokens.now c.in-Some.place c.in-Some.operator c.in-Some.ensures.due (sym c.is_past.ensures ∙ c.if-is_past.true) c.in-Some.ensures.takes c.loop-place.invariant.2

pub exprs::expr-returns-in_err-operand-clause-parses : goal.exprs::expr-returns-in_err-operand-clause-parses
exprs::expr-returns-in_err-operand-clause-parses t c =
    let p = err_from_is_err_and c.from_residual-in_err-operand.result c.from_residual-in_err-operand.ensures.1 in
    rw (p.1, p.2) (lift_fault (rule (Operands c.args.depth band.Or)) (rule (Expr c.args.depth 0)) _ _ c.in_err-operand.field-0.0 (λ o s q. seen_goes c.args.depth _ c.loop-place.branches.items c.loop-place.nested c.in_ok-next.next c.loop-place.asked.items c.nests.new.asked.items c.loop-place.rest.now c.in-Some.after.now c.args.tokens.now c.in-Some.place c.in-Some.operator c.in-Some.ensures.due (sym c.is_past.ensures ∙ c.if-is_past.false) c.in-Some.ensures.some c.in-Some.ensures.takes c.in_ok-next.ensures c.loop-place.invariant.2 o s q) (c.in_err-operand.ensures.parses))

pub exprs::expr-loop-place-smaller : goal.exprs::expr-loop-place-smaller
exprs::expr-loop-place-smaller t c = let shorter = branch_shorter c.in-Some.ensures.due c.in-Some.operator c.loop-place.rest.now c.in-Some.after.now c.in-Some.place c.in-Some.ensures.takes in omega (arith, shorter, c.in_ok-operand.ensures.shorter)

pub exprs::expr-loop-place-preserved : goal.exprs::expr-loop-place-preserved
exprs::expr-loop-place-preserved t c =
    let shorter = branch_shorter c.in-Some.ensures.due c.in-Some.operator c.loop-place.rest.now c.in-Some.after.now c.in-Some.place c.in-Some.ensures.takes in
    let next = seen_next c.args.depth _ c.loop-place.branches.items c.push.new.self.items c.new-branch.result c.loop-place.nested c.in_ok-next.next c.loop-place.asked.items c.nests.new.asked.items c.loop-place.rest.now c.in-Some.after.now c.in_ok-operand.after.now c.args.tokens.now c.in-Some.place c.in-Some.operator c.in-Some.ensures.due (view.view c.in_ok-operand.operand) (sym c.is_past.ensures ∙ c.if-is_past.false) c.in-Some.ensures.some c.in-Some.ensures.takes c.in_ok-next.ensures c.in_ok-push.ensures.items c.new-branch.ensures c.in_ok-operand.ensures.parses c.loop-place.invariant.2 in
    (omega (arith, shorter, c.in_ok-operand.ensures.shorter, c.loop-place.invariant.0), next_within c.args.depth _ c.loop-place.branches.items c.push.new.self.items c.new-branch.result c.loop-place.nested c.in_ok-next.next c.loop-place.asked.items c.nests.new.asked.items c.loop-place.rest.now c.in_ok-operand.after.now c.args.tokens.now c.in-Some.place c.in-Some.operator (view.view c.in_ok-operand.operand) (sym c.is_past.ensures ∙ c.if-is_past.false) c.loop-place.invariant.1 c.in_ok-push.ensures.items c.new-branch.ensures c.loop-place.invariant.2 next, next)

pub exprs::expr-returns-then-is_asked-clause-parses : goal.exprs::expr-returns-then-is_asked-clause-parses
exprs::expr-returns-then-is_asked-clause-parses t c = missing_at c.args.depth _ c.loop-place.branches.items c.loop-place.nested c.loop-place.asked.items c.loop-place.rest.now c.args.tokens.now c.in_default.ensures.due c.in_default.ensures.none (c.is_asked.ensures.yes c.if-is_asked.true) c.in_default.ensures.off c.loop-place.invariant.2

pub exprs::expr-returns-clause-parses : goal.exprs::expr-returns-clause-parses
exprs::expr-returns-clause-parses t c = seen_ends c.args.depth _ (view.view c.in_ok-whole.whole) c.loop-place.branches.items c.loop-place.nested c.loop-place.asked.items c.loop-place.rest.now c.args.tokens.now c.in_default.ensures.due (c.is_asked.ensures.no c.if-is_asked.false) c.in_default.ensures.off c.in_ok-whole.ensures c.loop-place.invariant.2

pub exprs::operands-loop-place-init : goal.exprs::operands-loop-place-init
exprs::operands-loop-place-init t c = (c.in_ok-first.ensures.shorter, omega arith, omega arith, bands.begins c.args.depth c.args.band (view.view c.in_ok-first.first) c.in_ok-first.rest.now c.args.tokens.now c.in_ok-first.ensures.parses c.new-others.result.items c.new-others.ensures.items)

pub exprs::operands-returns-in_err-first-clause-parses : goal.exprs::operands-returns-in_err-first-clause-parses
exprs::operands-returns-in_err-first-clause-parses t c =
    let p = err_from_is_err_and c.from_residual.result c.from_residual.ensures.1 in
    rw (p.1, p.2) (lift_fault (row.operand c.args.depth c.args.band) (rule (Operands c.args.depth c.args.band)) _ _ c.in_err-first.field-0.0 (λ o s q. band_not c.args.depth c.args.band c.args.tokens.now o s q) (c.in_err-first.ensures.parses))

pub exprs::operands-returns-then-parts-ge-MOST_PARTS-clause-parses : goal.exprs::operands-returns-then-parts-ge-MOST_PARTS-clause-parses
exprs::operands-returns-then-parts-ge-MOST_PARTS-clause-parses t c = band_dives c.args.depth c.loop-place.parts c.args.band _ c.loop-place.others.items c.loop-place.rest.now c.in-Some.after.now c.args.tokens.now c.in-Some.place c.in-Some.operator c.in-Some.ensures.0 c.in-Some.ensures.1 c.loop-place.invariant.1 c.loop-place.invariant.3 (omega arith)

pub exprs::operands-returns-in_err-right-clause-parses : goal.exprs::operands-returns-in_err-right-clause-parses
exprs::operands-returns-in_err-right-clause-parses t c =
    let p = err_from_is_err_and c.from_residual-in_err-right.result c.from_residual-in_err-right.ensures.1 in
    rw (p.1, p.2) (lift_fault (row.operand c.args.depth c.args.band) (rule (Operands c.args.depth c.args.band)) _ _ c.in_err-right.field-0.0 (λ o s q. band_stops c.args.depth c.loop-place.parts c.args.band _ c.loop-place.others.items c.loop-place.rest.now c.in-Some.after.now c.args.tokens.now c.in-Some.place c.in-Some.operator c.in-Some.ensures.0 c.in-Some.ensures.1 c.loop-place.invariant.1 c.loop-place.invariant.3 (omega arith) o s q) (c.in_err-right.ensures.parses))

pub exprs::operands-loop-place-preserved : goal.exprs::operands-loop-place-preserved
exprs::operands-loop-place-preserved t c =
    let shorter = ap length c.in-Some.ensures.0.2 in
    (omega (arith, shorter, c.in_ok-right.ensures.shorter, c.loop-place.invariant.0), omega arith, omega arith, band_goes c.args.depth c.loop-place.parts c.args.band _ c.loop-place.others.items c.loop-place.rest.now c.in-Some.after.now c.args.tokens.now c.in-Some.place c.in-Some.operator c.in-Some.ensures.0 c.in-Some.ensures.1 c.loop-place.invariant.1 c.loop-place.invariant.3 (c.loop-place.parts + 1) c.push.new.self.items c.new-other.result (view.view c.in_ok-right.right) c.in_ok-right.after.now (omega arith) (omega arith) c.in_ok-push.ensures.items c.new-other.ensures c.in_ok-right.ensures.parses)

pub exprs::operands-loop-place-smaller : goal.exprs::operands-loop-place-smaller
exprs::operands-loop-place-smaller t c =
    let shorter = ap length c.in-Some.ensures.0.2 in
    omega (arith, shorter, c.in_ok-right.ensures.shorter)

pub exprs::operands-returns-clause-parses : goal.exprs::operands-returns-clause-parses
exprs::operands-returns-clause-parses t c = sees c.in_ok-whole.ensures (ends_as c.args.depth c.loop-place.parts c.args.band _ c.loop-place.rest.now c.args.tokens.now (row.is_single c.args.band) c.loop-place.invariant.1 c.in_default.ensures.0 c.in_default.ensures.1 c.loop-place.invariant.3)

pub exprs::prefixed-loop-place-init : goal.exprs::prefixed-loop-place-init
exprs::prefixed-loop-place-init t c = (omega arith, omega arith, first_leads (rule (Pre c.args.depth 0)) c.args.tokens.now c.new-operators.result.items c.new-operators.ensures.items)

pub exprs::prefixed-loop-place-preserved : goal.exprs::prefixed-loop-place-preserved
exprs::prefixed-loop-place-preserved t c =
    let shorter = ap length c.in-Some.ensures.2 in
    (omega (arith, shorter, c.loop-place.invariant.0), omega arith, prefix_pushed c.args.depth c.loop-place.parts c.loop-place.rest.now c.in-Some.after.now c.in-Some.place c.in-Some.operator c.in-Some.ensures (c.loop-place.parts + 1) c.loop-place.operators.items c.push.new.self.items c.args.tokens.now (omega arith) (omega arith) c.in_ok-push.ensures.items c.loop-place.invariant.2)

pub exprs::prefixed-loop-place-smaller : goal.exprs::prefixed-loop-place-smaller
exprs::prefixed-loop-place-smaller t c = let shorter = ap length c.in-Some.ensures.2 in omega (arith, shorter)

pub exprs::prefixed-returns-then-parts-ge-MOST_PARTS-clause-parses : goal.exprs::prefixed-returns-then-parts-ge-MOST_PARTS-clause-parses
exprs::prefixed-returns-then-parts-ge-MOST_PARTS-clause-parses t c = c.loop-place.invariant.2.stops (too_deep (length c.loop-place.rest.now)) tt (prefix_dives c.args.depth c.loop-place.parts c.loop-place.rest.now c.in-Some.after.now c.in-Some.place c.in-Some.operator c.in-Some.ensures (omega arith))

pub exprs::prefixed-returns-in_err-of-clause-parses : goal.exprs::prefixed-returns-in_err-of-clause-parses
exprs::prefixed-returns-in_err-of-clause-parses t c =
    let p = err_from_is_err_and c.from_residual-in_err-of.result c.from_residual-in_err-of.ensures.1 in
    rw (p.1, p.2) (lift_fault (rule (Post c.args.depth)) (rule (Pre c.args.depth 0)) _ _ c.in_err-of.field-0.0 (λ o s q. c.loop-place.invariant.2.stops o s (prefix_none c.args.depth c.loop-place.parts c.loop-place.rest.now o c.in_default.ensures q)) (c.in_err-of.ensures.parses))

pub exprs::prefixed-returns-clause-parses : goal.exprs::prefixed-returns-clause-parses
exprs::prefixed-returns-clause-parses t c = prefix_ends c.args.depth c.loop-place.parts c.loop-place.rest.now c.args.tokens.now c.in_ok-of.rest.now c.loop-place.operators.items (view.view c.in_ok-of.of) (view.view c.in_ok-whole.whole) c.in_default.ensures c.loop-place.invariant.2 c.in_ok-whole.ensures c.in_ok-of.ensures.parses

pub posts::post-loop-alloc-init : goal.posts::post-loop-alloc-init
posts::post-loop-alloc-init t c = (c.in_ok-first.ensures.shorter, omega arith, chain_begins c.args.depth (view.view c.in_ok-first.first) c.new-parts.result.items c.in_ok-first.rest.now c.args.tokens.now c.new-parts.ensures.items c.in_ok-first.ensures.parses)

pub posts::post-returns-in_err-first-clause-parses : goal.posts::post-returns-in_err-first-clause-parses
posts::post-returns-in_err-first-clause-parses t c =
    let p = err_from_is_err_and c.from_residual.result c.from_residual.ensures.1 in
    rw (p.1, p.2) (lift_fault (rule (Prim c.args.depth)) (rule (Post c.args.depth)) _ _ c.in_err-first.field-0.0 (λ o s q. chain_not c.args.depth c.args.tokens.now o s q) (c.in_err-first.ensures.parses))

pub posts::post-returns-then-count-ge-MOST_PARTS-clause-parses : goal.posts::post-returns-then-count-ge-MOST_PARTS-clause-parses
posts::post-returns-then-count-ge-MOST_PARTS-clause-parses t c = chain_dives c.args.depth c.loop-alloc.count _ c.loop-alloc.parts.items c.loop-alloc.rest.now c.args.tokens.now c.loop-alloc.invariant.2 (goes_at (no_post c.loop-alloc.rest.now) (sym c.starts_part.ensures ∙ c.loop-alloc-test.true)) (omega arith)

pub posts::post-returns-in_err-part-clause-parses : goal.posts::post-returns-in_err-part-clause-parses
posts::post-returns-in_err-part-clause-parses t c =
    let p = err_from_is_err_and c.from_residual-in_err-part.result c.from_residual-in_err-part.ensures.1 in
    rw (p.1, p.2) (lift_fault (row.post_part c.args.depth c.loop-alloc.count _) (rule (Post c.args.depth)) _ _ c.in_err-part.field-0.0 (λ o s q. chain_stops c.args.depth c.loop-alloc.count _ c.loop-alloc.parts.items c.loop-alloc.rest.now c.args.tokens.now c.loop-alloc.invariant.2 (goes_at (no_post c.loop-alloc.rest.now) (sym c.starts_part.ensures ∙ c.loop-alloc-test.true)) o s q) (c.in_err-part.ensures.parses c.loop-alloc.count _ (omega arith)))

pub posts::post-loop-alloc-preserved : goal.posts::post-loop-alloc-preserved
posts::post-loop-alloc-preserved t c = (omega (arith, c.loop-alloc.invariant.0, c.in_ok-part.ensures.shorter), omega arith, chain_goes c.args.depth c.loop-alloc.count _ c.loop-alloc.parts.items c.loop-alloc.rest.now c.args.tokens.now c.loop-alloc.invariant.2 (c.loop-alloc.count + 1) c.push.new.self.items c.in_ok-part.part c.in_ok-part.after.now (goes_at (no_post c.loop-alloc.rest.now) (sym c.starts_part.ensures ∙ c.loop-alloc-test.true)) (omega arith) c.in_ok-push.ensures.items (c.in_ok-part.ensures.parses c.loop-alloc.count _ (omega arith)))

pub posts::post-returns-clause-parses : goal.posts::post-returns-clause-parses
posts::post-returns-clause-parses t c = chain_ends c.args.depth c.loop-alloc.count _ c.loop-alloc.parts.items c.loop-alloc.rest.now c.args.tokens.now c.loop-alloc.invariant.2 (view.view c.in_ok-whole.whole) (ends_at (no_post c.loop-alloc.rest.now) (sym c.starts_part.ensures ∙ c.loop-alloc-test.false)) c.in_ok-whole.ensures

pub posts::post_part-returns-then-is_some-clause-parses : goal.posts::post_part-returns-then-is_some-clause-parses
posts::post_part-returns-then-is_some-clause-parses t c = λ n e h. lifted (λ x. view.applied e (view.view_postfix x.0)) (λ x. x.1.now) (row.property n e) (row.post_part c.args.depth n e) c.args.tokens.now c.args.tokens.now c.property.result (λ o p. at_dot c.args.depth n e c.args.tokens.now o (mark_seen m.Dot c.args.tokens.now c.mark.result c.mark.ensures (sym c.is_some.ensures ∙ c.if-is_some.true)) p) (c.property.ensures.parses n e h)

pub posts::post_part-returns-then-is_some-2-clause-parses : goal.posts::post_part-returns-then-is_some-2-clause-parses
posts::post_part-returns-then-is_some-2-clause-parses t c = λ n e h. lifted (λ x. view.applied e (view.view_postfix x.0)) (λ x. x.1.now) (row.safe_property n e) (row.post_part c.args.depth n e) c.args.tokens.now c.args.tokens.now c.safe_property.result (λ o p. at_safe c.args.depth n e c.args.tokens.now o (mark_seen m.QuestionDot c.args.tokens.now c.mark-2.result c.mark-2.ensures (sym c.is_some-2.ensures ∙ c.if-is_some-2.true)) p) (c.safe_property.ensures.parses n e h)

pub posts::post_part-returns-then-is_some-3-clause-parses : goal.posts::post_part-returns-then-is_some-3-clause-parses
posts::post_part-returns-then-is_some-3-clause-parses t c = λ n e h. lifted (λ x. view.applied e (view.view_postfix x.0)) (λ x. x.1.now) (row.index c.args.depth n e) (row.post_part c.args.depth n e) c.args.tokens.now c.args.tokens.now c.index.result (λ o p. at_square c.args.depth n e c.args.tokens.now o (mark_seen m.OpenSquare c.args.tokens.now c.mark-3.result c.mark-3.ensures (sym c.is_some-3.ensures ∙ c.if-is_some-3.true)) p) (c.index.ensures.parses n e h)

pub posts::post_part-returns-then-is_some-4-clause-parses : goal.posts::post_part-returns-then-is_some-4-clause-parses
posts::post_part-returns-then-is_some-4-clause-parses t c = λ n e h. lifted (λ x. view.applied e (view.view_postfix x.0)) (λ x. x.1.now) (row.call c.args.depth n e) (row.post_part c.args.depth n e) c.args.tokens.now c.args.tokens.now c.call.result (λ o p. at_round c.args.depth n e c.args.tokens.now o (mark_seen m.OpenRound c.args.tokens.now c.mark-4.result c.mark-4.ensures (sym c.is_some-4.ensures ∙ c.if-is_some-4.true)) p) (c.call.ensures.parses n e h)

pub posts::post_part-returns-clause-parses : goal.posts::post_part-returns-clause-parses
posts::post_part-returns-clause-parses t c = λ n e h. lifted (λ x. view.applied e (view.view_postfix x.0)) (λ x. x.1.now) (row.call_with c.args.depth n e) (row.post_part c.args.depth n e) c.args.tokens.now c.args.tokens.now c.call_with.result (λ o p. at_brace c.args.depth n e c.args.tokens.now o (isnt_there (λ x. tree.point x.0) (λ x. x.1.now) (mark_of m.Dot) c.args.tokens.now c.mark.result c.mark.ensures (sym c.is_some.ensures ∙ c.if-is_some.false)) (isnt_there (λ x. tree.point x.0) (λ x. x.1.now) (mark_of m.QuestionDot) c.args.tokens.now c.mark-2.result c.mark-2.ensures (sym c.is_some-2.ensures ∙ c.if-is_some-2.false)) (isnt_there (λ x. tree.point x.0) (λ x. x.1.now) (mark_of m.OpenSquare) c.args.tokens.now c.mark-3.result c.mark-3.ensures (sym c.is_some-3.ensures ∙ c.if-is_some-3.false)) (isnt_there (λ x. tree.point x.0) (λ x. x.1.now) (mark_of m.OpenRound) c.args.tokens.now c.mark-4.result c.mark-4.ensures (sym c.is_some-4.ensures ∙ c.if-is_some-4.false)) p) (c.call_with.ensures.parses n e h)

pub posts::index-returns-in_err-place-clause-parses : goal.posts::index-returns-in_err-place-clause-parses
posts::index-returns-in_err-place-clause-parses t c = λ n e h.
    let p = err_from_is_err_and c.from_residual.result c.from_residual.ensures.1 in
    rw (p.1, p.2) (lift_fault (row.opens c.args.depth m.OpenSquare) (row.index c.args.depth n e) _ _ c.in_err-place.field-0.0 (λ o s q. stop o s (as_opens c.args.depth n (mark_of m.OpenSquare) h q)) (c.in_err-place.ensures.parses))

pub posts::index-returns-in_err-at-clause-parses : goal.posts::index-returns-in_err-at-clause-parses
posts::index-returns-in_err-at-clause-parses t c = λ n e h.
    let p = err_from_is_err_and c.from_residual-in_err-at.result c.from_residual-in_err-at.ensures.1 in
    rw (p.1, p.2) (lift_fault (rule (Expr (c.args.depth + 1) 0)) (row.index c.args.depth n e) _ _ c.in_err-at.field-0.0 (λ o s q. seq (as_opens c.args.depth n (mark_of m.OpenSquare) h c.in_ok-place.ensures.parses) (stop o s (deeper (λ x. rule (Expr x 0)) c.args.depth q))) (c.in_err-at.ensures.parses))

pub posts::index-returns-in_err-rest-clause-parses : goal.posts::index-returns-in_err-rest-clause-parses
posts::index-returns-in_err-rest-clause-parses t c = λ n e h.
    let p = err_from_is_err_and c.from_residual-in_err-rest.result c.from_residual-in_err-rest.ensures.1 in
    rw (p.1, p.2) (lift_fault (mark m.CloseSquare) (row.index c.args.depth n e) _ _ c.in_err-rest.field-0.0 (λ o s q. seq (as_opens c.args.depth n (mark_of m.OpenSquare) h c.in_ok-place.ensures.parses) (seq (deeper (λ x. rule (Expr x 0)) c.args.depth c.in_ok-at.ensures.parses) (stop o s q))) (c.in_err-rest.ensures.parses))

pub posts::index-returns-clause-parses : goal.posts::index-returns-clause-parses
posts::index-returns-clause-parses t c = λ n e h.
    sees (ap (view.applied e) c.index-part.ensures) (seq (as_opens c.args.depth n (mark_of m.OpenSquare) h c.in_ok-place.ensures.parses) (seq (deeper (λ x. rule (Expr x 0)) c.args.depth c.in_ok-at.ensures.parses) (seq c.in_ok-rest.ensures.parses ret)))

pub posts::call-returns-in_err-place-clause-parses : goal.posts::call-returns-in_err-place-clause-parses
posts::call-returns-in_err-place-clause-parses t c = λ n e h.
    let p = err_from_is_err_and c.from_residual.result c.from_residual.ensures.1 in
    rw (p.1, p.2) (lift_fault (row.opens c.args.depth m.OpenRound) (row.call c.args.depth n e) _ _ c.in_err-place.field-0.0 (λ o s q. stop o s (as_opens c.args.depth n (mark_of m.OpenRound) h q)) (c.in_err-place.ensures.parses))

pub posts::call-returns-in_err-args-clause-parses : goal.posts::call-returns-in_err-args-clause-parses
posts::call-returns-in_err-args-clause-parses t c = λ n e h.
    let p = err_from_is_err_and c.from_residual-in_err-args.result c.from_residual-in_err-args.ensures.1 in
    rw (p.1, p.2) (lift_fault (row.maybe (rule (Args (c.args.depth + 1))) no_start) (row.call c.args.depth n e) _ _ c.in_err-args.field-0.0 (λ o s q. seq (as_opens c.args.depth n (mark_of m.OpenRound) h c.in_ok-place.ensures.parses) (stop o s (deeper (λ x. row.maybe (rule (Args x)) no_start) c.args.depth q))) (c.in_err-args.ensures.parses))

pub posts::call-returns-in_err-rest-clause-parses : goal.posts::call-returns-in_err-rest-clause-parses
posts::call-returns-in_err-rest-clause-parses t c = λ n e h.
    let p = err_from_is_err_and c.from_residual-in_err-rest.result c.from_residual-in_err-rest.ensures.1 in
    rw (p.1, p.2) (lift_fault (mark m.CloseRound) (row.call c.args.depth n e) _ _ c.in_err-rest.field-0.0 (λ o s q. seq (as_opens c.args.depth n (mark_of m.OpenRound) h c.in_ok-place.ensures.parses) (seq (deeper (λ x. row.maybe (rule (Args x)) no_start) c.args.depth c.in_ok-args.ensures.parses) (stop o s q))) (c.in_err-rest.ensures.parses))

pub posts::call-returns-clause-parses : goal.posts::call-returns-clause-parses
posts::call-returns-clause-parses t c = λ n e h.
    sees (ap (view.applied e) c.call-part.ensures) (seq (as_opens c.args.depth n (mark_of m.OpenRound) h c.in_ok-place.ensures.parses) (seq (deeper (λ x. row.maybe (rule (Args x)) no_start) c.args.depth c.in_ok-args.ensures.parses) (seq c.in_ok-rest.ensures.parses ret)))

pub posts::call_with-returns-in_err-place-clause-parses : goal.posts::call_with-returns-in_err-place-clause-parses
posts::call_with-returns-in_err-place-clause-parses t c = λ n e h.
    let p = err_from_is_err_and c.from_residual.result c.from_residual.ensures.1 in
    rw (p.1, p.2) (lift_fault (row.opens c.args.depth m.OpenBrace) (row.call_with c.args.depth n e) _ _ c.in_err-place.field-0.0 (λ o s q. stop o s (as_opens c.args.depth n (mark_of m.OpenBrace) h q)) (c.in_err-place.ensures.parses))

pub posts::call_with-returns-in_err-closure-clause-parses : goal.posts::call_with-returns-in_err-closure-clause-parses
posts::call_with-returns-in_err-closure-clause-parses t c = λ n e h.
    let p = err_from_is_err_and c.from_residual-in_err-closure.result c.from_residual-in_err-closure.ensures.1 in
    rw (p.1, p.2) (lift_fault (rule (Closure (c.args.depth + 1) c.in_ok-place.place)) (row.call_with c.args.depth n e) _ _ c.in_err-closure.field-0.0 (λ o s q. seq (as_opens c.args.depth n (mark_of m.OpenBrace) h c.in_ok-place.ensures.parses) (stop o s (deeper (λ x. rule (Closure x c.in_ok-place.place)) c.args.depth q))) (c.in_err-closure.ensures.parses))

pub posts::call_with-returns-clause-parses : goal.posts::call_with-returns-clause-parses
posts::call_with-returns-clause-parses t c = λ n e h.
    sees (ap (view.applied e) c.with-part.ensures) (seq (as_opens c.args.depth n (mark_of m.OpenBrace) h c.in_ok-place.ensures.parses) (seq (deeper (λ x. rule (Closure x c.in_ok-place.place)) c.args.depth c.in_ok-closure.ensures.parses) ret))

pub posts::maybe_args-returns-then-not-starts-clause-parses : goal.posts::maybe_args-returns-then-not-starts-clause-parses
posts::maybe_args-returns-then-not-starts-clause-parses t c = sees (ap (λ l. view.trees (map view.view_arg l)) c.new-none.ensures.items) (maybe_not {c = no_start} (ap not (sym c.starts.ensures ∙ c.if-not-starts.true)) (args_miss c.args.depth c.args.tokens.now (ap not (sym c.starts.ensures ∙ c.if-not-starts.true))))

pub posts::maybe_args-returns-clause-parses : goal.posts::maybe_args-returns-clause-parses
posts::maybe_args-returns-clause-parses t c = lifted (λ x. view.trees (map view.view_arg x.0.items)) (λ x. x.1.now) (rule (Args c.args.depth)) (row.maybe (rule (Args c.args.depth)) no_start) c.args.tokens.now c.args.tokens.now c.args-2.result (λ o p. maybe_is (ap not (sym c.starts.ensures ∙ c.if-not-starts.false)) p) c.args-2.ensures.parses

pub posts::args-returns-in_err-first-clause-parses : goal.posts::args-returns-in_err-first-clause-parses
posts::args-returns-in_err-first-clause-parses t c =
    let p = err_from_is_err_and c.from_residual.result c.from_residual.ensures.1 in
    rw (p.1, p.2) (lift_fault (rule (Arg c.args.depth)) (rule (Args c.args.depth)) _ _ c.in_err-first.field-0.0 (λ o s q. args_not c.args.depth c.args.tokens.now o s q) (c.in_err-first.ensures.parses))

pub posts::args-loop-after-init : goal.posts::args-loop-after-init
posts::args-loop-after-init t c = (c.in_ok-first.ensures.shorter, (0, list_begins view.view_arg no_comma (rule (Arg c.args.depth)) c.new-all.result.items c.push.new.self.items c.in_ok-first.first c.in_ok-first.rest.now c.args.tokens.now c.new-all.ensures.items c.in_ok-push.ensures.items c.in_ok-first.ensures.parses))

pub posts::args-returns-in_err-next-clause-parses : goal.posts::args-returns-in_err-next-clause-parses
posts::args-returns-in_err-next-clause-parses t c =
    let p = err_from_is_err_and c.from_residual-in_err-next.result c.from_residual-in_err-next.ensures.1 in
    rw (p.1, p.2) (lift_fault (rule (Arg c.args.depth)) (rule (Args c.args.depth)) _ _ c.in_err-next.field-0.0 (λ o s q. args_end c.args.depth c.args.tokens.now o (list_stops view.view_arg no_comma (rule (Arg c.args.depth)) (listed no_comma (rule (Arg c.args.depth))) c.loop-after.invariant.1.0 c.loop-after.all.items c.loop-after.rest.now c.in-Some.after.now c.args.tokens.now _ c.in-Some.ensures (comes c.in-Some.ensures) c.loop-after.invariant.1.1 o s q)) (c.in_err-next.ensures.parses))

pub posts::args-loop-after-preserved : goal.posts::args-loop-after-preserved
posts::args-loop-after-preserved t c =
    let shorter = ap length c.in-Some.ensures.2 in
    (omega (arith, shorter, c.in_ok-next.ensures.shorter, c.loop-after.invariant.0), (suc c.loop-after.invariant.1.0, list_goes view.view_arg no_comma (rule (Arg c.args.depth)) (listed no_comma (rule (Arg c.args.depth))) c.loop-after.invariant.1.0 c.loop-after.all.items c.push-in-Some.new.self.items c.in_ok-next.next c.loop-after.rest.now c.in-Some.after.now c.in_ok-next.after.now c.args.tokens.now _ c.in-Some.ensures (comes c.in-Some.ensures) c.in_ok-push-2.ensures.items c.in_ok-next.ensures.parses c.loop-after.invariant.1.1))

pub posts::args-loop-after-smaller : goal.posts::args-loop-after-smaller
posts::args-loop-after-smaller t c = let shorter = ap length c.in-Some.ensures.2 in omega (arith, shorter, c.in_ok-next.ensures.shorter)

pub posts::args-returns-clause-parses : goal.posts::args-returns-clause-parses
posts::args-returns-clause-parses t c = args_end c.args.depth c.args.tokens.now _ (c.loop-after.invariant.1.1 _ (stops c.in_default.ensures (off c.in_default.ensures)))

pub posts::arg-returns-in_err-value-clause-parses : goal.posts::arg-returns-in_err-value-clause-parses
posts::arg-returns-in_err-value-clause-parses t c =
    let p = err_from_is_err_and c.from_residual.result c.from_residual.ensures.1 in
    rw (p.1, p.2) (lift_fault (rule (Expr c.args.depth 0)) (rule (Arg c.args.depth)) _ _ c.in_err-value.field-0.0 (λ o s q. arg_bare_stop c.args.depth c.args.tokens.now o c.in_default.ensures s q) (c.in_err-value.ensures.parses))

pub posts::arg-returns-in_default-clause-parses : goal.posts::arg-returns-in_default-clause-parses
posts::arg-returns-in_default-clause-parses t c = sees c.new-arg.ensures (arg_bare c.args.depth c.args.tokens.now (view.view c.in_ok-value.value) c.in_ok-value.rest.now c.in_default.ensures c.in_ok-value.ensures.parses)

pub posts::arg-returns-in_err-value-2-clause-parses : goal.posts::arg-returns-in_err-value-2-clause-parses
posts::arg-returns-in_err-value-2-clause-parses t c =
    let p = err_from_is_err_and c.from_residual-in_err-value-2.result c.from_residual-in_err-value-2.ensures.1 in
    rw (p.1, p.2) (lift_fault (rule (Expr c.args.depth 0)) (rule (Arg c.args.depth)) _ _ c.in_err-value-2.field-0.0 (λ o s q. arg_named_stop c.args.depth c.args.tokens.now c.in-Some.rest.now (tree.name c.in-Some.place c.in-Some.name.now) o c.in-Some.ensures s q) (c.in_err-value-2.ensures.parses))

pub posts::arg-returns-clause-parses : goal.posts::arg-returns-clause-parses
posts::arg-returns-clause-parses t c = sees (c.new-arg-2.ensures ∙ ap (λ (x : List ℕ). tree.named (tree.name c.in-Some.place x) (view.view c.in_ok-value-2.value)) c.in_ok-copy.ensures) (arg_named c.args.depth c.args.tokens.now c.in-Some.rest.now c.in-Some.place c.in-Some.name.now (view.view c.in_ok-value-2.value) c.in_ok-value-2.rest.now c.in-Some.ensures c.in_ok-value-2.ensures.parses)

pub prims::prim-returns-in-Some-clause-parses : goal.prims::prim-returns-in-Some-clause-parses
prims::prim-returns-in-Some-clause-parses t c = prim_literal c.args.depth c.args.tokens.now c.in-Some.rest.now (view.view c.in-Some.literal) (literal_seen c.args.tokens.now c.in_ok-first.first c.in-Some.literal c.in-Some.rest c.in_ok-first.ensures c.in-Some.is)

pub prims::prim-returns-then-is_some-clause-parses : goal.prims::prim-returns-then-is_some-clause-parses
prims::prim-returns-then-is_some-clause-parses t c = lifted (λ x. view.view x.0) (λ x. x.1.now) (row.template_of c.args.depth) (rule (Prim c.args.depth)) c.args.tokens.now c.args.tokens.now c.template.result (λ o p. prim_template c.args.depth c.args.tokens.now o (literal_unseen c.args.tokens.now c.in_ok-first.first c.in_ok-first.ensures c.in_default.is) (template_seen c.args.tokens.now c.open_template.result c.open_template.ensures (sym c.is_some.ensures ∙ c.if-is_some.true)) p) c.template.ensures.parses

pub prims::prim-returns-then-is_some-2-clause-parses : goal.prims::prim-returns-then-is_some-2-clause-parses
prims::prim-returns-then-is_some-2-clause-parses t c = lifted (λ x. view.view x.0) (λ x. x.1.now) (row.round c.args.depth (rule (Expr (suc c.args.depth) 0))) (rule (Prim c.args.depth)) c.args.tokens.now c.args.tokens.now c.round.result (λ o p. prim_round c.args.depth c.args.tokens.now o (literal_unseen c.args.tokens.now c.in_ok-first.first c.in_ok-first.ensures c.in_default.is) (isnt_there (λ x. tree.template x.0 x.1 tree.empty) (λ x. x.2.now) open_template c.args.tokens.now c.open_template.result c.open_template.ensures (sym c.is_some.ensures ∙ c.if-is_some.false)) (mark_seen m.OpenRound c.args.tokens.now c.mark.result c.mark.ensures (sym c.is_some-2.ensures ∙ c.if-is_some-2.true)) p) c.round.ensures.parses

pub prims::prim-returns-then-is_some-3-clause-parses : goal.prims::prim-returns-then-is_some-3-clause-parses
prims::prim-returns-then-is_some-3-clause-parses t c = lifted (λ x. view.view x.0) (λ x. x.1.now) (row.square c.args.depth) (rule (Prim c.args.depth)) c.args.tokens.now c.args.tokens.now c.square.result (λ o p. prim_square c.args.depth c.args.tokens.now o (literal_unseen c.args.tokens.now c.in_ok-first.first c.in_ok-first.ensures c.in_default.is) (isnt_there (λ x. tree.template x.0 x.1 tree.empty) (λ x. x.2.now) open_template c.args.tokens.now c.open_template.result c.open_template.ensures (sym c.is_some.ensures ∙ c.if-is_some.false)) (mark_seen m.OpenSquare c.args.tokens.now c.mark-2.result c.mark-2.ensures (sym c.is_some-3.ensures ∙ c.if-is_some-3.true)) p) c.square.ensures.parses

pub prims::prim-returns-clause-parses : goal.prims::prim-returns-clause-parses
prims::prim-returns-clause-parses t c = lifted (λ x. view.view x.0) (λ x. x.1.now) (row.closure_of c.args.depth) (rule (Prim c.args.depth)) c.args.tokens.now c.args.tokens.now c.braced.result (λ o p. prim_brace c.args.depth c.args.tokens.now o (literal_unseen c.args.tokens.now c.in_ok-first.first c.in_ok-first.ensures c.in_default.is) (isnt_there (λ x. tree.template x.0 x.1 tree.empty) (λ x. x.2.now) open_template c.args.tokens.now c.open_template.result c.open_template.ensures (sym c.is_some.ensures ∙ c.if-is_some.false)) (isnt_there (λ x. tree.point x.0) (λ x. x.1.now) (mark_of m.OpenRound) c.args.tokens.now c.mark.result c.mark.ensures (sym c.is_some-2.ensures ∙ c.if-is_some-2.false)) (isnt_there (λ x. tree.point x.0) (λ x. x.1.now) (mark_of m.OpenSquare) c.args.tokens.now c.mark-2.result c.mark-2.ensures (sym c.is_some-3.ensures ∙ c.if-is_some-3.false)) p) c.braced.ensures.parses

pub prims::round-returns-in_err-rest-clause-parses : goal.prims::round-returns-in_err-rest-clause-parses
prims::round-returns-in_err-rest-clause-parses t c =
    let p = err_from_is_err_and c.from_residual.result c.from_residual.ensures.1 in
    rw (p.1, p.2) (lift_fault (row.opens c.args.depth m.OpenRound) (row.round c.args.depth (rule (Expr (suc c.args.depth) 0))) _ _ c.in_err-rest.field-0.0 (λ o s q. stop o s q) (c.in_err-rest.ensures.parses))

pub prims::round-returns-in_err-expr-clause-parses : goal.prims::round-returns-in_err-expr-clause-parses
prims::round-returns-in_err-expr-clause-parses t c =
    let p = err_from_is_err_and c.from_residual-in_err-expr.result c.from_residual-in_err-expr.ensures.1 in
    rw (p.1, p.2) (lift_fault (rule (Expr (c.args.depth + 1) 0)) (row.round c.args.depth (rule (Expr (suc c.args.depth) 0))) _ _ c.in_err-expr.field-0.0 (λ o s q. seq c.in_ok-rest.ensures.parses (stop o s (deeper (λ x. rule (Expr x 0)) c.args.depth q))) (c.in_err-expr.ensures.parses))

pub prims::round-returns-in_err-rest-2-clause-parses : goal.prims::round-returns-in_err-rest-2-clause-parses
prims::round-returns-in_err-rest-2-clause-parses t c =
    let p = err_from_is_err_and c.from_residual-in_err-rest-2.result c.from_residual-in_err-rest-2.ensures.1 in
    rw (p.1, p.2) (lift_fault (mark m.CloseRound) (row.round c.args.depth (rule (Expr (suc c.args.depth) 0))) _ _ c.in_err-rest-2.field-0.0 (λ o s q. seq c.in_ok-rest.ensures.parses (seq (deeper (λ x. rule (Expr x 0)) c.args.depth c.in_ok-expr.ensures.parses) (stop o s q))) (c.in_err-rest-2.ensures.parses))

pub prims::round-returns-clause-parses : goal.prims::round-returns-clause-parses
prims::round-returns-clause-parses t c = seq c.in_ok-rest.ensures.parses (seq (deeper (λ x. rule (Expr x 0)) c.args.depth c.in_ok-expr.ensures.parses) (seq c.in_ok-rest-2.ensures.parses ret))

pub prims::braced-returns-in_err-place-clause-parses : goal.prims::braced-returns-in_err-place-clause-parses
prims::braced-returns-in_err-place-clause-parses t c =
    let p = err_from_is_err_and c.from_residual.result c.from_residual.ensures.1 in
    rw (p.1, p.2) (lift_fault (row.opens c.args.depth m.OpenBrace) (row.closure_of c.args.depth) _ _ c.in_err-place.field-0.0 (λ o s q. stop o s q) (c.in_err-place.ensures.parses))

pub prims::braced-returns-in_err-closure-clause-parses : goal.prims::braced-returns-in_err-closure-clause-parses
prims::braced-returns-in_err-closure-clause-parses t c =
    let p = err_from_is_err_and c.from_residual-in_err-closure.result c.from_residual-in_err-closure.ensures.1 in
    rw (p.1, p.2) (lift_fault (rule (Closure (c.args.depth + 1) c.in_ok-place.place)) (row.closure_of c.args.depth) _ _ c.in_err-closure.field-0.0 (λ o s q. seq c.in_ok-place.ensures.parses (deeper (λ x. rule (Closure x c.in_ok-place.place)) c.args.depth q)) (c.in_err-closure.ensures.parses))

pub prims::braced-returns-clause-parses : goal.prims::braced-returns-clause-parses
prims::braced-returns-clause-parses t c = sees c.closure-expr.ensures (seq c.in_ok-place.ensures.parses (deeper (λ x. rule (Closure x c.in_ok-place.place)) c.args.depth c.in_ok-closure.ensures.parses))

pub prims::template-returns-in_default-clause-parses : goal.prims::template-returns-in_default-clause-parses
prims::template-returns-in_default-clause-parses t c = off c.in_default.ensures

pub prims::template-returns-in_err-parts-clause-parses : goal.prims::template-returns-in_err-parts-clause-parses
prims::template-returns-in_err-parts-clause-parses t c =
    let p = err_from_is_err_and c.from_residual.result c.from_residual.ensures.1 in
    rw (p.1, p.2) (lift_fault (row.pieces c.args.depth) (row.template_of c.args.depth) _ _ c.in_err-parts.field-0.0 (λ o s q. took refl c.in-Some.ensures (stop o s q)) (c.in_err-parts.ensures.parses))

pub prims::template-returns-in_err-rest-clause-parses : goal.prims::template-returns-in_err-rest-clause-parses
prims::template-returns-in_err-rest-clause-parses t c =
    let p = err_from_is_err_and c.from_residual-in_err-rest.result c.from_residual-in_err-rest.ensures.1 in
    rw (p.1, p.2) (lift_fault (kind close_template) (row.template_of c.args.depth) _ _ c.in_err-rest.field-0.0 (λ o s q. took refl c.in-Some.ensures (seq c.in_ok-parts.ensures.parses (stop o s q))) (c.in_err-rest.ensures.parses))

pub prims::template-returns-clause-parses : goal.prims::template-returns-clause-parses
prims::template-returns-clause-parses t c = sees c.template-template.ensures (took refl c.in-Some.ensures (seq c.in_ok-parts.ensures.parses (seq c.in_ok-rest.ensures.parses ret)))

pub prims::pieces-loop-alloc-init : goal.prims::pieces-loop-alloc-init
prims::pieces-loop-alloc-init t c = (omega arith, (0, pieces_begin c.args.depth c.args.tokens.now c.new-all.result.items c.new-all.ensures.items))

pub prims::pieces-returns-in_err-next-clause-parses : goal.prims::pieces-returns-in_err-next-clause-parses
prims::pieces-returns-in_err-next-clause-parses t c =
    let p = err_from_is_err_and c.from_residual.result c.from_residual.ensures.1 in
    rw (p.1, p.2) (lift_fault (row.piece c.args.depth) (row.pieces c.args.depth) _ _ c.in_err-next.field-0.0 (λ o s q. row_stops view.view_piece no_part (row.piece c.args.depth) (row.pieces c.args.depth) c.loop-alloc.invariant.1.0 c.loop-alloc.all.items c.loop-alloc.rest.now c.args.tokens.now (goes_at (no_part c.loop-alloc.rest.now) (sym c.starts_piece.ensures ∙ c.loop-alloc-test.true)) c.loop-alloc.invariant.1.1 o s q) (c.in_err-next.ensures.parses))

pub prims::pieces-loop-alloc-preserved : goal.prims::pieces-loop-alloc-preserved
prims::pieces-loop-alloc-preserved t c = (omega (arith, c.loop-alloc.invariant.0, c.in_ok-next.ensures.shorter), (suc c.loop-alloc.invariant.1.0, row_goes view.view_piece no_part (row.piece c.args.depth) (row.pieces c.args.depth) c.loop-alloc.invariant.1.0 c.loop-alloc.all.items c.push.new.self.items c.in_ok-next.next c.loop-alloc.rest.now c.in_ok-next.after.now c.args.tokens.now (goes_at (no_part c.loop-alloc.rest.now) (sym c.starts_piece.ensures ∙ c.loop-alloc-test.true)) c.in_ok-push.ensures.items c.in_ok-next.ensures.parses c.loop-alloc.invariant.1.1))

pub prims::pieces-returns-clause-parses : goal.prims::pieces-returns-clause-parses
prims::pieces-returns-clause-parses t c = pieces_end c.args.depth c.loop-alloc.invariant.1.0 c.loop-alloc.all.items c.loop-alloc.rest.now c.args.tokens.now (ends_at (no_part c.loop-alloc.rest.now) (sym c.starts_piece.ensures ∙ c.loop-alloc-test.false)) c.loop-alloc.invariant.1.1

pub prims::piece-returns-in-Some-clause-parses : goal.prims::piece-returns-in-Some-clause-parses
prims::piece-returns-in-Some-clause-parses t c = sees (c.plain-piece.ensures ∙ ap (λ (x : List ℕ). tree.piece c.in-Some.place x) c.in_ok-copy.ensures) (piece_text c.args.depth c.args.tokens.now c.in-Some.rest.now c.in-Some.place c.in-Some.text.now c.in-Some.ensures)

pub prims::piece-returns-in_err-place-clause-parses : goal.prims::piece-returns-in_err-place-clause-parses
prims::piece-returns-in_err-place-clause-parses t c =
    let p = err_from_is_err_and c.from_residual-in_err-place.result c.from_residual-in_err-place.ensures.1 in
    rw (p.1, p.2) (lift_fault (row.opens_hole c.args.depth) (row.piece c.args.depth) _ _ c.in_err-place.field-0.0 (λ o s q. piece_hole c.args.depth c.args.tokens.now o c.in_default.ensures (stop o s q)) (c.in_err-place.ensures.parses))

pub prims::piece-returns-in_err-expr-clause-parses : goal.prims::piece-returns-in_err-expr-clause-parses
prims::piece-returns-in_err-expr-clause-parses t c =
    let p = err_from_is_err_and c.from_residual-in_err-expr.result c.from_residual-in_err-expr.ensures.1 in
    rw (p.1, p.2) (lift_fault (rule (Expr (c.args.depth + 1) 0)) (row.piece c.args.depth) _ _ c.in_err-expr.field-0.0 (λ o s q. piece_hole c.args.depth c.args.tokens.now o c.in_default.ensures (seq c.in_ok-place.ensures.parses (stop o s (deeper (λ x. rule (Expr x 0)) c.args.depth q)))) (c.in_err-expr.ensures.parses))

pub prims::piece-returns-in_err-rest-clause-parses : goal.prims::piece-returns-in_err-rest-clause-parses
prims::piece-returns-in_err-rest-clause-parses t c =
    let p = err_from_is_err_and c.from_residual-in_err-rest.result c.from_residual-in_err-rest.ensures.1 in
    rw (p.1, p.2) (lift_fault (kind close_hole) (row.piece c.args.depth) _ _ c.in_err-rest.field-0.0 (λ o s q. piece_hole c.args.depth c.args.tokens.now o c.in_default.ensures (seq c.in_ok-place.ensures.parses (seq (deeper (λ x. rule (Expr x 0)) c.args.depth c.in_ok-expr.ensures.parses) (stop o s q)))) (c.in_err-rest.ensures.parses))

pub prims::piece-returns-clause-parses : goal.prims::piece-returns-clause-parses
prims::piece-returns-clause-parses t c = sees c.hole-piece.ensures (piece_hole c.args.depth c.args.tokens.now _ c.in_default.ensures (seq c.in_ok-place.ensures.parses (seq (deeper (λ x. rule (Expr x 0)) c.args.depth c.in_ok-expr.ensures.parses) (seq c.in_ok-rest.ensures.parses ret))))

pub prims::square-returns-in_err-place-clause-parses : goal.prims::square-returns-in_err-place-clause-parses
prims::square-returns-in_err-place-clause-parses t c =
    let p = err_from_is_err_and c.from_residual.result c.from_residual.ensures.1 in
    rw (p.1, p.2) (lift_fault (row.opens c.args.depth m.OpenSquare) (row.square c.args.depth) _ _ c.in_err-place.field-0.0 (λ o s q. stop o s q) (c.in_err-place.ensures.parses))

pub prims::square-returns-clause-parses : goal.prims::square-returns-clause-parses
prims::square-returns-clause-parses t c = lifted (λ x. view.view x.0) (λ x. x.1.now) (row.squared (c.args.depth + 1) c.in_ok-place.place) (row.square c.args.depth) c.in_ok-place.rest.now c.args.tokens.now c.squared.result (λ o p. seq c.in_ok-place.ensures.parses (deeper (λ x. row.squared x c.in_ok-place.place) c.args.depth p)) c.squared.ensures.parses

pub prims::squared-returns-in_err-rest-clause-parses : goal.prims::squared-returns-in_err-rest-clause-parses
prims::squared-returns-in_err-rest-clause-parses t c =
    let p = err_from_is_err_and c.from_residual.result c.from_residual.ensures.1 in
    rw (p.1, p.2) (lift_fault (mark m.CloseSquare) (row.squared c.args.depth c.args.place) _ _ c.in_err-rest.field-0.0 (λ o s q. square_colon c.args.depth c.args.place c.args.tokens.now o c.in-Some.rest.now _ c.in-Some.ensures (stop o s q)) (c.in_err-rest.ensures.parses))

pub prims::squared-returns-in-Some-clause-parses : goal.prims::squared-returns-in-Some-clause-parses
prims::squared-returns-in-Some-clause-parses t c = sees (c.map-map.ensures ∙ ap (λ l. tree.map c.args.place (view.trees (map view.view_pair l))) c.new-none.ensures.items) (square_colon c.args.depth c.args.place c.args.tokens.now _ c.in-Some.rest.now _ c.in-Some.ensures (seq c.in_ok-rest.ensures.parses ret))

pub prims::squared-returns-in_err-pairs-clause-parses : goal.prims::squared-returns-in_err-pairs-clause-parses
prims::squared-returns-in_err-pairs-clause-parses t c =
    let p = err_from_is_err_and c.from_residual-in_err-pairs.result c.from_residual-in_err-pairs.ensures.1 in
    rw (p.1, p.2) (lift_fault (row.ended_by_comma (rule (Pair c.args.depth))) (row.squared c.args.depth c.args.place) _ _ c.in_err-pairs.field-0.0 (λ o s q. square_pairs c.args.depth c.args.place c.args.tokens.now o (sym c.starts_pair.ensures ∙ c.if-starts_pair.true) (stop o s (stop o s q))) (c.in_err-pairs.ensures.parses))

pub prims::squared-returns-in_err-rest-2-clause-parses : goal.prims::squared-returns-in_err-rest-2-clause-parses
prims::squared-returns-in_err-rest-2-clause-parses t c =
    let p = err_from_is_err_and c.from_residual-in_err-rest-2.result c.from_residual-in_err-rest-2.ensures.1 in
    rw (p.1, p.2) (lift_fault (mark m.CloseSquare) (row.squared c.args.depth c.args.place) _ _ c.in_err-rest-2.field-0.0 (λ o s q. square_pairs c.args.depth c.args.place c.args.tokens.now o (sym c.starts_pair.ensures ∙ c.if-starts_pair.true) (seq (seq c.in_ok-pairs.ensures.parses ret) (stop o s q))) (c.in_err-rest-2.ensures.parses))

pub prims::squared-returns-then-starts_pair-clause-parses : goal.prims::squared-returns-then-starts_pair-clause-parses
prims::squared-returns-then-starts_pair-clause-parses t c = sees c.map-map-then-starts_pair.ensures (square_pairs c.args.depth c.args.place c.args.tokens.now _ (sym c.starts_pair.ensures ∙ c.if-starts_pair.true) (seq (seq c.in_ok-pairs.ensures.parses ret) (seq c.in_ok-rest-2.ensures.parses ret)))

pub prims::squared-returns-in_err-items-clause-parses : goal.prims::squared-returns-in_err-items-clause-parses
prims::squared-returns-in_err-items-clause-parses t c =
    let p = err_from_is_err_and c.from_residual-in_err-items.result c.from_residual-in_err-items.ensures.1 in
    rw (p.1, p.2) (lift_fault (row.maybe (row.ended_by_comma (rule (Expr c.args.depth 0))) no_start) (row.squared c.args.depth c.args.place) _ _ c.in_err-items.field-0.0 (λ o s q. square_items c.args.depth c.args.place c.args.tokens.now o c.in_default.ensures (sym c.starts_pair.ensures ∙ c.if-starts_pair.false) (stop o s (stop o s q))) (c.in_err-items.ensures.parses))

pub prims::squared-returns-in_err-rest-3-clause-parses : goal.prims::squared-returns-in_err-rest-3-clause-parses
prims::squared-returns-in_err-rest-3-clause-parses t c =
    let p = err_from_is_err_and c.from_residual-in_err-rest-3.result c.from_residual-in_err-rest-3.ensures.1 in
    rw (p.1, p.2) (lift_fault (mark m.CloseSquare) (row.squared c.args.depth c.args.place) _ _ c.in_err-rest-3.field-0.0 (λ o s q. square_items c.args.depth c.args.place c.args.tokens.now o c.in_default.ensures (sym c.starts_pair.ensures ∙ c.if-starts_pair.false) (seq (seq c.in_ok-items.ensures.parses ret) (stop o s q))) (c.in_err-rest-3.ensures.parses))

pub prims::squared-returns-clause-parses : goal.prims::squared-returns-clause-parses
prims::squared-returns-clause-parses t c = sees c.list-list.ensures (square_items c.args.depth c.args.place c.args.tokens.now _ c.in_default.ensures (sym c.starts_pair.ensures ∙ c.if-starts_pair.false) (seq (seq c.in_ok-items.ensures.parses ret) (seq c.in_ok-rest-3.ensures.parses ret)))

pub prims::maybe_items-returns-then-not-starts-clause-parses : goal.prims::maybe_items-returns-then-not-starts-clause-parses
prims::maybe_items-returns-then-not-starts-clause-parses t c = sees (ap view.views c.new-none.ensures.items) (maybe_not {c = no_start} (ap not (sym c.starts.ensures ∙ c.if-not-starts.true)) (fails (fails (expr_misses c.args.depth 0 c.args.tokens.now (ap not (sym c.starts.ensures ∙ c.if-not-starts.true))))))

pub prims::maybe_items-returns-clause-parses : goal.prims::maybe_items-returns-clause-parses
prims::maybe_items-returns-clause-parses t c = lifted (λ x. view.views x.0.items) (λ x. x.1.now) (row.ended_by_comma (rule (Expr c.args.depth 0))) (row.maybe (row.ended_by_comma (rule (Expr c.args.depth 0))) no_start) c.args.tokens.now c.args.tokens.now c.items.result (λ o p. maybe_is (ap not (sym c.starts.ensures ∙ c.if-not-starts.false)) p) c.items.ensures.parses

pub prims::items-returns-in_err-first-clause-parses : goal.prims::items-returns-in_err-first-clause-parses
prims::items-returns-in_err-first-clause-parses t c =
    let p = err_from_is_err_and c.from_residual.result c.from_residual.ensures.1 in
    rw (p.1, p.2) (lift_fault (rule (Expr c.args.depth 0)) (row.ended_by_comma (rule (Expr c.args.depth 0))) _ _ c.in_err-first.field-0.0 (λ o s q. stop o s (stop o s q)) (c.in_err-first.ensures.parses))

pub prims::items-loop-after-init : goal.prims::items-loop-after-init
prims::items-loop-after-init t c = (c.in_ok-first.ensures.shorter, (0, list_begins view.view items_end (rule (Expr c.args.depth 0)) c.new-all.result.items c.push.new.self.items c.in_ok-first.first c.in_ok-first.rest.now c.args.tokens.now c.new-all.ensures.items c.in_ok-push.ensures.items c.in_ok-first.ensures.parses))

pub prims::items-returns-then-is_some-clause-parses : goal.prims::items-returns-then-is_some-clause-parses
prims::items-returns-then-is_some-clause-parses t c =
    let close = mark_seen m.CloseSquare c.in-Some.after.now c.mark-in-Some.result c.mark-in-Some.ensures (sym c.is_some.ensures ∙ c.if-is_some.true) in
    last_comma c.loop-after.rest.now c.in-Some.after.now _ c.in-Some.ensures (rule (Expr c.args.depth 0)) c.loop-after.invariant.1.0 (view.trees (map view.view c.loop-after.all.items)) c.args.tokens.now close (no_item c.args.depth c.in-Some.after.now close) c.loop-after.invariant.1.1

pub prims::items-returns-in_err-next-clause-parses : goal.prims::items-returns-in_err-next-clause-parses
prims::items-returns-in_err-next-clause-parses t c =
    let p = err_from_is_err_and c.from_residual-in_err-next.result c.from_residual-in_err-next.ensures.1 in
    rw (p.1, p.2) (lift_fault (rule (Expr c.args.depth 0)) (row.ended_by_comma (rule (Expr c.args.depth 0))) _ _ c.in_err-next.field-0.0 (λ o s q. stop o s (list_stops view.view items_end (rule (Expr c.args.depth 0)) (listed items_end (rule (Expr c.args.depth 0))) c.loop-after.invariant.1.0 c.loop-after.all.items c.loop-after.rest.now c.in-Some.after.now c.args.tokens.now _ c.in-Some.ensures (goes_on c.loop-after.rest.now c.in-Some.after.now _ c.in-Some.ensures (isnt_there (λ x. tree.point x.0) (λ x. x.1.now) (mark_of m.CloseSquare) c.in-Some.after.now c.mark-in-Some.result c.mark-in-Some.ensures (sym c.is_some.ensures ∙ c.if-is_some.false))) c.loop-after.invariant.1.1 o s q)) (c.in_err-next.ensures.parses))

pub prims::items-loop-after-preserved : goal.prims::items-loop-after-preserved
prims::items-loop-after-preserved t c =
    let shorter = ap length c.in-Some.ensures.2 in
    (omega (arith, shorter, c.in_ok-next.ensures.shorter, c.loop-after.invariant.0), (suc c.loop-after.invariant.1.0, list_goes view.view items_end (rule (Expr c.args.depth 0)) (listed items_end (rule (Expr c.args.depth 0))) c.loop-after.invariant.1.0 c.loop-after.all.items c.push-in-Some.new.self.items c.in_ok-next.next c.loop-after.rest.now c.in-Some.after.now c.in_ok-next.after.now c.args.tokens.now _ c.in-Some.ensures (goes_on c.loop-after.rest.now c.in-Some.after.now _ c.in-Some.ensures (isnt_there (λ x. tree.point x.0) (λ x. x.1.now) (mark_of m.CloseSquare) c.in-Some.after.now c.mark-in-Some.result c.mark-in-Some.ensures (sym c.is_some.ensures ∙ c.if-is_some.false))) c.in_ok-push-2.ensures.items c.in_ok-next.ensures.parses c.loop-after.invariant.1.1))

pub prims::items-loop-after-smaller : goal.prims::items-loop-after-smaller
prims::items-loop-after-smaller t c = let shorter = ap length c.in-Some.ensures.2 in omega (arith, shorter, c.in_ok-next.ensures.shorter)

pub prims::items-returns-clause-parses : goal.prims::items-returns-clause-parses
prims::items-returns-clause-parses t c = listed_ends (rule (Expr c.args.depth 0)) c.loop-after.invariant.1.0 (view.trees (map view.view c.loop-after.all.items)) c.loop-after.rest.now c.args.tokens.now c.in_default.ensures c.loop-after.invariant.1.1

pub prims::pairs-returns-in_err-first-clause-parses : goal.prims::pairs-returns-in_err-first-clause-parses
prims::pairs-returns-in_err-first-clause-parses t c =
    let p = err_from_is_err_and c.from_residual.result c.from_residual.ensures.1 in
    rw (p.1, p.2) (lift_fault (rule (Pair c.args.depth)) (row.ended_by_comma (rule (Pair c.args.depth))) _ _ c.in_err-first.field-0.0 (λ o s q. stop o s (stop o s q)) (c.in_err-first.ensures.parses))

pub prims::pairs-loop-after-init : goal.prims::pairs-loop-after-init
prims::pairs-loop-after-init t c = (c.in_ok-first.ensures.shorter, (0, list_begins view.view_pair items_end (rule (Pair c.args.depth)) c.new-all.result.items c.push.new.self.items c.in_ok-first.first c.in_ok-first.rest.now c.args.tokens.now c.new-all.ensures.items c.in_ok-push.ensures.items c.in_ok-first.ensures.parses))

pub prims::pairs-returns-then-is_some-clause-parses : goal.prims::pairs-returns-then-is_some-clause-parses
prims::pairs-returns-then-is_some-clause-parses t c =
    let close = mark_seen m.CloseSquare c.in-Some.after.now c.mark-in-Some.result c.mark-in-Some.ensures (sym c.is_some.ensures ∙ c.if-is_some.true) in
    last_comma c.loop-after.rest.now c.in-Some.after.now _ c.in-Some.ensures (rule (Pair c.args.depth)) c.loop-after.invariant.1.0 (view.trees (map view.view_pair c.loop-after.all.items)) c.args.tokens.now close (no_pair c.args.depth c.in-Some.after.now close) c.loop-after.invariant.1.1

pub prims::pairs-returns-in_err-next-clause-parses : goal.prims::pairs-returns-in_err-next-clause-parses
prims::pairs-returns-in_err-next-clause-parses t c =
    let p = err_from_is_err_and c.from_residual-in_err-next.result c.from_residual-in_err-next.ensures.1 in
    rw (p.1, p.2) (lift_fault (rule (Pair c.args.depth)) (row.ended_by_comma (rule (Pair c.args.depth))) _ _ c.in_err-next.field-0.0 (λ o s q. stop o s (list_stops view.view_pair items_end (rule (Pair c.args.depth)) (listed items_end (rule (Pair c.args.depth))) c.loop-after.invariant.1.0 c.loop-after.all.items c.loop-after.rest.now c.in-Some.after.now c.args.tokens.now _ c.in-Some.ensures (goes_on c.loop-after.rest.now c.in-Some.after.now _ c.in-Some.ensures (isnt_there (λ x. tree.point x.0) (λ x. x.1.now) (mark_of m.CloseSquare) c.in-Some.after.now c.mark-in-Some.result c.mark-in-Some.ensures (sym c.is_some.ensures ∙ c.if-is_some.false))) c.loop-after.invariant.1.1 o s q)) (c.in_err-next.ensures.parses))

pub prims::pairs-loop-after-preserved : goal.prims::pairs-loop-after-preserved
prims::pairs-loop-after-preserved t c =
    let shorter = ap length c.in-Some.ensures.2 in
    (omega (arith, shorter, c.in_ok-next.ensures.shorter, c.loop-after.invariant.0), (suc c.loop-after.invariant.1.0, list_goes view.view_pair items_end (rule (Pair c.args.depth)) (listed items_end (rule (Pair c.args.depth))) c.loop-after.invariant.1.0 c.loop-after.all.items c.push-in-Some.new.self.items c.in_ok-next.next c.loop-after.rest.now c.in-Some.after.now c.in_ok-next.after.now c.args.tokens.now _ c.in-Some.ensures (goes_on c.loop-after.rest.now c.in-Some.after.now _ c.in-Some.ensures (isnt_there (λ x. tree.point x.0) (λ x. x.1.now) (mark_of m.CloseSquare) c.in-Some.after.now c.mark-in-Some.result c.mark-in-Some.ensures (sym c.is_some.ensures ∙ c.if-is_some.false))) c.in_ok-push-2.ensures.items c.in_ok-next.ensures.parses c.loop-after.invariant.1.1))

pub prims::pairs-loop-after-smaller : goal.prims::pairs-loop-after-smaller
prims::pairs-loop-after-smaller t c = let shorter = ap length c.in-Some.ensures.2 in omega (arith, shorter, c.in_ok-next.ensures.shorter)

pub prims::pairs-returns-clause-parses : goal.prims::pairs-returns-clause-parses
prims::pairs-returns-clause-parses t c = listed_ends (rule (Pair c.args.depth)) c.loop-after.invariant.1.0 (view.trees (map view.view_pair c.loop-after.all.items)) c.loop-after.rest.now c.args.tokens.now c.in_default.ensures c.loop-after.invariant.1.1

pub prims::pair-returns-in_err-key-clause-parses : goal.prims::pair-returns-in_err-key-clause-parses
unfolding row.rules
prims::pair-returns-in_err-key-clause-parses t c =
    let p = err_from_is_err_and c.from_residual.result c.from_residual.ensures.1 in
    rw (p.1, p.2) (lift_fault (row.key) (rule (Pair c.args.depth)) _ _ c.in_err-key.field-0.0 (λ o s q. ruled (stop o s q)) (c.in_err-key.ensures.parses))

pub prims::pair-returns-in_err-rest-clause-parses : goal.prims::pair-returns-in_err-rest-clause-parses
unfolding row.rules
prims::pair-returns-in_err-rest-clause-parses t c =
    let p = err_from_is_err_and c.from_residual-in_err-rest.result c.from_residual-in_err-rest.ensures.1 in
    rw (p.1, p.2) (lift_fault (mark m.Colon) (rule (Pair c.args.depth)) _ _ c.in_err-rest.field-0.0 (λ o s q. ruled (seq c.in_ok-key.ensures.parses (stop o s q))) (c.in_err-rest.ensures.parses))

pub prims::pair-returns-in_err-value-clause-parses : goal.prims::pair-returns-in_err-value-clause-parses
unfolding row.rules
prims::pair-returns-in_err-value-clause-parses t c =
    let p = err_from_is_err_and c.from_residual-in_err-value.result c.from_residual-in_err-value.ensures.1 in
    rw (p.1, p.2) (lift_fault (rule (Expr c.args.depth 0)) (rule (Pair c.args.depth)) _ _ c.in_err-value.field-0.0 (λ o s q. ruled (seq c.in_ok-key.ensures.parses (seq c.in_ok-rest.ensures.parses (stop o s q)))) (c.in_err-value.ensures.parses))

pub prims::pair-returns-clause-parses : goal.prims::pair-returns-clause-parses
unfolding row.rules
prims::pair-returns-clause-parses t c = sees c.new-pair.ensures (ruled (seq c.in_ok-key.ensures.parses (seq c.in_ok-rest.ensures.parses (seq c.in_ok-value.ensures.parses ret))))

pub closures::closure-returns-in_err-params-clause-parses : goal.closures::closure-returns-in_err-params-clause-parses
closures::closure-returns-in_err-params-clause-parses t c =
    let p = err_from_is_err_and c.from_residual.result c.from_residual.ensures.1 in
    rw (p.1, p.2) (lift_fault (row.parameters) (rule (Closure c.args.depth c.args.place)) _ _ c.in_err-params.field-0.0 (λ o s q. closure_stop c.args.depth c.args.place c.args.tokens.now o (sym c.begins_params.ensures ∙ c.if-begins_params.true) s q) (c.in_err-params.ensures.parses))

pub closures::closure-returns-then-begins_params-clause-parses : goal.closures::closure-returns-then-begins_params-clause-parses
closures::closure-returns-then-begins_params-clause-parses t c = lifted (λ x. view.view_closure x.0) (λ x. x.1.now) (row.closure_body c.args.depth c.args.place (view.params_tree (Some c.in_ok-params.params.items))) (rule (Closure c.args.depth c.args.place)) c.in_ok-params.rest.now c.args.tokens.now c.closed.result (λ o p. closure_got c.args.depth c.args.place c.args.tokens.now c.in_ok-params.rest.now (view.params_tree (Some c.in_ok-params.params.items)) o c.in_ok-params.ensures.parses p) c.closed.ensures.parses

pub closures::closure-returns-clause-parses : goal.closures::closure-returns-clause-parses
closures::closure-returns-clause-parses t c = lifted (λ x. view.view_closure x.0) (λ x. x.1.now) (row.closure_body c.args.depth c.args.place tree.empty) (rule (Closure c.args.depth c.args.place)) c.args.tokens.now c.args.tokens.now c.closed-2.result (λ o p. closure_plain c.args.depth c.args.place c.args.tokens.now o (sym c.begins_params.ensures ∙ c.if-begins_params.false) p) c.closed-2.ensures.parses

pub closures::closed-returns-in_err-labels-clause-parses : goal.closures::closed-returns-in_err-labels-clause-parses
closures::closed-returns-in_err-labels-clause-parses t c =
    let p = err_from_is_err_and c.from_residual.result c.from_residual.ensures.1 in
    rw (p.1, p.2) (lift_fault (row.some_labels c.args.depth) (row.closure_body c.args.depth c.args.place (view.params_tree (option_map (λ v. v.items) c.args.params))) _ _ c.in_err-labels.field-0.0 (λ o s q. stop o s (labelled_body c.args.depth c.args.tokens.now o (two_seen (λ x. tree.name x.0 x.1.now) (λ x. x.2.now) name_of colon labels c.args.tokens.now c.label.result (λ v us e. two_labels c.args.tokens.now us v e) c.label.ensures (sym c.is_some.ensures ∙ c.if-is_some.true)) (stop o s q))) (c.in_err-labels.ensures.parses))

pub closures::closed-returns-in_err-rest-clause-parses : goal.closures::closed-returns-in_err-rest-clause-parses
closures::closed-returns-in_err-rest-clause-parses t c =
    let p = err_from_is_err_and c.from_residual-in_err-rest.result c.from_residual-in_err-rest.ensures.1 in
    rw (p.1, p.2) (lift_fault (row.closes) (row.closure_body c.args.depth c.args.place (view.params_tree (option_map (λ v. v.items) c.args.params))) _ _ c.in_err-rest.field-0.0 (λ o s q. stop o s (labelled_body c.args.depth c.args.tokens.now o (two_seen (λ x. tree.name x.0 x.1.now) (λ x. x.2.now) name_of colon labels c.args.tokens.now c.label.result (λ v us e. two_labels c.args.tokens.now us v e) c.label.ensures (sym c.is_some.ensures ∙ c.if-is_some.true)) (seq c.in_ok-labels.ensures.parses (stop o s q)))) (c.in_err-rest.ensures.parses))

pub closures::closed-returns-then-is_some-clause-parses : goal.closures::closed-returns-then-is_some-clause-parses
closures::closed-returns-then-is_some-clause-parses t c = sees (c.new-closure.ensures ∙ ap (tree.closure c.args.place (view.params_tree (option_map (λ v. v.items) c.args.params))) c.labels-body.ensures) (seq (labelled_body c.args.depth c.args.tokens.now _ (two_seen (λ x. tree.name x.0 x.1.now) (λ x. x.2.now) name_of colon labels c.args.tokens.now c.label.result (λ v us e. two_labels c.args.tokens.now us v e) c.label.ensures (sym c.is_some.ensures ∙ c.if-is_some.true)) (seq c.in_ok-labels.ensures.parses (seq c.in_ok-rest.ensures.parses ret))) ret)

pub closures::closed-returns-in_err-body-clause-parses : goal.closures::closed-returns-in_err-body-clause-parses
closures::closed-returns-in_err-body-clause-parses t c =
    let p = err_from_is_err_and c.from_residual-in_err-body.result c.from_residual-in_err-body.ensures.1 in
    rw (p.1, p.2) (lift_fault (rule (Body c.args.depth)) (row.closure_body c.args.depth c.args.place (view.params_tree (option_map (λ v. v.items) c.args.params))) _ _ c.in_err-body.field-0.0 (λ o s q. stop o s (plain_body c.args.depth c.args.tokens.now o (two_unseen (λ x. tree.name x.0 x.1.now) (λ x. x.2.now) name_of colon labels c.args.tokens.now c.label.result c.label.ensures (sym c.is_some.ensures ∙ c.if-is_some.false)) (stop o s q))) (c.in_err-body.ensures.parses))

pub closures::closed-returns-in_err-rest-2-clause-parses : goal.closures::closed-returns-in_err-rest-2-clause-parses
closures::closed-returns-in_err-rest-2-clause-parses t c =
    let p = err_from_is_err_and c.from_residual-in_err-rest-2.result c.from_residual-in_err-rest-2.ensures.1 in
    rw (p.1, p.2) (lift_fault (row.closed (rule (Body c.args.depth))) (row.closure_body c.args.depth c.args.place (view.params_tree (option_map (λ v. v.items) c.args.params))) _ _ c.in_err-rest-2.field-0.0 (λ o s q. stop o s (plain_body c.args.depth c.args.tokens.now o (two_unseen (λ x. tree.name x.0 x.1.now) (λ x. x.2.now) name_of colon labels c.args.tokens.now c.label.result c.label.ensures (sym c.is_some.ensures ∙ c.if-is_some.false)) q)) (c.in_err-rest-2.ensures.parses (rule (Body c.args.depth)) c.args.tokens.now (view.view_stmts c.in_ok-body.body.items) c.in_ok-body.ensures.parses))

pub closures::closed-returns-clause-parses : goal.closures::closed-returns-clause-parses
closures::closed-returns-clause-parses t c = sees (c.new-closure-2.ensures ∙ ap (tree.closure c.args.place (view.params_tree (option_map (λ v. v.items) c.args.params))) c.statements-body.ensures) (seq (plain_body c.args.depth c.args.tokens.now _ (two_unseen (λ x. tree.name x.0 x.1.now) (λ x. x.2.now) name_of colon labels c.args.tokens.now c.label.result c.label.ensures (sym c.is_some.ensures ∙ c.if-is_some.false)) (c.in_ok-rest-2.ensures.parses (rule (Body c.args.depth)) c.args.tokens.now (view.view_stmts c.in_ok-body.body.items) c.in_ok-body.ensures.parses)) ret)

pub closures::labels-returns-in_err-first-clause-parses : goal.closures::labels-returns-in_err-first-clause-parses
closures::labels-returns-in_err-first-clause-parses t c =
    let p = err_from_is_err_and c.from_residual.result c.from_residual.ensures.1 in
    rw (p.1, p.2) (lift_fault (row.with_sep (row.label c.args.depth)) (row.some_labels c.args.depth) _ _ c.in_err-first.field-0.0 (λ o s q. stop o s q) (c.in_err-first.ensures.parses))

pub closures::labels-loop-alloc-init : goal.closures::labels-loop-alloc-init
closures::labels-loop-alloc-init t c = (c.in_ok-first.ensures.shorter, (0, labels_begin c.args.depth c.new-all.result.items c.push.new.self.items c.in_ok-first.first c.in_ok-first.rest.now c.args.tokens.now c.new-all.ensures.items c.in_ok-push.ensures.items c.in_ok-first.ensures.parses))

pub closures::labels-returns-in_err-next-clause-parses : goal.closures::labels-returns-in_err-next-clause-parses
closures::labels-returns-in_err-next-clause-parses t c =
    let p = err_from_is_err_and c.from_residual-in_err-next.result c.from_residual-in_err-next.ensures.1 in
    rw (p.1, p.2) (lift_fault (row.with_sep (row.label c.args.depth)) (row.some_labels c.args.depth) _ _ c.in_err-next.field-0.0 (λ o s q. row_stops view.view_label (no_next name_of) (row.with_sep (row.label c.args.depth)) (row.some_labels c.args.depth) c.loop-alloc.invariant.1.0 c.loop-alloc.all.items c.loop-alloc.rest.now c.args.tokens.now (goes_at (no_next name_of c.loop-alloc.rest.now) (sym c.is_name.ensures ∙ c.loop-alloc-test.true)) c.loop-alloc.invariant.1.1 o s q) (c.in_err-next.ensures.parses))

pub closures::labels-loop-alloc-preserved : goal.closures::labels-loop-alloc-preserved
closures::labels-loop-alloc-preserved t c = (omega (arith, c.loop-alloc.invariant.0, c.in_ok-next.ensures.shorter), (suc c.loop-alloc.invariant.1.0, row_goes view.view_label (no_next name_of) (row.with_sep (row.label c.args.depth)) (row.some_labels c.args.depth) c.loop-alloc.invariant.1.0 c.loop-alloc.all.items c.push-in-loop-alloc.new.self.items c.in_ok-next.next c.loop-alloc.rest.now c.in_ok-next.after.now c.args.tokens.now (goes_at (no_next name_of c.loop-alloc.rest.now) (sym c.is_name.ensures ∙ c.loop-alloc-test.true)) c.in_ok-push-2.ensures.items c.in_ok-next.ensures.parses c.loop-alloc.invariant.1.1))

pub closures::labels-returns-clause-parses : goal.closures::labels-returns-clause-parses
closures::labels-returns-clause-parses t c = c.loop-alloc.invariant.1.1 _ (stops (ends_at (no_next name_of c.loop-alloc.rest.now) (sym c.is_name.ensures ∙ c.loop-alloc-test.false)) (fails (fails (off (ends_at (no_next name_of c.loop-alloc.rest.now) (sym c.is_name.ensures ∙ c.loop-alloc-test.false))))))

pub closures::separated_label-returns-in_err-label-clause-parses : goal.closures::separated_label-returns-in_err-label-clause-parses
closures::separated_label-returns-in_err-label-clause-parses t c =
    let p = err_from_is_err_and c.from_residual.result c.from_residual.ensures.1 in
    rw (p.1, p.2) (lift_fault (row.label c.args.depth) (row.with_sep (row.label c.args.depth)) _ _ c.in_err-label.field-0.0 (λ o s q. stop o s q) (c.in_err-label.ensures.parses))

pub closures::separated_label-returns-in_err-rest-clause-parses : goal.closures::separated_label-returns-in_err-rest-clause-parses
closures::separated_label-returns-in_err-rest-clause-parses t c =
    let p = err_from_is_err_and c.from_residual-in_err-rest.result c.from_residual-in_err-rest.ensures.1 in
    rw (p.1, p.2) (lift_fault (row.sep) (row.with_sep (row.label c.args.depth)) _ _ c.in_err-rest.field-0.0 (λ o s q. seq c.in_ok-label.ensures.parses (stop o s q)) (c.in_err-rest.ensures.parses))

pub closures::separated_label-returns-clause-parses : goal.closures::separated_label-returns-clause-parses
closures::separated_label-returns-clause-parses t c = seq c.in_ok-label.ensures.parses (seq c.in_ok-rest.ensures.parses ret)

pub closures::label-returns-in_err-place-clause-parses : goal.closures::label-returns-in_err-place-clause-parses
closures::label-returns-in_err-place-clause-parses t c =
    let p = err_from_is_err_and c.from_residual.result c.from_residual.ensures.1 in
    rw (p.1, p.2) (lift_fault (kind name_of) (row.label c.args.depth) _ _ c.in_err-place.field-0.0 (λ o s q. stop o s q) (c.in_err-place.ensures.parses))

pub closures::label-returns-in_err-rest-clause-parses : goal.closures::label-returns-in_err-rest-clause-parses
closures::label-returns-in_err-rest-clause-parses t c =
    let p = err_from_is_err_and c.from_residual-in_err-rest.result c.from_residual-in_err-rest.ensures.1 in
    rw (p.1, p.2) (lift_fault (mark m.Colon) (row.label c.args.depth) _ _ c.in_err-rest.field-0.0 (λ o s q. seq c.in_ok-place.ensures.parses (stop o s q)) (c.in_err-rest.ensures.parses))

pub closures::label-returns-in_err-value-clause-parses : goal.closures::label-returns-in_err-value-clause-parses
closures::label-returns-in_err-value-clause-parses t c =
    let p = err_from_is_err_and c.from_residual-in_err-value.result c.from_residual-in_err-value.ensures.1 in
    rw (p.1, p.2) (lift_fault (rule (Expr c.args.depth 0)) (row.label c.args.depth) _ _ c.in_err-value.field-0.0 (λ o s q. seq c.in_ok-place.ensures.parses (seq c.in_ok-rest.ensures.parses (stop o s q))) (c.in_err-value.ensures.parses))

pub closures::label-returns-clause-parses : goal.closures::label-returns-clause-parses
closures::label-returns-clause-parses t c = sees (c.new-label.ensures ∙ ap (λ (x : List ℕ). tree.label (tree.name c.in_ok-place.place x) (view.view c.in_ok-value.value)) c.in_ok-copy.ensures) (seq c.in_ok-place.ensures.parses (seq c.in_ok-rest.ensures.parses (seq c.in_ok-value.ensures.parses ret)))

pub stmts::body-loop-alloc-init : goal.stmts::body-loop-alloc-init
stmts::body-loop-alloc-init t c = (omega arith, (0, body_begin c.args.depth c.args.tokens.now c.new-all.result.items c.new-all.ensures.items))

pub stmts::body-returns-in_err-next-clause-parses : goal.stmts::body-returns-in_err-next-clause-parses
stmts::body-returns-in_err-next-clause-parses t c =
    let p = err_from_is_err_and c.from_residual.result c.from_residual.ensures.1 in
    rw (p.1, p.2) (lift_fault (row.with_sep (rule (Stmt c.args.depth))) (rule (Body c.args.depth)) _ _ c.in_err-next.field-0.0 (λ o s q. row_stops view.view_stmt body_ends (row.with_sep (rule (Stmt c.args.depth))) (rule (Body c.args.depth)) c.loop-alloc.invariant.1.0 c.loop-alloc.all.items c.loop-alloc.rest.now c.args.tokens.now (goes_at (body_ends c.loop-alloc.rest.now) (sym c.starts_stmt.ensures ∙ c.loop-alloc-test.true)) c.loop-alloc.invariant.1.1 o s q) (c.in_err-next.ensures.parses))

pub stmts::body-loop-alloc-preserved : goal.stmts::body-loop-alloc-preserved
stmts::body-loop-alloc-preserved t c = (omega (arith, c.loop-alloc.invariant.0, c.in_ok-next.ensures.shorter), (suc c.loop-alloc.invariant.1.0, row_goes view.view_stmt body_ends (row.with_sep (rule (Stmt c.args.depth))) (rule (Body c.args.depth)) c.loop-alloc.invariant.1.0 c.loop-alloc.all.items c.push.new.self.items c.in_ok-next.next c.loop-alloc.rest.now c.in_ok-next.after.now c.args.tokens.now (goes_at (body_ends c.loop-alloc.rest.now) (sym c.starts_stmt.ensures ∙ c.loop-alloc-test.true)) c.in_ok-push.ensures.items c.in_ok-next.ensures.parses c.loop-alloc.invariant.1.1))

pub stmts::body-returns-clause-parses : goal.stmts::body-returns-clause-parses
stmts::body-returns-clause-parses t c = body_ends_here c.args.depth c.loop-alloc.invariant.1.0 (view.view_stmts c.loop-alloc.all.items) c.loop-alloc.rest.now c.args.tokens.now (ends_at (body_ends c.loop-alloc.rest.now) (sym c.starts_stmt.ensures ∙ c.loop-alloc-test.false)) c.loop-alloc.invariant.1.1

pub stmts::block-returns-in_err-rest-clause-parses : goal.stmts::block-returns-in_err-rest-clause-parses
stmts::block-returns-in_err-rest-clause-parses t c =
    let p = err_from_is_err_and c.from_residual.result c.from_residual.ensures.1 in
    rw (p.1, p.2) (lift_fault (row.opens c.args.depth m.OpenBrace) (row.block c.args.depth) _ _ c.in_err-rest.field-0.0 (λ o s q. stop o s (stop o s q)) (c.in_err-rest.ensures.parses))

pub stmts::block-returns-in_err-all-clause-parses : goal.stmts::block-returns-in_err-all-clause-parses
stmts::block-returns-in_err-all-clause-parses t c =
    let p = err_from_is_err_and c.from_residual-in_err-all.result c.from_residual-in_err-all.ensures.1 in
    rw (p.1, p.2) (lift_fault (rule (Body (c.args.depth + 1))) (row.block c.args.depth) _ _ c.in_err-all.field-0.0 (λ o s q. stop o s (seq c.in_ok-rest.ensures.parses (stop o s (deeper (λ x. rule (Body x)) c.args.depth q)))) (c.in_err-all.ensures.parses))

pub stmts::block-returns-in_err-rest-2-clause-parses : goal.stmts::block-returns-in_err-rest-2-clause-parses
stmts::block-returns-in_err-rest-2-clause-parses t c =
    let p = err_from_is_err_and c.from_residual-in_err-rest-2.result c.from_residual-in_err-rest-2.ensures.1 in
    rw (p.1, p.2) (lift_fault (row.closed (rule (Body (c.args.depth + 1)))) (row.block c.args.depth) _ _ c.in_err-rest-2.field-0.0 (λ o s q. stop o s (seq c.in_ok-rest.ensures.parses (deeper (λ x. row.closed (rule (Body x))) c.args.depth q))) (c.in_err-rest-2.ensures.parses (rule (Body (c.args.depth + 1))) c.in_ok-rest.rest.now (view.view_stmts c.in_ok-all.all.items) c.in_ok-all.ensures.parses))

pub stmts::block-returns-clause-parses : goal.stmts::block-returns-clause-parses
stmts::block-returns-clause-parses t c = seq (seq c.in_ok-rest.ensures.parses (deeper (λ x. row.closed (rule (Body x))) c.args.depth (c.in_ok-rest-2.ensures.parses (rule (Body (c.args.depth + 1))) c.in_ok-rest.rest.now (view.view_stmts c.in_ok-all.all.items) c.in_ok-all.ensures.parses))) ret

pub stmts::separated-returns-in_err-stmt-clause-parses : goal.stmts::separated-returns-in_err-stmt-clause-parses
stmts::separated-returns-in_err-stmt-clause-parses t c =
    let p = err_from_is_err_and c.from_residual.result c.from_residual.ensures.1 in
    rw (p.1, p.2) c.in_err-stmt.ensures.parses

pub stmts::separated-returns-in_err-rest-clause-parses : goal.stmts::separated-returns-in_err-rest-clause-parses
stmts::separated-returns-in_err-rest-clause-parses t c =
    let p = err_from_is_err_and c.from_residual-in_err-rest.result c.from_residual-in_err-rest.ensures.1 in
    rw (p.1, p.2) (lift_fault row.sep (row.with_sep (rule (Stmt c.args.depth))) _ _ c.in_err-rest.field-0.0 (λ o s q. c.in_ok-stmt.ensures.parses o (stop o s q)) c.in_err-rest.ensures.parses)

pub stmts::separated-returns-clause-parses : goal.stmts::separated-returns-clause-parses
stmts::separated-returns-clause-parses t c = c.in_ok-stmt.ensures.parses _ (seq c.in_ok-rest.ensures.parses ret)

pub stmts::stmt-returns-then-is_some-clause-parses : goal.stmts::stmt-returns-then-is_some-clause-parses
stmts::stmt-returns-then-is_some-clause-parses t c = then_sep (λ x. view.view_stmt x.0) (λ x. x.1.now) c.args.depth (row.defines c.args.depth) c.args.tokens.now c.defined.result (λ o p. (let w = (keyword_seen k.Def c.args.tokens.now c.keyword.result c.keyword.ensures (sym c.is_some.ensures ∙ c.if-is_some.true)) in stmt_def c.args.depth c.args.tokens.now w.rest w.place o w.takes p)) c.defined.ensures.parses

pub stmts::stmt-returns-then-is_some-2-clause-parses : goal.stmts::stmt-returns-then-is_some-2-clause-parses
stmts::stmt-returns-then-is_some-2-clause-parses t c = then_sep (λ x. view.view_stmt x.0) (λ x. x.1.now) c.args.depth (row.returned c.args.depth) c.args.tokens.now c.returned.result (λ o p. (let w = (keyword_seen k.Return c.args.tokens.now c.keyword-2.result c.keyword-2.ensures (sym c.is_some-2.ensures ∙ c.if-is_some-2.true)) in stmt_return c.args.depth c.args.tokens.now w.rest w.place o w.takes p)) c.returned.ensures.parses

pub stmts::stmt-returns-then-is_some-3-clause-parses : goal.stmts::stmt-returns-then-is_some-3-clause-parses
stmts::stmt-returns-then-is_some-3-clause-parses t c = then_sep (λ x. view.view_stmt x.0) (λ x. x.1.now) c.args.depth (rule (Choice c.args.depth 1)) c.args.tokens.now c.choice.result (λ o p. (let w = (keyword_seen k.If c.args.tokens.now c.keyword-3.result c.keyword-3.ensures (sym c.is_some-3.ensures ∙ c.if-is_some-3.true)) in stmt_if c.args.depth c.args.tokens.now w.rest w.place o w.takes p)) c.choice.ensures.parses

pub stmts::stmt-returns-then-is_some-4-clause-parses : goal.stmts::stmt-returns-then-is_some-4-clause-parses
stmts::stmt-returns-then-is_some-4-clause-parses t c = then_assigned (λ x. view.view_stmt x.0) (λ x. x.1.now) c.args.depth c.args.tokens.now c.assigned-then-is_some-4.result (two_seen (λ x. tree.name x.0 x.1.now) (λ x. x.2.now) name_of (mark_of m.Equals) assigns c.args.tokens.now c.assigned.result (λ v us e. two_assigns c.args.tokens.now us v e) c.assigned.ensures (sym c.is_some-4.ensures ∙ c.if-is_some-4.true)) c.assigned-then-is_some-4.ensures.parses

pub stmts::stmt-returns-then-prints-clause-parses : goal.stmts::stmt-returns-then-prints-clause-parses
stmts::stmt-returns-then-prints-clause-parses t c = then_sep (λ x. view.view_stmt x.0) (λ x. x.1.now) c.args.depth (row.print c.args.depth) c.args.tokens.now c.printed.result (λ o p. stmt_printed c.args.depth c.args.tokens.now o (two_unseen (λ x. tree.name x.0 x.1.now) (λ x. x.2.now) name_of (mark_of m.Equals) assigns c.args.tokens.now c.assigned.result c.assigned.ensures (sym c.is_some-4.ensures ∙ c.if-is_some-4.false)) (sym c.prints.ensures ∙ c.if-prints.true) p) c.printed.ensures.parses

pub stmts::stmt-returns-then-logs-clause-parses : goal.stmts::stmt-returns-then-logs-clause-parses
stmts::stmt-returns-then-logs-clause-parses t c = then_sep (λ x. view.view_stmt x.0) (λ x. x.1.now) c.args.depth (row.log c.args.depth) c.args.tokens.now c.logged.result (λ o p. stmt_logged c.args.depth c.args.tokens.now o (two_unseen (λ x. tree.name x.0 x.1.now) (λ x. x.2.now) name_of (mark_of m.Equals) assigns c.args.tokens.now c.assigned.result c.assigned.ensures (sym c.is_some-4.ensures ∙ c.if-is_some-4.false)) (sym c.logs.ensures ∙ c.if-logs.true) p) c.logged.ensures.parses

pub stmts::stmt-returns-in_err-expr-clause-parses : goal.stmts::stmt-returns-in_err-expr-clause-parses
stmts::stmt-returns-in_err-expr-clause-parses t c =
    let p = err_from_is_err_and c.from_residual.result c.from_residual.ensures.1 in
    rw (p.1, p.2) (lift_fault (rule (Expr c.args.depth 0)) (row.with_sep (rule (Stmt c.args.depth))) _ _ c.in_err-expr.field-0.0 (λ o s q. stop o s (stmt_alone c.args.depth c.args.tokens.now o (isnt_there (λ x. tree.point x.0) (λ x. x.1.now) (keyword_of k.Def) c.args.tokens.now c.keyword.result c.keyword.ensures (sym c.is_some.ensures ∙ c.if-is_some.false)) (isnt_there (λ x. tree.point x.0) (λ x. x.1.now) (keyword_of k.Return) c.args.tokens.now c.keyword-2.result c.keyword-2.ensures (sym c.is_some-2.ensures ∙ c.if-is_some-2.false)) (isnt_there (λ x. tree.point x.0) (λ x. x.1.now) (keyword_of k.If) c.args.tokens.now c.keyword-3.result c.keyword-3.ensures (sym c.is_some-3.ensures ∙ c.if-is_some-3.false)) (two_unseen (λ x. tree.name x.0 x.1.now) (λ x. x.2.now) name_of (mark_of m.Equals) assigns c.args.tokens.now c.assigned.result c.assigned.ensures (sym c.is_some-4.ensures ∙ c.if-is_some-4.false)) (sym c.prints.ensures ∙ c.if-prints.false) (sym c.logs.ensures ∙ c.if-logs.false) q)) c.in_err-expr.ensures.parses)

pub stmts::stmt-returns-clause-parses : goal.stmts::stmt-returns-clause-parses
stmts::stmt-returns-clause-parses t c = λ o q. seq (stmt_alone c.args.depth c.args.tokens.now (got (view.view c.in_ok-expr.expr) c.in_ok-expr.rest.now (length c.in_ok-expr.rest.now)) (isnt_there (λ x. tree.point x.0) (λ x. x.1.now) (keyword_of k.Def) c.args.tokens.now c.keyword.result c.keyword.ensures (sym c.is_some.ensures ∙ c.if-is_some.false)) (isnt_there (λ x. tree.point x.0) (λ x. x.1.now) (keyword_of k.Return) c.args.tokens.now c.keyword-2.result c.keyword-2.ensures (sym c.is_some-2.ensures ∙ c.if-is_some-2.false)) (isnt_there (λ x. tree.point x.0) (λ x. x.1.now) (keyword_of k.If) c.args.tokens.now c.keyword-3.result c.keyword-3.ensures (sym c.is_some-3.ensures ∙ c.if-is_some-3.false)) (two_unseen (λ x. tree.name x.0 x.1.now) (λ x. x.2.now) name_of (mark_of m.Equals) assigns c.args.tokens.now c.assigned.result c.assigned.ensures (sym c.is_some-4.ensures ∙ c.if-is_some-4.false)) (sym c.prints.ensures ∙ c.if-prints.false) (sym c.logs.ensures ∙ c.if-logs.false) c.in_ok-expr.ensures.parses) (subst (λ v. Outcome (row.sep >>= λ s. gives v) c.in_ok-expr.rest.now o) c.expr-stmt.ensures q)

pub stmts::defined-returns-in_err-place-clause-parses : goal.stmts::defined-returns-in_err-place-clause-parses
stmts::defined-returns-in_err-place-clause-parses t c =
    let p = err_from_is_err_and c.from_residual.result c.from_residual.ensures.1 in
    rw (p.1, p.2) (lift_fault (kind (keyword_of k.Def)) (row.defines c.args.depth) _ _ c.in_err-place.field-0.0 (λ o s q. def_not c.args.depth c.args.tokens.now o s q) (c.in_err-place.ensures.parses))

pub stmts::defined-returns-in_err-rest-clause-parses : goal.stmts::defined-returns-in_err-rest-clause-parses
stmts::defined-returns-in_err-rest-clause-parses t c =
    let p = err_from_is_err_and c.from_residual-in_err-rest.result c.from_residual-in_err-rest.ensures.1 in
    rw (p.1, p.2) (lift_fault (row.opens c.args.depth m.OpenRound) (row.defines c.args.depth) _ _ c.in_err-rest.field-0.0 (λ o s q. defines_all c.args.depth c.args.tokens.now c.in_ok-place.rest.now c.in_ok-place.place o c.in_ok-place.ensures.parses (mark_seen m.OpenRound c.in_ok-place.rest.now c.mark.result c.mark.ensures (sym c.is_some.ensures ∙ c.if-is_some.true)) (seq c.in_ok-place.ensures.parses (stop o s (stop o s q)))) (c.in_err-rest.ensures.parses))

pub stmts::defined-returns-in_err-names-clause-parses : goal.stmts::defined-returns-in_err-names-clause-parses
stmts::defined-returns-in_err-names-clause-parses t c =
    let p = err_from_is_err_and c.from_residual-in_err-names.result c.from_residual-in_err-names.ensures.1 in
    rw (p.1, p.2) (lift_fault (row.names) (row.defines c.args.depth) _ _ c.in_err-names.field-0.0 (λ o s q. defines_all c.args.depth c.args.tokens.now c.in_ok-place.rest.now c.in_ok-place.place o c.in_ok-place.ensures.parses (mark_seen m.OpenRound c.in_ok-place.rest.now c.mark.result c.mark.ensures (sym c.is_some.ensures ∙ c.if-is_some.true)) (seq c.in_ok-place.ensures.parses (stop o s (seq c.in_ok-rest.ensures.parses (stop o s q))))) (c.in_err-names.ensures.parses))

pub stmts::defined-returns-in_err-rest-2-clause-parses : goal.stmts::defined-returns-in_err-rest-2-clause-parses
stmts::defined-returns-in_err-rest-2-clause-parses t c =
    let p = err_from_is_err_and c.from_residual-in_err-rest-2.result c.from_residual-in_err-rest-2.ensures.1 in
    rw (p.1, p.2) (lift_fault (mark m.CloseRound) (row.defines c.args.depth) _ _ c.in_err-rest-2.field-0.0 (λ o s q. defines_all c.args.depth c.args.tokens.now c.in_ok-place.rest.now c.in_ok-place.place o c.in_ok-place.ensures.parses (mark_seen m.OpenRound c.in_ok-place.rest.now c.mark.result c.mark.ensures (sym c.is_some.ensures ∙ c.if-is_some.true)) (seq c.in_ok-place.ensures.parses (stop o s (seq c.in_ok-rest.ensures.parses (seq c.in_ok-names.ensures.parses (stop o s q)))))) (c.in_err-rest-2.ensures.parses))

pub stmts::defined-returns-in_err-rest-3-clause-parses : goal.stmts::defined-returns-in_err-rest-3-clause-parses
stmts::defined-returns-in_err-rest-3-clause-parses t c =
    let p = err_from_is_err_and c.from_residual-in_err-rest-3.result c.from_residual-in_err-rest-3.ensures.1 in
    rw (p.1, p.2) (lift_fault (mark m.Equals) (row.defines c.args.depth) _ _ c.in_err-rest-3.field-0.0 (λ o s q. defines_all c.args.depth c.args.tokens.now c.in_ok-place.rest.now c.in_ok-place.place o c.in_ok-place.ensures.parses (mark_seen m.OpenRound c.in_ok-place.rest.now c.mark.result c.mark.ensures (sym c.is_some.ensures ∙ c.if-is_some.true)) (seq c.in_ok-place.ensures.parses (seq (seq c.in_ok-rest.ensures.parses (seq c.in_ok-names.ensures.parses (seq c.in_ok-rest-2.ensures.parses ret))) (stop o s q)))) (c.in_err-rest-3.ensures.parses))

pub stmts::defined-returns-in_err-value-clause-parses : goal.stmts::defined-returns-in_err-value-clause-parses
stmts::defined-returns-in_err-value-clause-parses t c =
    let p = err_from_is_err_and c.from_residual-in_err-value.result c.from_residual-in_err-value.ensures.1 in
    rw (p.1, p.2) (lift_fault (rule (Expr c.args.depth 0)) (row.defines c.args.depth) _ _ c.in_err-value.field-0.0 (λ o s q. defines_all c.args.depth c.args.tokens.now c.in_ok-place.rest.now c.in_ok-place.place o c.in_ok-place.ensures.parses (mark_seen m.OpenRound c.in_ok-place.rest.now c.mark.result c.mark.ensures (sym c.is_some.ensures ∙ c.if-is_some.true)) (seq c.in_ok-place.ensures.parses (seq (seq c.in_ok-rest.ensures.parses (seq c.in_ok-names.ensures.parses (seq c.in_ok-rest-2.ensures.parses ret))) (seq c.in_ok-rest-3.ensures.parses (stop o s q))))) (c.in_err-value.ensures.parses))

pub stmts::defined-returns-then-is_some-clause-parses : goal.stmts::defined-returns-then-is_some-clause-parses
stmts::defined-returns-then-is_some-clause-parses t c = sees c.define_all-stmt.ensures (defines_all c.args.depth c.args.tokens.now c.in_ok-place.rest.now c.in_ok-place.place _ c.in_ok-place.ensures.parses (mark_seen m.OpenRound c.in_ok-place.rest.now c.mark.result c.mark.ensures (sym c.is_some.ensures ∙ c.if-is_some.true)) (seq c.in_ok-place.ensures.parses (seq (seq c.in_ok-rest.ensures.parses (seq c.in_ok-names.ensures.parses (seq c.in_ok-rest-2.ensures.parses ret))) (seq c.in_ok-rest-3.ensures.parses (seq c.in_ok-value.ensures.parses ret)))))

pub stmts::defined-returns-in_err-name_place-clause-parses : goal.stmts::defined-returns-in_err-name_place-clause-parses
stmts::defined-returns-in_err-name_place-clause-parses t c =
    let p = err_from_is_err_and c.from_residual-in_err-name_place.result c.from_residual-in_err-name_place.ensures.1 in
    rw (p.1, p.2) (lift_fault (kind name_of) (row.defines c.args.depth) _ _ c.in_err-name_place.field-0.0 (λ o s q. defines_one c.args.depth c.args.tokens.now c.in_ok-place.rest.now c.in_ok-place.place o c.in_ok-place.ensures.parses (isnt_there (λ x. tree.point x.0) (λ x. x.1.now) (mark_of m.OpenRound) c.in_ok-place.rest.now c.mark.result c.mark.ensures (sym c.is_some.ensures ∙ c.if-is_some.false)) (seq c.in_ok-place.ensures.parses (stop o s q))) (c.in_err-name_place.ensures.parses))

pub stmts::defined-returns-in_err-rest-4-clause-parses : goal.stmts::defined-returns-in_err-rest-4-clause-parses
stmts::defined-returns-in_err-rest-4-clause-parses t c =
    let p = err_from_is_err_and c.from_residual-in_err-rest-4.result c.from_residual-in_err-rest-4.ensures.1 in
    rw (p.1, p.2) (lift_fault (mark m.Equals) (row.defines c.args.depth) _ _ c.in_err-rest-4.field-0.0 (λ o s q. defines_one c.args.depth c.args.tokens.now c.in_ok-place.rest.now c.in_ok-place.place o c.in_ok-place.ensures.parses (isnt_there (λ x. tree.point x.0) (λ x. x.1.now) (mark_of m.OpenRound) c.in_ok-place.rest.now c.mark.result c.mark.ensures (sym c.is_some.ensures ∙ c.if-is_some.false)) (seq c.in_ok-place.ensures.parses (seq c.in_ok-name_place.ensures.parses (stop o s q)))) (c.in_err-rest-4.ensures.parses))

pub stmts::defined-returns-in_err-value-2-clause-parses : goal.stmts::defined-returns-in_err-value-2-clause-parses
stmts::defined-returns-in_err-value-2-clause-parses t c =
    let p = err_from_is_err_and c.from_residual-in_err-value-2.result c.from_residual-in_err-value-2.ensures.1 in
    rw (p.1, p.2) (lift_fault (rule (Expr c.args.depth 0)) (row.defines c.args.depth) _ _ c.in_err-value-2.field-0.0 (λ o s q. defines_one c.args.depth c.args.tokens.now c.in_ok-place.rest.now c.in_ok-place.place o c.in_ok-place.ensures.parses (isnt_there (λ x. tree.point x.0) (λ x. x.1.now) (mark_of m.OpenRound) c.in_ok-place.rest.now c.mark.result c.mark.ensures (sym c.is_some.ensures ∙ c.if-is_some.false)) (seq c.in_ok-place.ensures.parses (seq c.in_ok-name_place.ensures.parses (seq c.in_ok-rest-4.ensures.parses (stop o s q))))) (c.in_err-value-2.ensures.parses))

pub stmts::defined-returns-clause-parses : goal.stmts::defined-returns-clause-parses
stmts::defined-returns-clause-parses t c = sees (c.define-stmt.ensures ∙ ap (λ (x : List ℕ). tree.define c.in_ok-place.place (tree.name c.in_ok-name_place.name_place x) (view.view c.in_ok-value-2.value)) c.in_ok-copy.ensures) (defines_one c.args.depth c.args.tokens.now c.in_ok-place.rest.now c.in_ok-place.place _ c.in_ok-place.ensures.parses (isnt_there (λ x. tree.point x.0) (λ x. x.1.now) (mark_of m.OpenRound) c.in_ok-place.rest.now c.mark.result c.mark.ensures (sym c.is_some.ensures ∙ c.if-is_some.false)) (seq c.in_ok-place.ensures.parses (seq c.in_ok-name_place.ensures.parses (seq c.in_ok-rest-4.ensures.parses (seq c.in_ok-value-2.ensures.parses ret)))))

pub stmts::assigned-returns-in_err-place-clause-parses : goal.stmts::assigned-returns-in_err-place-clause-parses
stmts::assigned-returns-in_err-place-clause-parses t c =
    let p = err_from_is_err_and c.from_residual.result c.from_residual.ensures.1 in
    rw (p.1, p.2) (lift_fault (kind name_of) (row.assigned c.args.depth) _ _ c.in_err-place.field-0.0 (λ o s q. stop o s q) (c.in_err-place.ensures.parses))

pub stmts::assigned-returns-in_err-rest-clause-parses : goal.stmts::assigned-returns-in_err-rest-clause-parses
stmts::assigned-returns-in_err-rest-clause-parses t c =
    let p = err_from_is_err_and c.from_residual-in_err-rest.result c.from_residual-in_err-rest.ensures.1 in
    rw (p.1, p.2) (lift_fault (mark m.Equals) (row.assigned c.args.depth) _ _ c.in_err-rest.field-0.0 (λ o s q. seq c.in_ok-place.ensures.parses (stop o s q)) (c.in_err-rest.ensures.parses))

pub stmts::assigned-returns-in_err-value-clause-parses : goal.stmts::assigned-returns-in_err-value-clause-parses
stmts::assigned-returns-in_err-value-clause-parses t c =
    let p = err_from_is_err_and c.from_residual-in_err-value.result c.from_residual-in_err-value.ensures.1 in
    rw (p.1, p.2) (lift_fault (rule (Expr c.args.depth 0)) (row.assigned c.args.depth) _ _ c.in_err-value.field-0.0 (λ o s q. seq c.in_ok-place.ensures.parses (seq c.in_ok-rest.ensures.parses (stop o s q))) (c.in_err-value.ensures.parses))

pub stmts::assigned-returns-clause-parses : goal.stmts::assigned-returns-clause-parses
stmts::assigned-returns-clause-parses t c = sees (c.assign-stmt.ensures ∙ ap (λ (x : List ℕ). tree.assign (tree.name c.in_ok-place.place x) (view.view c.in_ok-value.value)) c.in_ok-copy.ensures) (seq c.in_ok-place.ensures.parses (seq c.in_ok-rest.ensures.parses (seq c.in_ok-value.ensures.parses ret)))

pub stmts::returned-returns-in_err-place-clause-parses : goal.stmts::returned-returns-in_err-place-clause-parses
stmts::returned-returns-in_err-place-clause-parses t c =
    let p = err_from_is_err_and c.from_residual.result c.from_residual.ensures.1 in
    rw (p.1, p.2) (lift_fault (kind (keyword_of k.Return)) (row.returned c.args.depth) _ _ c.in_err-place.field-0.0 (λ o s q. stop o s q) (c.in_err-place.ensures.parses))

pub stmts::returned-returns-in_err-value-clause-parses : goal.stmts::returned-returns-in_err-value-clause-parses
stmts::returned-returns-in_err-value-clause-parses t c =
    let p = err_from_is_err_and c.from_residual-in_err-value.result c.from_residual-in_err-value.ensures.1 in
    rw (p.1, p.2) (lift_fault (rule (Expr c.args.depth 0)) (row.returned c.args.depth) _ _ c.in_err-value.field-0.0 (λ o s q. seq c.in_ok-place.ensures.parses (stop o s q)) (c.in_err-value.ensures.parses))

pub stmts::returned-returns-clause-parses : goal.stmts::returned-returns-clause-parses
stmts::returned-returns-clause-parses t c = sees c.returns-stmt.ensures (seq c.in_ok-place.ensures.parses (seq c.in_ok-value.ensures.parses ret))

pub stmts::printed-returns-in_err-place-clause-parses : goal.stmts::printed-returns-in_err-place-clause-parses
stmts::printed-returns-in_err-place-clause-parses t c =
    let p = err_from_is_err_and c.from_residual.result c.from_residual.ensures.1 in
    rw (p.1, p.2) (lift_fault (row.word (codes "println")) (row.print c.args.depth) _ _ c.in_err-place.field-0.0 (λ o s q. stop o s q) (c.in_err-place.ensures.parses))

pub stmts::printed-returns-in_err-value-clause-parses : goal.stmts::printed-returns-in_err-value-clause-parses
stmts::printed-returns-in_err-value-clause-parses t c =
    let p = err_from_is_err_and c.from_residual-in_err-value.result c.from_residual-in_err-value.ensures.1 in
    rw (p.1, p.2) (lift_fault (rule (Expr c.args.depth 0)) (row.print c.args.depth) _ _ c.in_err-value.field-0.0 (λ o s q. seq c.in_ok-place.ensures.parses (stop o s q)) (c.in_err-value.ensures.parses))

pub stmts::printed-returns-clause-parses : goal.stmts::printed-returns-clause-parses
stmts::printed-returns-clause-parses t c = sees c.println-stmt.ensures (seq c.in_ok-place.ensures.parses (seq c.in_ok-value.ensures.parses ret))

pub stmts::logged-returns-in_err-place-clause-parses : goal.stmts::logged-returns-in_err-place-clause-parses
stmts::logged-returns-in_err-place-clause-parses t c =
    let p = err_from_is_err_and c.from_residual.result c.from_residual.ensures.1 in
    rw (p.1, p.2) (lift_fault (row.word (codes "log")) (row.log c.args.depth) _ _ c.in_err-place.field-0.0 (λ o s q. stop o s q) (c.in_err-place.ensures.parses))

pub stmts::logged-returns-in_err-rest-clause-parses : goal.stmts::logged-returns-in_err-rest-clause-parses
stmts::logged-returns-in_err-rest-clause-parses t c =
    let p = err_from_is_err_and c.from_residual-in_err-rest.result c.from_residual-in_err-rest.ensures.1 in
    rw (p.1, p.2) (lift_fault (mark m.Dot) (row.log c.args.depth) _ _ c.in_err-rest.field-0.0 (λ o s q. seq c.in_ok-place.ensures.parses (stop o s q)) (c.in_err-rest.ensures.parses))

pub stmts::logged-returns-in_err-name_place-clause-parses : goal.stmts::logged-returns-in_err-name_place-clause-parses
stmts::logged-returns-in_err-name_place-clause-parses t c =
    let p = err_from_is_err_and c.from_residual-in_err-name_place.result c.from_residual-in_err-name_place.ensures.1 in
    rw (p.1, p.2) (lift_fault (kind name_of) (row.log c.args.depth) _ _ c.in_err-name_place.field-0.0 (λ o s q. seq c.in_ok-place.ensures.parses (seq c.in_ok-rest.ensures.parses (stop o s q))) (c.in_err-name_place.ensures.parses))

pub stmts::logged-returns-in_err-value-clause-parses : goal.stmts::logged-returns-in_err-value-clause-parses
stmts::logged-returns-in_err-value-clause-parses t c =
    let p = err_from_is_err_and c.from_residual-in_err-value.result c.from_residual-in_err-value.ensures.1 in
    rw (p.1, p.2) (lift_fault (rule (Expr c.args.depth 0)) (row.log c.args.depth) _ _ c.in_err-value.field-0.0 (λ o s q. seq c.in_ok-place.ensures.parses (seq c.in_ok-rest.ensures.parses (seq c.in_ok-name_place.ensures.parses (stop o s q)))) (c.in_err-value.ensures.parses))

pub stmts::logged-returns-clause-parses : goal.stmts::logged-returns-clause-parses
stmts::logged-returns-clause-parses t c = sees (c.log-stmt.ensures ∙ ap (λ (x : List ℕ). tree.log c.in_ok-place.place (tree.name c.in_ok-name_place.name_place x) (view.view c.in_ok-value.value)) c.in_ok-copy.ensures) (seq c.in_ok-place.ensures.parses (seq c.in_ok-rest.ensures.parses (seq c.in_ok-name_place.ensures.parses (seq c.in_ok-value.ensures.parses ret))))

pub stmts::choice-returns-in_err-first-clause-parses : goal.stmts::choice-returns-in_err-first-clause-parses
stmts::choice-returns-in_err-first-clause-parses t c =
    let p = err_from_is_err_and c.from_residual.result c.from_residual.ensures.1 in
    rw (p.1, p.2) (lift_fault (row.arm c.args.depth) (rule (Choice c.args.depth 1)) _ _ c.in_err-first.field-0.0 (λ o s q. choice_not c.args.depth c.args.tokens.now o s q) (c.in_err-first.ensures.parses))

pub stmts::choice-loop-after-init : goal.stmts::choice-loop-after-init
stmts::choice-loop-after-init t c = (c.in_ok-first.ensures.shorter, omega arith, omega arith, choice_begins c.args.depth c.new-arms.result.items c.push.new.self.items c.in_ok-first.first c.in_ok-first.rest.now c.args.tokens.now c.new-arms.ensures.items c.in_ok-push.ensures.items c.in_ok-first.ensures.parses)

pub stmts::choice-returns-then-parts-ge-MOST_PARTS-clause-parses : goal.stmts::choice-returns-then-parts-ge-MOST_PARTS-clause-parses
stmts::choice-returns-then-parts-ge-MOST_PARTS-clause-parses t c = choice_dives c.args.depth c.loop-after.parts c.loop-after.arms.items c.loop-after.rest.now c.in-Some.after.now c.args.tokens.now _ c.in-Some.ensures c.loop-after.invariant.3 (omega arith)

pub stmts::choice-returns-in_err-last-clause-parses : goal.stmts::choice-returns-in_err-last-clause-parses
stmts::choice-returns-in_err-last-clause-parses t c =
    let p = err_from_is_err_and c.from_residual-in_err-last.result c.from_residual-in_err-last.ensures.1 in
    rw (p.1, p.2) (lift_fault (row.block c.args.depth) (rule (Choice c.args.depth 1)) _ _ c.in_err-last.field-0.0 (λ o s q. last_stops c.args.depth c.loop-after.parts c.loop-after.arms.items c.loop-after.rest.now c.in-Some.after.now c.args.tokens.now _ c.in-Some.ensures c.loop-after.invariant.3 (omega arith) (isnt_there (λ x. tree.point x.0) (λ x. x.1.now) (keyword_of k.If) c.in-Some.after.now c.keyword-in-Some.result c.keyword-in-Some.ensures (sym c.is_some.ensures ∙ c.if-is_some.false)) o s q) (c.in_err-last.ensures.parses))

pub stmts::choice-returns-else-is_some-clause-parses : goal.stmts::choice-returns-else-is_some-clause-parses
stmts::choice-returns-else-is_some-clause-parses t c = sees c.choice-choice.ensures (last_got c.args.depth c.loop-after.parts c.loop-after.arms.items c.loop-after.rest.now c.in-Some.after.now c.args.tokens.now _ c.in-Some.ensures c.loop-after.invariant.3 (view.view_stmts c.in_ok-last.last.items) c.in_ok-last.after.now (omega arith) (isnt_there (λ x. tree.point x.0) (λ x. x.1.now) (keyword_of k.If) c.in-Some.after.now c.keyword-in-Some.result c.keyword-in-Some.ensures (sym c.is_some.ensures ∙ c.if-is_some.false)) c.in_ok-last.ensures.parses)

pub stmts::choice-returns-in_err-next-clause-parses : goal.stmts::choice-returns-in_err-next-clause-parses
stmts::choice-returns-in_err-next-clause-parses t c =
    let p = err_from_is_err_and c.from_residual-in_err-next.result c.from_residual-in_err-next.ensures.1 in
    rw (p.1, p.2) (lift_fault (row.arm c.args.depth) (rule (Choice c.args.depth 1)) _ _ c.in_err-next.field-0.0 (λ o s q. (let w = (keyword_seen k.If c.in-Some.after.now c.keyword-in-Some.result c.keyword-in-Some.ensures (sym c.is_some.ensures ∙ c.if-is_some.true)) in arm_stops c.args.depth c.loop-after.parts c.loop-after.arms.items c.loop-after.rest.now c.in-Some.after.now c.args.tokens.now _ c.in-Some.ensures c.loop-after.invariant.3 (omega arith) w.place w.rest w.takes o s q)) (c.in_err-next.ensures.parses))

pub stmts::choice-loop-after-preserved : goal.stmts::choice-loop-after-preserved
stmts::choice-loop-after-preserved t c =
    let shorter = ap length c.in-Some.ensures.2 in
    (omega (arith, shorter, c.in_ok-next.ensures.shorter, c.loop-after.invariant.0), omega arith, omega arith, (let w = (keyword_seen k.If c.in-Some.after.now c.keyword-in-Some.result c.keyword-in-Some.ensures (sym c.is_some.ensures ∙ c.if-is_some.true)) in arm_got c.args.depth c.loop-after.parts c.loop-after.arms.items c.loop-after.rest.now c.in-Some.after.now c.args.tokens.now _ c.in-Some.ensures c.loop-after.invariant.3 (c.loop-after.parts + 1) c.push-then-is_some.new.self.items c.in_ok-next.next c.in_ok-next.after.now w.place w.rest (omega arith) (omega arith) c.in_ok-push-2.ensures.items w.takes c.in_ok-next.ensures.parses))

pub stmts::choice-loop-after-smaller : goal.stmts::choice-loop-after-smaller
stmts::choice-loop-after-smaller t c = let shorter = ap length c.in-Some.ensures.2 in omega (arith, shorter, c.in_ok-next.ensures.shorter)

pub stmts::choice-returns-clause-parses : goal.stmts::choice-returns-clause-parses
stmts::choice-returns-clause-parses t c = sees c.choice-choice-2.ensures (choice_ends c.args.depth c.loop-after.parts c.loop-after.arms.items c.loop-after.rest.now c.args.tokens.now c.in_default.ensures c.loop-after.invariant.3)

pub stmts::arm-returns-in_err-place-clause-parses : goal.stmts::arm-returns-in_err-place-clause-parses
stmts::arm-returns-in_err-place-clause-parses t c =
    let p = err_from_is_err_and c.from_residual.result c.from_residual.ensures.1 in
    rw (p.1, p.2) (lift_fault (kind (keyword_of k.If)) (row.arm c.args.depth) _ _ c.in_err-place.field-0.0 (λ o s q. stop o s q) (c.in_err-place.ensures.parses))

pub stmts::arm-returns-in_err-condition-clause-parses : goal.stmts::arm-returns-in_err-condition-clause-parses
stmts::arm-returns-in_err-condition-clause-parses t c =
    let p = err_from_is_err_and c.from_residual-in_err-condition.result c.from_residual-in_err-condition.ensures.1 in
    rw (p.1, p.2) (lift_fault (row.round c.args.depth (rule (Expr (suc c.args.depth) 0))) (row.arm c.args.depth) _ _ c.in_err-condition.field-0.0 (λ o s q. seq c.in_ok-place.ensures.parses (stop o s q)) (c.in_err-condition.ensures.parses))

pub stmts::arm-returns-in_err-body-clause-parses : goal.stmts::arm-returns-in_err-body-clause-parses
stmts::arm-returns-in_err-body-clause-parses t c =
    let p = err_from_is_err_and c.from_residual-in_err-body.result c.from_residual-in_err-body.ensures.1 in
    rw (p.1, p.2) (lift_fault (row.block c.args.depth) (row.arm c.args.depth) _ _ c.in_err-body.field-0.0 (λ o s q. seq c.in_ok-place.ensures.parses (seq c.in_ok-condition.ensures.parses (stop o s q))) (c.in_err-body.ensures.parses))

pub stmts::arm-returns-clause-parses : goal.stmts::arm-returns-clause-parses
stmts::arm-returns-clause-parses t c = sees (ap arm_tree c.new-arm.ensures) (seq c.in_ok-place.ensures.parses (seq c.in_ok-condition.ensures.parses (seq c.in_ok-body.ensures.parses ret)))
