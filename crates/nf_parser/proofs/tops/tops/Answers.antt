use Rattle.std.proofs.Common.{◌≤◌, suc, length, ap, arith, map}
use Rattle.std.proofs.lemmas.Result.{err_from_is_err_and}
use Rattle.nf_grammar.specs.Gram.{rule}
use Rattle.nf_grammar.proofs.Short.{ret, seq, fails, stops, with_acc, stop}
use Rattle.nf_ast.specs.View.{trees}
use Rattle.nf_ast.specs.Tops.{view_top}
use Rattle.nf_exprs.specs.Rules.{rules}
use Rattle.nf_exprs.proofs.Steps.{lift_fault, views_push, each_goes, each_stops}
use Rattle.nf_parser.proofs.Words.{goes_here, ends_here}
use Rattle.nf_parser.proofs.Parts.{top_misses}
use Rattle.nf_exprs.specs.Level as level
use Rattle.nf_exprs.specs.Rules as row
use Rattle.nf_parser.proofs.tops.tops.Goals as goal

pub loop-alloc-init : goal.loop-alloc-init
unfolding rules
loop-alloc-init c =
    (omega arith, 0, λ o p. with_acc (ap (λ xs. trees (map view_top xs)) c.new-all.ensures.items) p)

pub returns-in_err-top : goal.returns-in_err-top
unfolding rules
returns-in_err-top c =
    let p = err_from_is_err_and c.from_residual.result c.from_residual.ensures.1 in
    rw (p.1, p.2) (lift_fault (rule level.Top) (row.tops) _ _ c.in_err-top.field-0.0 (λ o s q. c.loop-alloc.invariant.2 o (each_stops row.no_top (row.with_sep (rule level.Top)) _ _ _ (goes_here _ _ c.begins.ensures c.loop-alloc-test.true) o s (stop o s q))) (c.in_err-top.ensures.parses))

pub returns-in_err-after : goal.returns-in_err-after
unfolding rules
returns-in_err-after c =
    let p = err_from_is_err_and c.from_residual-in_err-after.result c.from_residual-in_err-after.ensures.1 in
    rw (p.1, p.2) (lift_fault (row.sep) (row.tops) _ _ c.in_err-after.field-0.0 (λ o s q. c.loop-alloc.invariant.2 o (each_stops row.no_top (row.with_sep (rule level.Top)) _ _ _ (goes_here _ _ c.begins.ensures c.loop-alloc-test.true) o s (seq c.in_ok-top.ensures.parses (stop o s q)))) (c.in_err-after.ensures.parses))

pub loop-alloc-preserved : goal.loop-alloc-preserved
unfolding rules
loop-alloc-preserved c =
    let shorter : length c.in_ok-after.after.now ≤ length c.args.tokens.now = omega (arith, c.loop-alloc.invariant.0, c.in_ok-top.ensures.shorter, c.in_ok-after.ensures.shorter) in
    (shorter, suc c.loop-alloc.invariant.1, λ o p. c.loop-alloc.invariant.2 o (each_goes row.no_top (row.with_sep (rule level.Top)) _ _ _ _ _ o (goes_here _ _ c.begins.ensures c.loop-alloc-test.true) (seq c.in_ok-top.ensures.parses (seq c.in_ok-after.ensures.parses ret)) (with_acc (views_push view_top _ _ _ c.in_ok-push.ensures.items) p)))

pub returns : goal.returns
unfolding rules
returns c =
    c.loop-alloc.invariant.2 _ (stops (ends_here _ _ c.begins.ensures c.loop-alloc-test.false) (fails (fails (top_misses _ (ends_here _ _ c.begins.ensures c.loop-alloc-test.false)))))
