use Rattle.std.proofs.Common.{◌≤◌, suc, length, ap, arith, map}
use Rattle.std.proofs.lemmas.Result.{err_from_is_err_and}
use Rattle.nf_grammar.proofs.Short.{ret, seq, goes, with_acc, stop, part_stop}
use Rattle.nf_ast.specs.View.{view_label, trees}
use Rattle.nf_exprs.specs.Rules.{rules}
use Rattle.nf_exprs.proofs.Steps.{lift_fault, views_push}
use Rattle.nf_parser.proofs.Words.{goes_here, ends_here}
use Rattle.nf_parser.proofs.Tuples.{no_option_end}
use Rattle.nf_exprs.specs.Rules as row
use Rattle.nf_parser.proofs.outputs.options.Goals as goal

pub loop-alloc-init : goal.loop-alloc-init
unfolding rules
loop-alloc-init c =
    (omega arith, 0, λ o p. with_acc (ap (λ xs. trees (map view_label xs)) c.new-all.ensures.items) p)

pub returns-in_err-option-clause-parses : goal.returns-in_err-option-clause-parses
unfolding rules
returns-in_err-option-clause-parses c =
    let p = err_from_is_err_and c.from_residual.result c.from_residual.ensures.1 in
    rw (p.1, p.2) (lift_fault (row.label 1) (row.options) _ _ c.in_err-option.field-0.0 (λ o s q. c.loop-alloc.invariant.2 o (part_stop o s (goes_here _ _ c.begins_option.ensures c.loop-alloc-test.true) (seq c.past_comma-after.ensures.parses (stop o s q)))) (c.in_err-option.ensures.parses))

pub loop-alloc-preserved : goal.loop-alloc-preserved
unfolding rules
loop-alloc-preserved c =
    let shorter : length c.in_ok-option.after.now ≤ length c.args.tokens.now = omega (arith, c.loop-alloc.invariant.0, c.past_comma-after.ensures.shorter, c.in_ok-option.ensures.shorter) in
    (shorter, suc c.loop-alloc.invariant.1, λ o p. c.loop-alloc.invariant.2 o (goes (goes_here _ _ c.begins_option.ensures c.loop-alloc-test.true) (seq c.past_comma-after.ensures.parses (seq c.in_ok-option.ensures.parses ret)) (with_acc (views_push view_label _ _ _ c.in_ok-push.ensures.items) p)))

pub returns-clause-parses : goal.returns-clause-parses
unfolding rules
returns-clause-parses c =
    c.loop-alloc.invariant.2 _ (no_option_end _ _ _ (ends_here _ _ c.begins_option.ensures c.loop-alloc-test.false))
