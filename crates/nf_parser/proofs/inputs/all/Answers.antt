use Rattle.std.proofs.Common.{◌≤◌, suc, length, ap, arith, map}
use Rattle.std.proofs.lemmas.Result.{err_from_is_err_and}
use Rattle.nf_grammar.proofs.Short.{fails, stops, with_acc}
use Rattle.nf_ast.specs.View.{trees}
use Rattle.nf_ast.specs.Tops.{view_input}
use Rattle.nf_exprs.specs.Rules.{rules}
use Rattle.nf_exprs.proofs.Steps.{lift_fault, views_push, each_goes, each_stops}
use Rattle.nf_parser.proofs.Words.{goes_here, ends_here}
use Rattle.nf_parser.proofs.Parts.{no_input}
use Rattle.nf_exprs.specs.Rules as row
use Rattle.nf_parser.proofs.inputs.all.Goals as goal

pub loop-alloc-init : goal.loop-alloc-init
unfolding rules
loop-alloc-init c =
    (omega arith, 0, λ o p. with_acc (ap (λ xs. trees (map view_input xs)) c.new-all.ensures.items) p)

pub returns-in_err-input-clause-parses : goal.returns-in_err-input-clause-parses
unfolding rules
returns-in_err-input-clause-parses c =
    let p = err_from_is_err_and c.from_residual.result c.from_residual.ensures.1 in
    rw (p.1, p.2) (lift_fault (row.with_sep (row.some_input)) (row.inputs) _ _ c.in_err-input.field-0.0 (λ o s q. c.loop-alloc.invariant.2 o (each_stops (row.no_word row.input_words) (row.with_sep (row.some_input)) _ _ _ (goes_here _ _ c.begins.ensures c.loop-alloc-test.true) o s q)) (c.in_err-input.ensures.parses))

pub loop-alloc-preserved : goal.loop-alloc-preserved
unfolding rules
loop-alloc-preserved c =
    let shorter : length c.in_ok-input.after.now ≤ length c.args.tokens.now = omega (arith, c.loop-alloc.invariant.0, c.in_ok-input.ensures.shorter) in
    (shorter, suc c.loop-alloc.invariant.1, λ o p. c.loop-alloc.invariant.2 o (each_goes (row.no_word row.input_words) (row.with_sep (row.some_input)) _ _ _ _ _ o (goes_here _ _ c.begins.ensures c.loop-alloc-test.true) (c.in_ok-input.ensures.parses) (with_acc (views_push view_input _ _ _ c.in_ok-push.ensures.items) p)))

pub returns-clause-parses : goal.returns-clause-parses
unfolding rules
returns-clause-parses c =
    c.loop-alloc.invariant.2 _ (stops (ends_here _ _ c.begins.ensures c.loop-alloc-test.false) (fails (fails (no_input _ (ends_here _ _ c.begins.ensures c.loop-alloc-test.false)))))
