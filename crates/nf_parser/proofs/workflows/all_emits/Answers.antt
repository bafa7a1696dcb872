use Rattle.std.proofs.Common.{◌≤◌, suc, length, sym, ap, ◌∙◌, arith, map}
use Rattle.std.specs.Prelude.{not}
use Rattle.std.proofs.lemmas.Result.{err_from_is_err_and}
use Rattle.nf_grammar.proofs.Short.{with_acc}
use Rattle.nf_ast.specs.View.{trees}
use Rattle.nf_ast.specs.Tops.{view_emit}
use Rattle.nf_exprs.specs.Rules.{rules}
use Rattle.nf_exprs.proofs.Steps.{lift_fault, views_push, each_goes, each_stops}
use Rattle.nf_parser.proofs.Stray.{emits_end}
use Rattle.nf_exprs.specs.Tokens as kind
use Rattle.nf_exprs.specs.Rules as row
use Rattle.nf_parser.proofs.workflows.all_emits.Goals as goal

pub loop-alloc-init : goal.loop-alloc-init
unfolding rules
loop-alloc-init c =
    (omega arith, 0, λ o p. with_acc (ap (λ xs. trees (map view_emit xs)) c.new-all.ensures.items) p)

pub returns-in_err-emit-clause-parses : goal.returns-in_err-emit-clause-parses
unfolding rules
returns-in_err-emit-clause-parses c =
    let p = err_from_is_err_and c.from_residual.result c.from_residual.ensures.1 in
    rw (p.1, p.2) (lift_fault (row.with_sep (row.emit)) (row.emits) _ _ c.in_err-emit.field-0.0 (λ o s q. c.loop-alloc.invariant.2 o (each_stops kind.no_start (row.with_sep (row.emit)) _ _ _ (ap not (sym c.starts.ensures ∙ c.loop-alloc-test.true)) o s q)) (c.in_err-emit.ensures.parses))

pub loop-alloc-preserved : goal.loop-alloc-preserved
unfolding rules
loop-alloc-preserved c =
    let shorter : length c.in_ok-emit.after.now ≤ length c.args.tokens.now = omega (arith, c.loop-alloc.invariant.0, c.in_ok-emit.ensures.shorter) in
    (shorter, suc c.loop-alloc.invariant.1, λ o p. c.loop-alloc.invariant.2 o (each_goes kind.no_start (row.with_sep (row.emit)) _ _ _ _ _ o (ap not (sym c.starts.ensures ∙ c.loop-alloc-test.true)) (c.in_ok-emit.ensures.parses) (with_acc (views_push view_emit _ _ _ c.in_ok-push.ensures.items) p)))

pub returns-clause-parses : goal.returns-clause-parses
unfolding rules
returns-clause-parses c =
    c.loop-alloc.invariant.2 _ (emits_end _ _ _ (ap not (sym c.starts.ensures ∙ c.loop-alloc-test.false)))
