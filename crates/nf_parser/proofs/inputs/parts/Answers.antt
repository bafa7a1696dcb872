use Rattle.std.proofs.Common.{◌<◌, suc, length, ap, arith}
use Rattle.std.proofs.lemmas.Result.{err_from_is_err_and}
use Rattle.nf_grammar.specs.Gram.{rule}
use Rattle.nf_grammar.proofs.Short.{seq, off, stops, with_acc, stop}
use Rattle.nf_ast.specs.Tops.{view_input_part}
use Rattle.nf_exprs.specs.Rules.{rules}
use Rattle.nf_exprs.proofs.Steps.{comes, lift_fault, views_push, views_first, comma_goes, comma_stops}
use Rattle.nf_exprs.specs.Level as level
use Rattle.nf_exprs.specs.Rules as row
use Rattle.nf_parser.proofs.inputs.parts.Goals as goal

pub returns-in_err-first-clause-parses : goal.returns-in_err-first-clause-parses
unfolding rules
returns-in_err-first-clause-parses c =
    let p = err_from_is_err_and c.from_residual.result c.from_residual.ensures.1 in
    rw (p.1, p.2) (lift_fault (rule level.Input) (row.commas (rule level.Input)) _ _ c.in_err-first.field-0.0 (λ o s q. stop o s q) (c.in_err-first.ensures.parses))

pub loop-after-init : goal.loop-after-init
unfolding rules
loop-after-init c =
    (c.in_ok-first.ensures.shorter, 0, λ o p. seq c.in_ok-first.ensures.parses (with_acc (views_first view_input_part _ _ _ c.new-all.ensures.items c.in_ok-push.ensures.items) p))

pub returns-in_err-next-clause-parses : goal.returns-in_err-next-clause-parses
unfolding rules
returns-in_err-next-clause-parses c =
    let p = err_from_is_err_and c.from_residual-in_err-next.result c.from_residual-in_err-next.ensures.1 in
    rw (p.1, p.2) (lift_fault (rule level.Input) (row.commas (rule level.Input)) _ _ c.in_err-next.field-0.0 (λ o s q. c.loop-after.invariant.2 o (comma_stops row.no_comma (rule level.Input) _ _ _ _ _ c.in-Some.ensures (comes c.in-Some.ensures) o s q)) (c.in_err-next.ensures.parses))

pub loop-after-preserved : goal.loop-after-preserved
unfolding rules
loop-after-preserved c =
    let shorter : length c.in_ok-next.after.now < length c.args.tokens.now = omega (arith, c.loop-after.invariant.0, c.in_ok-next.ensures.shorter, ap length c.in-Some.ensures.2) in
    (shorter, suc c.loop-after.invariant.1, λ o p. c.loop-after.invariant.2 o (comma_goes row.no_comma (rule level.Input) _ _ _ _ _ c.in-Some.ensures _ _ o (comes c.in-Some.ensures) c.in_ok-next.ensures.parses (with_acc (views_push view_input_part _ _ _ c.in_ok-push-2.ensures.items) p)))

pub returns-clause-parses : goal.returns-clause-parses
unfolding rules
returns-clause-parses c =
    c.loop-after.invariant.2 _ (stops c.in_default.ensures (off c.in_default.ensures))
