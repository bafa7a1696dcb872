use Rattle.std.proofs.Common.{suc, length, ap, arith}
use Rattle.std.proofs.lemmas.Result.{err_from_is_err_and}
use Rattle.nf_grammar.proofs.Short.{off, stop, stops}
use Rattle.nf_ast.specs.View as view
use Rattle.nf_exprs.specs.Level.{Prim}
use Rattle.nf_exprs.specs.Tokens.{name_of}
use Rattle.nf_exprs.specs.Rules as row
use Rattle.nf_exprs.specs.Rules.{kind, mark, no_comma, no_part, listed}
use Rattle.nf_exprs.proofs.Steps.{named, comes, lift_fault, list_begins, list_goes, list_stops}
use Rattle.nf_exprs.proofs.closures.names.Goals as goal

pub returns-in_err-place-clause-parses : goal.returns-in_err-place-clause-parses
returns-in_err-place-clause-parses c =
    let p = err_from_is_err_and c.from_residual.result c.from_residual.ensures.1 in
    rw (p.1, p.2) (lift_fault (kind name_of) (row.names) _ _ c.in_err-place.field-0.0 (λ o s q. stop o s q) (c.in_err-place.ensures.parses))

pub loop-after-init : goal.loop-after-init
loop-after-init c = (c.in_ok-place.ensures.shorter, (0, list_begins view.name_tree no_comma (kind name_of) c.new-all.result.items c.push.new.self.items (c.in_ok-place.place, c.in_ok-copy.copy) c.in_ok-place.rest.now c.args.tokens.now c.new-all.ensures.items c.in_ok-push.ensures.items (named c.in_ok-copy.ensures c.in_ok-place.ensures.parses)))

pub returns-in_err-place-2-clause-parses : goal.returns-in_err-place-2-clause-parses
returns-in_err-place-2-clause-parses c =
    let p = err_from_is_err_and c.from_residual-in_err-place-2.result c.from_residual-in_err-place-2.ensures.1 in
    rw (p.1, p.2) (lift_fault (kind name_of) (row.names) _ _ c.in_err-place-2.field-0.0 (λ o s q. list_stops view.name_tree no_comma (kind name_of) row.names c.loop-after.invariant.1.0 c.loop-after.all.items c.loop-after.rest.now c.in-Some.after.now c.args.tokens.now _ c.in-Some.ensures (comes c.in-Some.ensures) c.loop-after.invariant.1.1 o s q) (c.in_err-place-2.ensures.parses))

pub loop-after-preserved : goal.loop-after-preserved
loop-after-preserved c =
    let shorter = ap length c.in-Some.ensures.2 in
    (omega (arith, shorter, c.in_ok-place-2.ensures.shorter, c.loop-after.invariant.0), (suc c.loop-after.invariant.1.0, list_goes view.name_tree no_comma (kind name_of) row.names c.loop-after.invariant.1.0 c.loop-after.all.items c.push-in-Some.new.self.items (c.in_ok-place-2.place, c.in_ok-copy-2.copy) c.loop-after.rest.now c.in-Some.after.now c.in_ok-place-2.after.now c.args.tokens.now _ c.in-Some.ensures (comes c.in-Some.ensures) c.in_ok-push-2.ensures.items (named c.in_ok-copy-2.ensures c.in_ok-place-2.ensures.parses) c.loop-after.invariant.1.1))

pub returns-clause-parses : goal.returns-clause-parses
returns-clause-parses c = c.loop-after.invariant.1.1 _ (stops c.in_default.ensures (off c.in_default.ensures))
