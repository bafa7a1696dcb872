use Rattle.std.proofs.Common.{ℕ, List, ap}
use Rattle.std.proofs.lemmas.Result.{err_from_is_err_and}
use Rattle.nf_grammar.specs.Gram.{rule}
use Rattle.nf_grammar.proofs.Short.{ret, seq, stop, sees}
use Rattle.nf_ast.specs.View.{view}
use Rattle.nf_exprs.specs.Rules.{rules}
use Rattle.nf_exprs.proofs.Steps.{lift_fault}
use Rattle.nf_parser.proofs.Inside.{took_two, emit_named, emit_alone}
use Rattle.nf_ast.specs.Tree as tree
use Rattle.nf_exprs.specs.Level as level
use Rattle.nf_exprs.specs.Rules as row
use Rattle.nf_parser.proofs.workflows.emit.Goals as goal

pub returns-in_err-value-clause-parses : goal.returns-in_err-value-clause-parses
unfolding rules
returns-in_err-value-clause-parses c =
    let p = err_from_is_err_and c.from_residual.result c.from_residual.ensures.1 in
    rw (p.1, p.2) (lift_fault (rule (level.Expr 1 0)) (row.with_sep row.emit) _ _ c.in_err-value.field-0.0 (λ o s q. emit_named _ _ _ c.in-Some.ensures o (stop o s (took_two (λ w. stop o s q) c.in-Some.ensures))) (c.in_err-value.ensures.parses))

pub returns-in_err-rest-clause-parses : goal.returns-in_err-rest-clause-parses
unfolding rules
returns-in_err-rest-clause-parses c =
    let p = err_from_is_err_and c.from_residual-in_err-rest.result c.from_residual-in_err-rest.ensures.1 in
    rw (p.1, p.2) (lift_fault (row.sep) (row.with_sep row.emit) _ _ c.in_err-rest.field-0.0 (λ o s q. emit_named _ _ _ c.in-Some.ensures o (seq (took_two (λ w. seq c.in_ok-value.ensures.parses ret) c.in-Some.ensures) (stop o s q))) (c.in_err-rest.ensures.parses))

pub returns-in-Some-clause-parses : goal.returns-in-Some-clause-parses
unfolding rules
returns-in-Some-clause-parses c =
    sees (ap (λ (n : List ℕ). tree.assign (tree.name c.in-Some.place n) (view c.in_ok-value.value)) c.in_ok-name.ensures) (emit_named _ _ _ c.in-Some.ensures _ (seq (took_two (λ w. seq c.in_ok-value.ensures.parses ret) c.in-Some.ensures) (seq c.in_ok-rest.ensures.parses ret)))

pub returns-in_err-value-2-clause-parses : goal.returns-in_err-value-2-clause-parses
unfolding rules
returns-in_err-value-2-clause-parses c =
    let p = err_from_is_err_and c.from_residual-in_err-value-2.result c.from_residual-in_err-value-2.ensures.1 in
    rw (p.1, p.2) (lift_fault (rule (level.Expr 1 0)) (row.with_sep row.emit) _ _ c.in_err-value-2.field-0.0 (λ o s q. emit_alone _ o c.in_default.ensures (stop o s q)) (c.in_err-value-2.ensures.parses))

pub returns-in_err-rest-2-clause-parses : goal.returns-in_err-rest-2-clause-parses
unfolding rules
returns-in_err-rest-2-clause-parses c =
    let p = err_from_is_err_and c.from_residual-in_err-rest-2.result c.from_residual-in_err-rest-2.ensures.1 in
    rw (p.1, p.2) (lift_fault (row.sep) (row.with_sep row.emit) _ _ c.in_err-rest-2.field-0.0 (λ o s q. emit_alone _ o c.in_default.ensures (seq c.in_ok-value-2.ensures.parses (stop o s q))) (c.in_err-rest-2.ensures.parses))

pub returns-clause-parses : goal.returns-clause-parses
unfolding rules
returns-clause-parses c =
    emit_alone _ _ c.in_default.ensures (seq c.in_ok-value-2.ensures.parses (seq c.in_ok-rest-2.ensures.parses ret))
