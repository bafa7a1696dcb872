use Rattle.std.proofs.lemmas.Result.{err_from_is_err_and}
use Rattle.nf_grammar.specs.Gram.{rule}
use Rattle.nf_grammar.proofs.Short.{ret, seq, stop}
use Rattle.nf_exprs.specs.Rules.{rules}
use Rattle.nf_exprs.proofs.Steps.{lift_fault}
use Rattle.nf_exprs.specs.Level as level
use Rattle.nf_exprs.specs.Rules as row
use Rattle.nf_parser.proofs.outputs.output.Goals as goal

pub returns-in_err-value-clause-parses : goal.returns-in_err-value-clause-parses
unfolding rules
returns-in_err-value-clause-parses c =
    let p = err_from_is_err_and c.from_residual.result c.from_residual.ensures.1 in
    rw (p.1, p.2) (lift_fault (row.with_sep (rule level.Output)) (row.with_sep (rule level.Output)) _ _ c.in_err-value.field-0.0 (λ o s q. q) (c.in_err-value.ensures.parses))

pub returns-in_err-options-clause-parses : goal.returns-in_err-options-clause-parses
unfolding rules
returns-in_err-options-clause-parses c =
    let p = err_from_is_err_and c.from_residual-in_err-options.result c.from_residual-in_err-options.ensures.1 in
    rw (p.1, p.2) (lift_fault (row.options) (row.with_sep (rule level.Output)) _ _ c.in_err-options.field-0.0 (λ o s q. c.in_ok-value.ensures.parses o (stop o s (stop o s q))) (c.in_err-options.ensures.parses))

pub returns-in_err-rest-clause-parses : goal.returns-in_err-rest-clause-parses
unfolding rules
returns-in_err-rest-clause-parses c =
    let p = err_from_is_err_and c.from_residual-in_err-rest.result c.from_residual-in_err-rest.ensures.1 in
    rw (p.1, p.2) (lift_fault (row.sep) (row.with_sep (rule level.Output)) _ _ c.in_err-rest.field-0.0 (λ o s q. c.in_ok-value.ensures.parses o (seq (seq c.in_ok-options.ensures.parses ret) (stop o s q))) (c.in_err-rest.ensures.parses))

pub returns-clause-parses : goal.returns-clause-parses
unfolding rules
returns-clause-parses c =
    c.in_ok-value.ensures.parses _ (seq (seq c.in_ok-options.ensures.parses ret) (seq c.in_ok-rest.ensures.parses ret))
