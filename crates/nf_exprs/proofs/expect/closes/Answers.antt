use Rattle.std.proofs.lemmas.Result.{err_from_is_err_and}
use Rattle.nf_token.specs.declared.token.Mark.TheVariants as m
use Rattle.nf_grammar.proofs.Short.{ret, seq, stop}
use Rattle.nf_exprs.specs.Rules.{mark, closes}
use Rattle.nf_exprs.proofs.Steps.{lift_fault}
use Rattle.nf_exprs.proofs.expect.closes.Goals as goal

pub returns-in_err-rest-clause-parses : goal.returns-in_err-rest-clause-parses
returns-in_err-rest-clause-parses c =
    let p = err_from_is_err_and c.from_residual.result c.from_residual.ensures.1 in
    rw (p.1, p.2) (lift_fault (mark m.CloseBrace) closes _ _ c.in_err-rest.field-0.0 (λ o s q. seq c.past_separator-rest.ensures.parses (stop o s q)) c.in_err-rest.ensures.parses)

pub returns-clause-parses : goal.returns-clause-parses
returns-clause-parses c = seq c.past_separator-rest.ensures.parses (seq c.in_ok-rest.ensures.parses ret)
