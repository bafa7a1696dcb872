use Rattle.std.proofs.lemmas.Result.{err_from_is_err_and}
use Rattle.nf_grammar.proofs.Short.{ret, seq, stop}
use Rattle.nf_exprs.specs.Rules.{rules}
use Rattle.nf_exprs.proofs.Steps.{lift_fault}
use Rattle.nf_token.specs.declared.token.Mark.TheVariants as m
use Rattle.nf_exprs.specs.Rules as row
use Rattle.nf_parser.proofs.sections.head.Goals as goal

pub returns-in_err-place-clause-parses : goal.returns-in_err-place-clause-parses
unfolding rules
returns-in_err-place-clause-parses c =
    let p = err_from_is_err_and c.from_residual.result c.from_residual.ensures.1 in
    rw (p.1, p.2) (lift_fault (row.word c.args.word.now) (row.head c.args.word.now) _ _ c.in_err-place.field-0.0 (λ o s q. stop o s q) (c.in_err-place.ensures.parses))

pub returns-in_err-rest-clause-parses : goal.returns-in_err-rest-clause-parses
unfolding rules
returns-in_err-rest-clause-parses c =
    let p = err_from_is_err_and c.from_residual-in_err-rest.result c.from_residual-in_err-rest.ensures.1 in
    rw (p.1, p.2) (lift_fault (row.mark m.Colon) (row.head c.args.word.now) _ _ c.in_err-rest.field-0.0 (λ o s q. seq c.in_ok-place.ensures.parses (stop o s q)) (c.in_err-rest.ensures.parses))

pub returns-clause-parses : goal.returns-clause-parses
unfolding rules
returns-clause-parses c =
    seq c.in_ok-place.ensures.parses (seq c.in_ok-rest.ensures.parses ret)
