use Rattle.std.proofs.lemmas.Result.{err_from_is_err_and}
use Rattle.nf_grammar.proofs.Short.{ret, misses, seq, off, first_arm, second_arm, stop}
use Rattle.nf_exprs.specs.Rules.{rules}
use Rattle.nf_exprs.proofs.Steps.{took_one, lift_fault}
use Rattle.nf_parser.proofs.Words.{named, no_mark}
use Rattle.nf_token.specs.declared.token.Mark.TheVariants as m
use Rattle.nf_exprs.specs.Tokens as kind
use Rattle.nf_exprs.specs.Rules as row
use Rattle.nf_parser.proofs.inputs.bound.Goals as goal

pub returns-in-Some-clause-parses : goal.returns-in-Some-clause-parses
unfolding rules
returns-in-Some-clause-parses c =
    first_arm (took_one c.in-Some.ensures) (off (no_mark m.OpenRound (named c.in-Some.ensures)))

pub returns-in_err-rest-clause-parses : goal.returns-in_err-rest-clause-parses
unfolding rules
returns-in_err-rest-clause-parses c =
    let p = err_from_is_err_and c.from_residual.result c.from_residual.ensures.1 in
    rw (p.1, p.2) (lift_fault (row.opens 1 m.OpenRound) (row.one_name) _ _ c.in_err-rest.field-0.0 (λ o s q. second_arm (misses c.in_default.ensures) (stop o s q)) (c.in_err-rest.ensures.parses))

pub returns-in_err-place-clause-parses : goal.returns-in_err-place-clause-parses
unfolding rules
returns-in_err-place-clause-parses c =
    let p = err_from_is_err_and c.from_residual-in_err-place.result c.from_residual-in_err-place.ensures.1 in
    rw (p.1, p.2) (lift_fault (row.kind kind.name_of) (row.one_name) _ _ c.in_err-place.field-0.0 (λ o s q. second_arm (misses c.in_default.ensures) (seq c.in_ok-rest.ensures.parses (stop o s q))) (c.in_err-place.ensures.parses))

pub returns-in_err-rest-2-clause-parses : goal.returns-in_err-rest-2-clause-parses
unfolding rules
returns-in_err-rest-2-clause-parses c =
    let p = err_from_is_err_and c.from_residual-in_err-rest-2.result c.from_residual-in_err-rest-2.ensures.1 in
    rw (p.1, p.2) (lift_fault (row.mark m.CloseRound) (row.one_name) _ _ c.in_err-rest-2.field-0.0 (λ o s q. second_arm (misses c.in_default.ensures) (seq c.in_ok-rest.ensures.parses (seq c.in_ok-place.ensures.parses (stop o s q)))) (c.in_err-rest-2.ensures.parses))

pub returns-clause-parses : goal.returns-clause-parses
unfolding rules
returns-clause-parses c =
    second_arm (misses c.in_default.ensures) (seq c.in_ok-rest.ensures.parses (seq c.in_ok-place.ensures.parses (seq c.in_ok-rest-2.ensures.parses ret)))
