use Rattle.std.specs.Prelude.{codes}
use Rattle.std.proofs.lemmas.Result.{err_from_is_err_and}
use Rattle.nf_grammar.proofs.Short.{ret, seq, stop}
use Rattle.nf_exprs.specs.Rules.{rules}
use Rattle.nf_exprs.proofs.Steps.{lift_fault}
use Rattle.nf_token.specs.declared.token.Mark.TheVariants as m
use Rattle.nf_exprs.specs.Tokens as kind
use Rattle.nf_exprs.specs.Rules as row
use Rattle.nf_parser.proofs.definitions.dsl.Goals as goal

pub returns-in_err-place-clause-parses : goal.returns-in_err-place-clause-parses
unfolding rules
returns-in_err-place-clause-parses c =
    let p = err_from_is_err_and c.from_residual.result c.from_residual.ensures.1 in
    rw (p.1, p.2) (lift_fault (row.word (codes "nextflow")) (row.dsl) _ _ c.in_err-place.field-0.0 (λ o s q. stop o s q) (c.in_err-place.ensures.parses))

pub returns-in_err-rest-clause-parses : goal.returns-in_err-rest-clause-parses
unfolding rules
returns-in_err-rest-clause-parses c =
    let p = err_from_is_err_and c.from_residual-in_err-rest.result c.from_residual-in_err-rest.ensures.1 in
    rw (p.1, p.2) (lift_fault (row.mark m.Dot) (row.dsl) _ _ c.in_err-rest.field-0.0 (λ o s q. seq c.in_ok-place.ensures.parses (stop o s q)) (c.in_err-rest.ensures.parses))

pub returns-in_err-rest-2-clause-parses : goal.returns-in_err-rest-2-clause-parses
unfolding rules
returns-in_err-rest-2-clause-parses c =
    let p = err_from_is_err_and c.from_residual-in_err-rest-2.result c.from_residual-in_err-rest-2.ensures.1 in
    rw (p.1, p.2) (lift_fault (row.word (codes "enable")) (row.dsl) _ _ c.in_err-rest-2.field-0.0 (λ o s q. seq c.in_ok-place.ensures.parses (seq c.in_ok-rest.ensures.parses (stop o s q))) (c.in_err-rest-2.ensures.parses))

pub returns-in_err-rest-3-clause-parses : goal.returns-in_err-rest-3-clause-parses
unfolding rules
returns-in_err-rest-3-clause-parses c =
    let p = err_from_is_err_and c.from_residual-in_err-rest-3.result c.from_residual-in_err-rest-3.ensures.1 in
    rw (p.1, p.2) (lift_fault (row.mark m.Dot) (row.dsl) _ _ c.in_err-rest-3.field-0.0 (λ o s q. seq c.in_ok-place.ensures.parses (seq c.in_ok-rest.ensures.parses (seq c.in_ok-rest-2.ensures.parses (stop o s q)))) (c.in_err-rest-3.ensures.parses))

pub returns-in_err-rest-4-clause-parses : goal.returns-in_err-rest-4-clause-parses
unfolding rules
returns-in_err-rest-4-clause-parses c =
    let p = err_from_is_err_and c.from_residual-in_err-rest-4.result c.from_residual-in_err-rest-4.ensures.1 in
    rw (p.1, p.2) (lift_fault (row.word (codes "dsl")) (row.dsl) _ _ c.in_err-rest-4.field-0.0 (λ o s q. seq c.in_ok-place.ensures.parses (seq c.in_ok-rest.ensures.parses (seq c.in_ok-rest-2.ensures.parses (seq c.in_ok-rest-3.ensures.parses (stop o s q))))) (c.in_err-rest-4.ensures.parses))

pub returns-in_err-rest-5-clause-parses : goal.returns-in_err-rest-5-clause-parses
unfolding rules
returns-in_err-rest-5-clause-parses c =
    let p = err_from_is_err_and c.from_residual-in_err-rest-5.result c.from_residual-in_err-rest-5.ensures.1 in
    rw (p.1, p.2) (lift_fault (row.mark m.Equals) (row.dsl) _ _ c.in_err-rest-5.field-0.0 (λ o s q. seq c.in_ok-place.ensures.parses (seq c.in_ok-rest.ensures.parses (seq c.in_ok-rest-2.ensures.parses (seq c.in_ok-rest-3.ensures.parses (seq c.in_ok-rest-4.ensures.parses (stop o s q)))))) (c.in_err-rest-5.ensures.parses))

pub returns-in_err-rest-6-clause-parses : goal.returns-in_err-rest-6-clause-parses
unfolding rules
returns-in_err-rest-6-clause-parses c =
    let p = err_from_is_err_and c.from_residual-in_err-rest-6.result c.from_residual-in_err-rest-6.ensures.1 in
    rw (p.1, p.2) (lift_fault (row.kind kind.two) (row.dsl) _ _ c.in_err-rest-6.field-0.0 (λ o s q. seq c.in_ok-place.ensures.parses (seq c.in_ok-rest.ensures.parses (seq c.in_ok-rest-2.ensures.parses (seq c.in_ok-rest-3.ensures.parses (seq c.in_ok-rest-4.ensures.parses (seq c.in_ok-rest-5.ensures.parses (stop o s q))))))) (c.in_err-rest-6.ensures.parses))

pub returns-clause-parses : goal.returns-clause-parses
unfolding rules
returns-clause-parses c =
    seq c.in_ok-place.ensures.parses (seq c.in_ok-rest.ensures.parses (seq c.in_ok-rest-2.ensures.parses (seq c.in_ok-rest-3.ensures.parses (seq c.in_ok-rest-4.ensures.parses (seq c.in_ok-rest-5.ensures.parses (seq c.in_ok-rest-6.ensures.parses ret))))))
