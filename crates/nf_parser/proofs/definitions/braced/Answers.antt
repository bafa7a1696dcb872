use Rattle.std.proofs.lemmas.Result.{err_from_is_err_and}
use Rattle.nf_grammar.specs.Gram.{gives, bind, rule}
use Rattle.nf_grammar.proofs.Short.{seq, stop}
use Rattle.nf_exprs.specs.Rules.{rules}
use Rattle.nf_exprs.proofs.Steps.{lift_fault}
use Rattle.nf_token.specs.declared.token.Mark.TheVariants as m
use Rattle.nf_exprs.specs.Level as level
use Rattle.nf_exprs.specs.Rules as row
use Rattle.nf_parser.proofs.definitions.braced.Goals as goal

pub returns-in_err-rest-clause-parses : goal.returns-in_err-rest-clause-parses
unfolding rules
returns-in_err-rest-clause-parses c =
    let p = err_from_is_err_and c.from_residual.result c.from_residual.ensures.1 in
    rw (p.1, p.2) (lift_fault (row.opens 0 m.OpenBrace) (row.braced 0 (rule (level.Body 1))) _ _ c.in_err-rest.field-0.0 (λ o s q. stop o s q) (c.in_err-rest.ensures.parses))

pub returns-in_err-body-clause-parses : goal.returns-in_err-body-clause-parses
unfolding rules
returns-in_err-body-clause-parses c =
    let p = err_from_is_err_and c.from_residual-in_err-body.result c.from_residual-in_err-body.ensures.1 in
    rw (p.1, p.2) (lift_fault (rule (level.Body 1)) (row.braced 0 (rule (level.Body 1))) _ _ c.in_err-body.field-0.0 (λ o s q. seq c.in_ok-rest.ensures.parses (stop o s q)) (c.in_err-body.ensures.parses))

pub returns-in_err-rest-2-clause-parses : goal.returns-in_err-rest-2-clause-parses
unfolding rules
returns-in_err-rest-2-clause-parses c =
    let p = err_from_is_err_and c.from_residual-in_err-rest-2.result c.from_residual-in_err-rest-2.ensures.1 in
    rw (p.1, p.2) (lift_fault (bind (rule (level.Body 1)) (λ a. bind row.closes (λ c. gives a))) (row.braced 0 (rule (level.Body 1))) _ _ c.in_err-rest-2.field-0.0 (λ o s q. seq c.in_ok-rest.ensures.parses (q)) (c.in_err-rest-2.ensures.parses (rule (level.Body 1)) _ _ c.in_ok-body.ensures.parses))

pub returns-clause-parses : goal.returns-clause-parses
unfolding rules
returns-clause-parses c =
    seq c.in_ok-rest.ensures.parses ((c.in_ok-rest-2.ensures.parses (rule (level.Body 1)) _ _ c.in_ok-body.ensures.parses))
