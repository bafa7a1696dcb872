use Rattle.std.specs.Prelude.{codes}
use Rattle.std.proofs.lemmas.Result.{err_from_is_err_and}
use Rattle.nf_grammar.specs.Gram.{gives, bind, rule}
use Rattle.nf_grammar.specs.Parts.{no_next}
use Rattle.nf_grammar.proofs.Short.{ret, seq, ruled, stop}
use Rattle.nf_exprs.specs.Rules.{rules}
use Rattle.nf_exprs.proofs.Steps.{lift_fault}
use Rattle.nf_token.specs.declared.token.Mark.TheVariants as m
use Rattle.nf_exprs.specs.Level as level
use Rattle.nf_exprs.specs.Tokens as kind
use Rattle.nf_exprs.specs.Rules as row
use Rattle.nf_parser.proofs.workflows.workflow.Goals as goal

pub returns-in_err-place-clause-parses : goal.returns-in_err-place-clause-parses
unfolding rules
returns-in_err-place-clause-parses c =
    let p = err_from_is_err_and c.from_residual.result c.from_residual.ensures.1 in
    rw (p.1, p.2) (lift_fault (row.word (codes "workflow")) (rule level.Workflow) _ _ c.in_err-place.field-0.0 (λ o s q. ruled (stop o s q)) (c.in_err-place.ensures.parses))

pub returns-in_err-name-clause-parses : goal.returns-in_err-name-clause-parses
unfolding rules
returns-in_err-name-clause-parses c =
    let p = err_from_is_err_and c.from_residual-in_err-name.result c.from_residual-in_err-name.ensures.1 in
    rw (p.1, p.2) (lift_fault (row.maybe (row.kind kind.name_of) (no_next kind.name_of)) (rule level.Workflow) _ _ c.in_err-name.field-0.0 (λ o s q. ruled (seq c.in_ok-place.ensures.parses (stop o s q))) (c.in_err-name.ensures.parses))

pub returns-in_err-rest-clause-parses : goal.returns-in_err-rest-clause-parses
unfolding rules
returns-in_err-rest-clause-parses c =
    let p = err_from_is_err_and c.from_residual-in_err-rest.result c.from_residual-in_err-rest.ensures.1 in
    rw (p.1, p.2) (lift_fault (row.opens 0 m.OpenBrace) (rule level.Workflow) _ _ c.in_err-rest.field-0.0 (λ o s q. ruled (seq c.in_ok-place.ensures.parses (seq c.in_ok-name.ensures.parses (stop o s (stop o s q))))) (c.in_err-rest.ensures.parses))

pub returns-in_err-body-clause-parses : goal.returns-in_err-body-clause-parses
unfolding rules
returns-in_err-body-clause-parses c =
    let p = err_from_is_err_and c.from_residual-in_err-body.result c.from_residual-in_err-body.ensures.1 in
    rw (p.1, p.2) (lift_fault (bind row.workflow_inside (λ x. bind row.closes (λ c. gives x))) (rule level.Workflow) _ _ c.in_err-body.field-0.0 (λ o s q. ruled (seq c.in_ok-place.ensures.parses (seq c.in_ok-name.ensures.parses (stop o s (seq c.in_ok-rest.ensures.parses q))))) (c.in_err-body.ensures.parses))

pub returns-clause-parses : goal.returns-clause-parses
unfolding rules
returns-clause-parses c =
    ruled (seq c.in_ok-place.ensures.parses (seq c.in_ok-name.ensures.parses (seq (seq c.in_ok-rest.ensures.parses c.in_ok-body.ensures.parses) ret)))
