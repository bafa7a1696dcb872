use Rattle.std.proofs.Common.{sym, ◌∙◌}
use Rattle.std.proofs.lemmas.Result.{err_from_is_err_and}
use Rattle.nf_grammar.specs.Gram.{gives, bind, rule}
use Rattle.nf_grammar.proofs.Short.{stop}
use Rattle.nf_exprs.specs.Rules.{rules}
use Rattle.nf_exprs.proofs.Steps.{lift_fault}
use Rattle.nf_parser.proofs.Inside.{inside_parts, inside_statements}
use Rattle.nf_exprs.specs.Level as level
use Rattle.nf_exprs.specs.Rules as row
use Rattle.nf_parser.proofs.workflows.inside.Goals as goal

pub returns-in_err-parts-clause-parses : goal.returns-in_err-parts-clause-parses
unfolding rules
returns-in_err-parts-clause-parses c =
    let p = err_from_is_err_and c.from_residual.result c.from_residual.ensures.1 in
    rw (p.1, p.2) (lift_fault (rule level.Parts) (bind row.workflow_inside (λ x. bind row.closes (λ c. gives x))) _ _ c.in_err-parts.field-0.0 (λ o s q. inside_parts _ o (sym c.begins_parts.ensures ∙ c.if-begins_parts.true) (stop o s q)) (c.in_err-parts.ensures.parses))

pub returns-in_err-rest-clause-parses : goal.returns-in_err-rest-clause-parses
unfolding rules
returns-in_err-rest-clause-parses c =
    let p = err_from_is_err_and c.from_residual-in_err-rest.result c.from_residual-in_err-rest.ensures.1 in
    rw (p.1, p.2) (lift_fault (bind (rule level.Parts) (λ a. bind row.closes (λ c. gives a))) (bind row.workflow_inside (λ x. bind row.closes (λ c. gives x))) _ _ c.in_err-rest.field-0.0 (λ o s q. inside_parts _ o (sym c.begins_parts.ensures ∙ c.if-begins_parts.true) q) (c.in_err-rest.ensures.parses (rule level.Parts) _ _ c.in_ok-parts.ensures.parses))

pub returns-then-begins_parts-clause-parses : goal.returns-then-begins_parts-clause-parses
unfolding rules
returns-then-begins_parts-clause-parses c =
    inside_parts _ _ (sym c.begins_parts.ensures ∙ c.if-begins_parts.true) (c.in_ok-rest.ensures.parses (rule level.Parts) _ _ c.in_ok-parts.ensures.parses)

pub returns-in_err-body-clause-parses : goal.returns-in_err-body-clause-parses
unfolding rules
returns-in_err-body-clause-parses c =
    let p = err_from_is_err_and c.from_residual-in_err-body.result c.from_residual-in_err-body.ensures.1 in
    rw (p.1, p.2) (lift_fault (rule (level.Body 1)) (bind row.workflow_inside (λ x. bind row.closes (λ c. gives x))) _ _ c.in_err-body.field-0.0 (λ o s q. inside_statements _ o (sym c.begins_parts.ensures ∙ c.if-begins_parts.false) (stop o s q)) (c.in_err-body.ensures.parses))

pub returns-in_err-rest-2-clause-parses : goal.returns-in_err-rest-2-clause-parses
unfolding rules
returns-in_err-rest-2-clause-parses c =
    let p = err_from_is_err_and c.from_residual-in_err-rest-2.result c.from_residual-in_err-rest-2.ensures.1 in
    rw (p.1, p.2) (lift_fault (bind (rule (level.Body 1)) (λ a. bind row.closes (λ c. gives a))) (bind row.workflow_inside (λ x. bind row.closes (λ c. gives x))) _ _ c.in_err-rest-2.field-0.0 (λ o s q. inside_statements _ o (sym c.begins_parts.ensures ∙ c.if-begins_parts.false) q) (c.in_err-rest-2.ensures.parses (rule (level.Body 1)) _ _ c.in_ok-body.ensures.parses))

pub returns-clause-parses : goal.returns-clause-parses
unfolding rules
returns-clause-parses c =
    inside_statements _ _ (sym c.begins_parts.ensures ∙ c.if-begins_parts.false) (c.in_ok-rest-2.ensures.parses (rule (level.Body 1)) _ _ c.in_ok-body.ensures.parses)
