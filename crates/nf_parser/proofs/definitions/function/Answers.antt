use Rattle.std.proofs.Common.{ℕ, List, ap}
use Rattle.std.proofs.lemmas.Result.{err_from_is_err_and}
use Rattle.nf_grammar.specs.Gram.{rule}
use Rattle.nf_grammar.specs.Parts.{no_next}
use Rattle.nf_grammar.proofs.Short.{ret, seq, ruled, stop, sees}
use Rattle.nf_ast.specs.View.{view_stmts, names}
use Rattle.nf_exprs.specs.Rules.{rules}
use Rattle.nf_exprs.proofs.Steps.{lift_fault}
use Rattle.nf_token.specs.declared.token.Mark.TheVariants as m
use Rattle.nf_token.specs.declared.token.Keyword.TheVariants as k
use Rattle.nf_ast.specs.Tree as tree
use Rattle.nf_exprs.specs.Level as level
use Rattle.nf_exprs.specs.Tokens as kind
use Rattle.nf_exprs.specs.Rules as row
use Rattle.nf_parser.proofs.definitions.function.Goals as goal

pub returns-in_err-place-clause-parses : goal.returns-in_err-place-clause-parses
unfolding rules
returns-in_err-place-clause-parses c =
    let p = err_from_is_err_and c.from_residual.result c.from_residual.ensures.1 in
    rw (p.1, p.2) (lift_fault (row.kind (kind.keyword_of k.Def)) (rule level.Function) _ _ c.in_err-place.field-0.0 (λ o s q. ruled (stop o s q)) (c.in_err-place.ensures.parses))

pub returns-in_err-name_place-clause-parses : goal.returns-in_err-name_place-clause-parses
unfolding rules
returns-in_err-name_place-clause-parses c =
    let p = err_from_is_err_and c.from_residual-in_err-name_place.result c.from_residual-in_err-name_place.ensures.1 in
    rw (p.1, p.2) (lift_fault (row.kind kind.name_of) (rule level.Function) _ _ c.in_err-name_place.field-0.0 (λ o s q. ruled (seq c.in_ok-place.ensures.parses (stop o s q))) (c.in_err-name_place.ensures.parses))

pub returns-in_err-rest-clause-parses : goal.returns-in_err-rest-clause-parses
unfolding rules
returns-in_err-rest-clause-parses c =
    let p = err_from_is_err_and c.from_residual-in_err-rest.result c.from_residual-in_err-rest.ensures.1 in
    rw (p.1, p.2) (lift_fault (row.opens 0 m.OpenRound) (rule level.Function) _ _ c.in_err-rest.field-0.0 (λ o s q. ruled (seq c.in_ok-place.ensures.parses (seq c.in_ok-name_place.ensures.parses (stop o s q)))) (c.in_err-rest.ensures.parses))

pub returns-in_err-params-clause-parses : goal.returns-in_err-params-clause-parses
unfolding rules
returns-in_err-params-clause-parses c =
    let p = err_from_is_err_and c.from_residual-in_err-params.result c.from_residual-in_err-params.ensures.1 in
    rw (p.1, p.2) (lift_fault (row.maybe row.names (no_next kind.name_of)) (rule level.Function) _ _ c.in_err-params.field-0.0 (λ o s q. ruled (seq c.in_ok-place.ensures.parses (seq c.in_ok-name_place.ensures.parses (seq c.in_ok-rest.ensures.parses (stop o s q))))) (c.in_err-params.ensures.parses))

pub returns-in_err-rest-2-clause-parses : goal.returns-in_err-rest-2-clause-parses
unfolding rules
returns-in_err-rest-2-clause-parses c =
    let p = err_from_is_err_and c.from_residual-in_err-rest-2.result c.from_residual-in_err-rest-2.ensures.1 in
    rw (p.1, p.2) (lift_fault (row.mark m.CloseRound) (rule level.Function) _ _ c.in_err-rest-2.field-0.0 (λ o s q. ruled (seq c.in_ok-place.ensures.parses (seq c.in_ok-name_place.ensures.parses (seq c.in_ok-rest.ensures.parses (seq c.in_ok-params.ensures.parses (stop o s q)))))) (c.in_err-rest-2.ensures.parses))

pub returns-in_err-body-clause-parses : goal.returns-in_err-body-clause-parses
unfolding rules
returns-in_err-body-clause-parses c =
    let p = err_from_is_err_and c.from_residual-in_err-body.result c.from_residual-in_err-body.ensures.1 in
    rw (p.1, p.2) (lift_fault (row.braced 0 (rule (level.Body 1))) (rule level.Function) _ _ c.in_err-body.field-0.0 (λ o s q. ruled (seq c.in_ok-place.ensures.parses (seq c.in_ok-name_place.ensures.parses (seq c.in_ok-rest.ensures.parses (seq c.in_ok-params.ensures.parses (seq c.in_ok-rest-2.ensures.parses (stop o s q))))))) (c.in_err-body.ensures.parses))

pub returns-clause-parses : goal.returns-clause-parses
unfolding rules
returns-clause-parses c =
    sees (ap (λ (n : List ℕ). tree.function c.in_ok-place.place (tree.name c.in_ok-name_place.name_place n) (names c.in_ok-params.params.items) (view_stmts c.in_ok-body.body.items)) c.in_ok-name.ensures) (ruled (seq c.in_ok-place.ensures.parses (seq c.in_ok-name_place.ensures.parses (seq c.in_ok-rest.ensures.parses (seq c.in_ok-params.ensures.parses (seq c.in_ok-rest-2.ensures.parses (seq c.in_ok-body.ensures.parses ret)))))))
