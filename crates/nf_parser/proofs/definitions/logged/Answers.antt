use Rattle.std.proofs.Common.{ℕ, List, ap}
use Rattle.std.specs.Prelude.{codes}
use Rattle.std.proofs.lemmas.Result.{err_from_is_err_and}
use Rattle.nf_grammar.specs.Gram.{rule}
use Rattle.nf_grammar.proofs.Short.{ret, seq, stop, sees}
use Rattle.nf_ast.specs.View.{view}
use Rattle.nf_exprs.specs.Rules.{rules}
use Rattle.nf_exprs.proofs.Steps.{lift_fault}
use Rattle.nf_token.specs.declared.token.Mark.TheVariants as m
use Rattle.nf_ast.specs.Tree as tree
use Rattle.nf_exprs.specs.Level as level
use Rattle.nf_exprs.specs.Tokens as kind
use Rattle.nf_exprs.specs.Rules as row
use Rattle.nf_parser.proofs.definitions.logged.Goals as goal

pub returns-in_err-place-clause-parses : goal.returns-in_err-place-clause-parses
unfolding rules
returns-in_err-place-clause-parses c =
    let p = err_from_is_err_and c.from_residual.result c.from_residual.ensures.1 in
    rw (p.1, p.2) (lift_fault (row.word (codes "log")) (row.log 0) _ _ c.in_err-place.field-0.0 (λ o s q. stop o s q) (c.in_err-place.ensures.parses))

pub returns-in_err-rest-clause-parses : goal.returns-in_err-rest-clause-parses
unfolding rules
returns-in_err-rest-clause-parses c =
    let p = err_from_is_err_and c.from_residual-in_err-rest.result c.from_residual-in_err-rest.ensures.1 in
    rw (p.1, p.2) (lift_fault (row.mark m.Dot) (row.log 0) _ _ c.in_err-rest.field-0.0 (λ o s q. seq c.in_ok-place.ensures.parses (stop o s q)) (c.in_err-rest.ensures.parses))

pub returns-in_err-name_place-clause-parses : goal.returns-in_err-name_place-clause-parses
unfolding rules
returns-in_err-name_place-clause-parses c =
    let p = err_from_is_err_and c.from_residual-in_err-name_place.result c.from_residual-in_err-name_place.ensures.1 in
    rw (p.1, p.2) (lift_fault (row.kind kind.name_of) (row.log 0) _ _ c.in_err-name_place.field-0.0 (λ o s q. seq c.in_ok-place.ensures.parses (seq c.in_ok-rest.ensures.parses (stop o s q))) (c.in_err-name_place.ensures.parses))

pub returns-in_err-value-clause-parses : goal.returns-in_err-value-clause-parses
unfolding rules
returns-in_err-value-clause-parses c =
    let p = err_from_is_err_and c.from_residual-in_err-value.result c.from_residual-in_err-value.ensures.1 in
    rw (p.1, p.2) (lift_fault (rule (level.Expr 0 0)) (row.log 0) _ _ c.in_err-value.field-0.0 (λ o s q. seq c.in_ok-place.ensures.parses (seq c.in_ok-rest.ensures.parses (seq c.in_ok-name_place.ensures.parses (stop o s q)))) (c.in_err-value.ensures.parses))

pub returns-clause-parses : goal.returns-clause-parses
unfolding rules
returns-clause-parses c =
    sees (ap (λ (n : List ℕ). tree.log c.in_ok-place.place (tree.name c.in_ok-name_place.name_place n) (view c.in_ok-value.value)) c.in_ok-name.ensures) (seq c.in_ok-place.ensures.parses (seq c.in_ok-rest.ensures.parses (seq c.in_ok-name_place.ensures.parses (seq c.in_ok-value.ensures.parses ret))))
