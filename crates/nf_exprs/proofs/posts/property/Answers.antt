use Rattle.std.proofs.Common.{ℕ, List, ap, ◌∙◌}
use Rattle.std.proofs.lemmas.Result.{err_from_is_err_and}
use Rattle.nf_token.specs.declared.token.Mark.TheVariants as m
use Rattle.nf_grammar.proofs.Short.{ret, seq, stop, sees}
use Rattle.nf_ast.specs.Tree as tree
use Rattle.nf_ast.specs.Tree.{Tree}
use Rattle.nf_ast.specs.View as view
use Rattle.nf_exprs.specs.Level.{Prim}
use Rattle.nf_exprs.specs.Tokens.{mark_of, name_of}
use Rattle.nf_exprs.specs.Rules as row
use Rattle.nf_exprs.specs.Rules.{kind, mark, no_comma, no_part, listed}
use Rattle.nf_exprs.proofs.Steps.{lift_fault, as_short}
use Rattle.nf_exprs.proofs.posts.property.Goals as goal

pub returns-in_err-rest-clause-parses : goal.returns-in_err-rest-clause-parses
returns-in_err-rest-clause-parses c = λ n e h.
    let p = err_from_is_err_and c.from_residual.result c.from_residual.ensures.1 in
    rw (p.1, p.2) (lift_fault (mark m.Dot) (row.property n e) _ _ c.in_err-rest.field-0.0 (λ o s q. stop o s (as_short n (mark_of m.Dot) h q)) (c.in_err-rest.ensures.parses))

pub returns-in_err-place-clause-parses : goal.returns-in_err-place-clause-parses
returns-in_err-place-clause-parses c = λ n e h.
    let p = err_from_is_err_and c.from_residual-in_err-place.result c.from_residual-in_err-place.ensures.1 in
    rw (p.1, p.2) (lift_fault (kind name_of) (row.property n e) _ _ c.in_err-place.field-0.0 (λ o s q. seq (as_short n (mark_of m.Dot) h c.in_ok-rest.ensures.parses) (stop o s q)) (c.in_err-place.ensures.parses))

pub returns-clause-parses : goal.returns-clause-parses
returns-clause-parses c = λ n e h.
    sees (ap (view.applied e) c.property-part.ensures ∙ ap (λ (x : List ℕ). tree.property e (tree.name c.in_ok-place.place x)) c.in_ok-copy.ensures) (seq (as_short n (mark_of m.Dot) h c.in_ok-rest.ensures.parses) (seq c.in_ok-place.ensures.parses ret))
