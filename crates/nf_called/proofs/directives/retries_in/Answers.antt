use Rattle.std.proofs.Common.{◌≡◌, ◌∙◌, Err, ap, map, sym, rules}
use Rattle.nf_ast.specs.View.{trees, view, view_arg}
use Rattle.nf_meaning.specs.Directives.{only_arg, retries_in}
use Rattle.nf_lowered.proofs.Joining.{fault_on}
use Rattle.nf_called.specs.Leaves.{leaf_count, leaf_of}
use Rattle.nf_called.proofs.ByName.{count_is}
use Rattle.nf_called.proofs.Steps.{gives_as, then_gives}
use Rattle.nf_called.proofs.directives.retries_in.Goals as goal

pub returns-in_err-expr : goal.returns-in_err-expr
returns-in_err-expr c =
    let e = c.in_err-expr.field-0.0 in
    let err : c.from_residual.result ≡ Err e = search rules in
    rw err (fault_on (only_arg c.args.place (trees (map view_arg c.args.args.now))) (retries_in c.args.place) e c.in_err-expr.ensures)

pub returns : goal.returns
returns c =
    let p = c.args.place in
    let r = c.count_of.result in
    then_gives (λ t. view c.in_ok-expr.expr.now ≡ t) (λ k n. k ≡ n) (only_arg p (trees (map view_arg c.args.args.now))) (retries_in p) r c.in_ok-expr.ensures
    (λ t is. gives_as (λ k n. k ≡ n) (retries_in p t) _ r
    (count_is p t ∙ ap (λ u. leaf_count p (leaf_of u)) (sym is) ∙ ap (leaf_count p) (sym c.leaf_of.ensures.leaf)) c.count_of.ensures)
