use Rattle.std.proofs.Common.{◌≡◌, ◌∙◌, Err, ap, map, sym, rules}
use Rattle.nf_ast.specs.View.{trees, view, view_arg}
use Rattle.nf_meaning.specs.Directives.{only_arg, strategy_in, word_in}
use Rattle.nf_lowered.proofs.Joining.{fault_on}
use Rattle.nf_called.specs.Directives.{word_of}
use Rattle.nf_called.specs.Leaves.{leaf_of, leaf_word}
use Rattle.nf_called.proofs.ByName.{word_is}
use Rattle.nf_called.proofs.Steps.{gives_as, then_gives}
use Rattle.nf_called.proofs.directives.strategy_in.Goals as goal

pub returns-in_err-expr : goal.returns-in_err-expr
returns-in_err-expr c =
    let e = c.in_err-expr.field-0.0 in
    let err : c.from_residual.result ≡ Err e = search rules in
    rw err (fault_on (only_arg c.args.place (trees (map view_arg c.args.args.now))) (λ t. strategy_in c.args.place (word_in t)) e c.in_err-expr.ensures)

pub returns : goal.returns
returns c =
    let p = c.args.place in
    let r = c.strategy_of.result in
    then_gives (λ t. view c.in_ok-expr.expr.now ≡ t) (λ s w. word_of s ≡ w) (only_arg p (trees (map view_arg c.args.args.now))) (λ t. strategy_in p (word_in t)) r c.in_ok-expr.ensures
    (λ t is. gives_as (λ s w. word_of s ≡ w) (strategy_in p (word_in t)) _ r
    (ap (strategy_in p) (word_is t ∙ ap (λ u. leaf_word (leaf_of u)) (sym is) ∙ ap leaf_word (sym c.leaf_of.ensures.leaf))) c.strategy_of.ensures)
