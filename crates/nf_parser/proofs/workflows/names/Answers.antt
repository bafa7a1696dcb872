use Rattle.std.proofs.Common.{◌≤◌, ℕ, suc, List, length, ap, ◌∙◌, arith, map}
use Rattle.std.proofs.lemmas.Result.{err_from_is_err_and}
use Rattle.nf_grammar.proofs.Short.{ret, misses, seq, with_acc, stop}
use Rattle.nf_ast.specs.Tree.{snoc}
use Rattle.nf_ast.specs.View.{trees, name_tree}
use Rattle.nf_exprs.specs.Rules.{rules}
use Rattle.nf_exprs.proofs.Steps.{lift_fault, views_push, each_goes, each_stops}
use Rattle.nf_parser.proofs.Words.{goes_here, ends_here}
use Rattle.nf_parser.proofs.Stray.{list_ends, name_at_label}
use Rattle.nf_ast.specs.Tree as tree
use Rattle.nf_exprs.specs.Tokens as kind
use Rattle.nf_exprs.specs.Rules as row
use Rattle.nf_parser.proofs.workflows.names.Goals as goal

pub loop-rest-init : goal.loop-rest-init
unfolding rules
loop-rest-init c =
    (omega arith, 0, λ o p. with_acc (ap (λ xs. trees (map name_tree xs)) c.new-all.ensures.items) p)

pub returns-in_err-place-clause-parses : goal.returns-in_err-place-clause-parses
unfolding rules
returns-in_err-place-clause-parses c =
    let p = err_from_is_err_and c.from_residual.result c.from_residual.ensures.1 in
    rw (p.1, p.2) (lift_fault (row.kind kind.name_of) (row.taken_names) _ _ c.in_err-place.field-0.0 (λ o s q. c.loop-rest.invariant.2 o (each_stops kind.directives_end (row.with_sep (row.kind kind.name_of)) _ _ _ (goes_here _ _ c.starts_name.ensures c.loop-rest-test.true) o s (stop o s q))) (c.in_err-place.ensures.parses))

pub returns-in_err-after-clause-parses : goal.returns-in_err-after-clause-parses
unfolding rules
returns-in_err-after-clause-parses c =
    let p = err_from_is_err_and c.from_residual-in_err-after.result c.from_residual-in_err-after.ensures.1 in
    rw (p.1, p.2) (lift_fault (row.sep) (row.taken_names) _ _ c.in_err-after.field-0.0 (λ o s q. c.loop-rest.invariant.2 o (each_stops kind.directives_end (row.with_sep (row.kind kind.name_of)) _ _ _ (goes_here _ _ c.starts_name.ensures c.loop-rest-test.true) o s (seq c.in_ok-place.ensures.parses (stop o s q)))) (c.in_err-after.ensures.parses))

pub loop-rest-preserved : goal.loop-rest-preserved
unfolding rules
loop-rest-preserved c =
    let shorter : length c.in_ok-after.after.now ≤ length c.args.tokens.now = omega (arith, c.loop-rest.invariant.0, c.in_ok-place.ensures.shorter, c.in_ok-after.ensures.shorter) in
    (shorter, suc c.loop-rest.invariant.1, λ o p. c.loop-rest.invariant.2 o (each_goes kind.directives_end (row.with_sep (row.kind kind.name_of)) _ _ _ _ _ o (goes_here _ _ c.starts_name.ensures c.loop-rest-test.true) (seq c.in_ok-place.ensures.parses (seq c.in_ok-after.ensures.parses ret)) (with_acc (views_push name_tree _ _ _ c.in_ok-push.ensures.items ∙ ap (λ (n : List ℕ). snoc (trees (map name_tree c.loop-rest.all.items)) (tree.name c.in_ok-place.place n)) c.in_ok-name.ensures) p)))

pub returns-clause-parses : goal.returns-clause-parses
unfolding rules
returns-clause-parses c =
    c.loop-rest.invariant.2 _ (list_ends (row.kind kind.name_of) _ _ _ (ends_here _ _ c.starts_name.ensures c.loop-rest-test.false) (λ h. misses h) (λ l. name_at_label _ l))
