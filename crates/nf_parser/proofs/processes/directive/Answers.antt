use Rattle.std.proofs.Common.{ℕ, List, ap, map}
use Rattle.std.proofs.lemmas.Result.{err_from_is_err_and}
use Rattle.nf_grammar.specs.Gram.{rule}
use Rattle.nf_grammar.proofs.Short.{ret, seq, ruled, stop, sees}
use Rattle.nf_ast.specs.View.{view_arg, trees}
use Rattle.nf_exprs.specs.Rules.{rules}
use Rattle.nf_exprs.proofs.Steps.{lift_fault}
use Rattle.nf_ast.specs.Tree as tree
use Rattle.nf_exprs.specs.Level as level
use Rattle.nf_exprs.specs.Tokens as kind
use Rattle.nf_exprs.specs.Rules as row
use Rattle.nf_parser.proofs.processes.directive.Goals as goal

pub returns-in_err-place-clause-parses : goal.returns-in_err-place-clause-parses
unfolding rules
returns-in_err-place-clause-parses c =
    let p = err_from_is_err_and c.from_residual.result c.from_residual.ensures.1 in
    rw (p.1, p.2) (lift_fault (row.kind kind.name_of) (row.with_sep (rule level.Directive)) _ _ c.in_err-place.field-0.0 (λ o s q. stop o s (ruled (stop o s q))) (c.in_err-place.ensures.parses))

pub returns-in_err-args-clause-parses : goal.returns-in_err-args-clause-parses
unfolding rules
returns-in_err-args-clause-parses c =
    let p = err_from_is_err_and c.from_residual-in_err-args.result c.from_residual-in_err-args.ensures.1 in
    rw (p.1, p.2) (lift_fault (row.directive_args) (row.with_sep (rule level.Directive)) _ _ c.in_err-args.field-0.0 (λ o s q. stop o s (ruled (seq c.in_ok-place.ensures.parses (stop o s q)))) (c.in_err-args.ensures.parses))

pub returns-in_err-rest-clause-parses : goal.returns-in_err-rest-clause-parses
unfolding rules
returns-in_err-rest-clause-parses c =
    let p = err_from_is_err_and c.from_residual-in_err-rest.result c.from_residual-in_err-rest.ensures.1 in
    rw (p.1, p.2) (lift_fault (row.sep) (row.with_sep (rule level.Directive)) _ _ c.in_err-rest.field-0.0 (λ o s q. seq (ruled (seq c.in_ok-place.ensures.parses (seq c.in_ok-args.ensures.parses ret))) (stop o s q)) (c.in_err-rest.ensures.parses))

pub returns-clause-parses : goal.returns-clause-parses
unfolding rules
returns-clause-parses c =
    sees (ap (λ (n : List ℕ). tree.directive (tree.name c.in_ok-place.place n) (trees (map view_arg c.in_ok-args.args.items))) c.in_ok-name.ensures) (seq (ruled (seq c.in_ok-place.ensures.parses (seq c.in_ok-args.ensures.parses ret))) (seq c.in_ok-rest.ensures.parses ret))
