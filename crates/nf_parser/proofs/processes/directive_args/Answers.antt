use Rattle.std.proofs.Common.{sym, ◌∙◌, map}
use Rattle.std.proofs.lemmas.Result.{err_from_is_err_and}
use Rattle.nf_grammar.specs.Gram.{rule}
use Rattle.nf_grammar.proofs.Short.{ret, seq, stop}
use Rattle.nf_ast.specs.View.{view_arg, trees}
use Rattle.nf_exprs.specs.Rules.{rules}
use Rattle.nf_exprs.proofs.Steps.{lift_fault, lifted}
use Rattle.nf_parser.proofs.Words.{mark_came, mark_missed}
use Rattle.nf_parser.proofs.Parts.{round_first, bare_second}
use Rattle.nf_token.specs.declared.token.Mark.TheVariants as m
use Rattle.nf_exprs.specs.Level as level
use Rattle.nf_exprs.specs.Tokens as kind
use Rattle.nf_exprs.specs.Rules as row
use Rattle.nf_parser.proofs.processes.directive_args.Goals as goal

pub returns-in_err-rest-clause-parses : goal.returns-in_err-rest-clause-parses
unfolding rules
returns-in_err-rest-clause-parses c =
    let p = err_from_is_err_and c.from_residual.result c.from_residual.ensures.1 in
    rw (p.1, p.2) (lift_fault (row.opens 1 m.OpenRound) (row.directive_args) _ _ c.in_err-rest.field-0.0 (λ o s q. round_first _ (mark_came (kind.mark_of m.OpenRound) c.args.tokens.now c.mark.result c.mark.ensures (sym c.is_some.ensures ∙ c.if-is_some.true)) (stop o s q)) (c.in_err-rest.ensures.parses))

pub returns-in_err-args-clause-parses : goal.returns-in_err-args-clause-parses
unfolding rules
returns-in_err-args-clause-parses c =
    let p = err_from_is_err_and c.from_residual-in_err-args.result c.from_residual-in_err-args.ensures.1 in
    rw (p.1, p.2) (lift_fault (row.maybe (rule (level.Args 2)) kind.no_start) (row.directive_args) _ _ c.in_err-args.field-0.0 (λ o s q. round_first _ (mark_came (kind.mark_of m.OpenRound) c.args.tokens.now c.mark.result c.mark.ensures (sym c.is_some.ensures ∙ c.if-is_some.true)) (seq c.in_ok-rest.ensures.parses (stop o s q))) (c.in_err-args.ensures.parses))

pub returns-in_err-rest-2-clause-parses : goal.returns-in_err-rest-2-clause-parses
unfolding rules
returns-in_err-rest-2-clause-parses c =
    let p = err_from_is_err_and c.from_residual-in_err-rest-2.result c.from_residual-in_err-rest-2.ensures.1 in
    rw (p.1, p.2) (lift_fault (row.mark m.CloseRound) (row.directive_args) _ _ c.in_err-rest-2.field-0.0 (λ o s q. round_first _ (mark_came (kind.mark_of m.OpenRound) c.args.tokens.now c.mark.result c.mark.ensures (sym c.is_some.ensures ∙ c.if-is_some.true)) (seq c.in_ok-rest.ensures.parses (seq c.in_ok-args.ensures.parses (stop o s q)))) (c.in_err-rest-2.ensures.parses))

pub returns-then-is_some-clause-parses : goal.returns-then-is_some-clause-parses
unfolding rules
returns-then-is_some-clause-parses c =
    round_first _ (mark_came (kind.mark_of m.OpenRound) c.args.tokens.now c.mark.result c.mark.ensures (sym c.is_some.ensures ∙ c.if-is_some.true)) (seq c.in_ok-rest.ensures.parses (seq c.in_ok-args.ensures.parses (seq c.in_ok-rest-2.ensures.parses ret)))

pub returns-clause-parses : goal.returns-clause-parses
unfolding rules
returns-clause-parses c =
    lifted (λ x. trees (map view_arg x.0.items)) (λ x. x.1.now) (row.maybe (rule (level.Args 1)) kind.no_start) row.directive_args _ _ c.maybe_args-2.result (λ o p. bare_second _ o (mark_missed (kind.mark_of m.OpenRound) c.args.tokens.now c.mark.result c.mark.ensures (sym c.is_some.ensures ∙ c.if-is_some.false)) p) c.maybe_args-2.ensures.parses
