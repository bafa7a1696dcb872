use Rattle.std.proofs.Common.{◌<◌, suc, length, subst, arith}
use Rattle.std.proofs.lemmas.Result.{err_from_is_err_and}
use Rattle.nf_grammar.specs.Gram.{bind, many}
use Rattle.nf_grammar.proofs.Short.{seq, stop}
use Rattle.nf_grammar.proofs.Outcomes.{grouped}
use Rattle.nf_ast.specs.Tops.{view_output_part}
use Rattle.nf_exprs.specs.Rules.{rules}
use Rattle.nf_exprs.specs.Parses.{Outcome}
use Rattle.nf_exprs.proofs.Steps.{lift_fault, views_push, views_first}
use Rattle.nf_parser.specs.Ends.{tuple_end}
use Rattle.nf_parser.proofs.Tuples.{tuple_ends, tuple_stops, tuple_goes, comma_shorter}
use Rattle.nf_ast.specs.Tree as tree
use Rattle.nf_exprs.specs.Tokens as kind
use Rattle.nf_exprs.specs.Rules as row
use Rattle.nf_parser.proofs.outputs.parts.Goals as goal

pub returns-in_err-first-clause-parses : goal.returns-in_err-first-clause-parses
unfolding rules
returns-in_err-first-clause-parses c =
    let p = err_from_is_err_and c.from_residual.result c.from_residual.ensures.1 in
    rw (p.1, p.2) (lift_fault (row.output_value) (tuple_end c.args.place) _ _ c.in_err-first.field-0.0 (λ o s q. stop o s (stop o s q)) (c.in_err-first.ensures.parses))

pub loop-after-init : goal.loop-after-init
unfolding rules
loop-after-init c =
    (c.in_ok-first.ensures.shorter, 0, λ o p. grouped (seq c.in_ok-first.ensures.parses (subst (λ a. Outcome (bind (many kind.outputs_end (row.comma_then row.output_value) 0 a) (λ xs. row.with_sep (row.with_options (tree.tuple c.args.place xs)))) c.in_ok-first.rest.now o) (views_first view_output_part _ _ _ c.new-all.ensures.items c.in_ok-push.ensures.items) p)))

pub returns-in_err-next-clause-parses : goal.returns-in_err-next-clause-parses
unfolding rules
returns-in_err-next-clause-parses c =
    let p = err_from_is_err_and c.from_residual-in_err-next.result c.from_residual-in_err-next.ensures.1 in
    rw (p.1, p.2) (lift_fault (row.output_value) (tuple_end c.args.place) _ _ c.in_err-next.field-0.0 (λ o s q. c.loop-after.invariant.2 o (tuple_stops _ _ _ _ _ tt c.in-Some.ensures o s q)) (c.in_err-next.ensures.parses))

pub loop-after-preserved : goal.loop-after-preserved
unfolding rules
loop-after-preserved c =
    let shorter : length c.in_ok-next.after.now < length c.args.tokens.now = omega (arith, c.loop-after.invariant.0, c.in_ok-next.ensures.shorter, comma_shorter c.in-Some.ensures) in
    (shorter, suc c.loop-after.invariant.1, λ o p. c.loop-after.invariant.2 o (tuple_goes _ _ _ _ _ c.in-Some.ensures _ _ o c.in_ok-next.ensures.parses (subst (λ a. Outcome (bind (many kind.outputs_end (row.comma_then row.output_value) (suc c.loop-after.invariant.1) a) (λ xs. row.with_sep (row.with_options (tree.tuple c.args.place xs)))) c.in_ok-next.after.now o) (views_push view_output_part _ _ _ c.in_ok-push-2.ensures.items) p)))

pub returns-clause-parses : goal.returns-clause-parses
unfolding rules
returns-clause-parses c =
    λ o p. c.loop-after.invariant.2 o (tuple_ends c.args.place _ _ _ o c.in_default.ensures p)
