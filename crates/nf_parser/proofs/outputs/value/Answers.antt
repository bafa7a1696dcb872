use Rattle.std.proofs.lemmas.Result.{err_from_is_err_and}
use Rattle.nf_grammar.specs.Gram.{rule}
use Rattle.nf_exprs.specs.Rules.{rules}
use Rattle.nf_exprs.proofs.Steps.{lift_fault}
use Rattle.nf_parser.specs.Ends.{tuple_end}
use Rattle.nf_parser.proofs.Tuples.{one_part, as_tuple, part_stops}
use Rattle.nf_exprs.specs.Level as level
use Rattle.nf_exprs.specs.Rules as row
use Rattle.nf_parser.proofs.outputs.value.Goals as goal

pub returns-in_err-parts-clause-parses : goal.returns-in_err-parts-clause-parses
unfolding rules
returns-in_err-parts-clause-parses c =
    let p = err_from_is_err_and c.from_residual.result c.from_residual.ensures.1 in
    rw (p.1, p.2) (lift_fault (tuple_end c.in-Some.place) (row.with_sep (rule level.Output)) _ _ c.in_err-parts.field-0.0 (λ o s q. as_tuple _ o _ _ c.in-Some.ensures q) (c.in_err-parts.ensures.parses))

pub returns-in-Some-clause-parses : goal.returns-in-Some-clause-parses
unfolding rules
returns-in-Some-clause-parses c =
    λ o p. as_tuple _ o _ _ c.in-Some.ensures (c.in_ok-parts.ensures.parses o p)

pub returns-in_err-part-clause-parses : goal.returns-in_err-part-clause-parses
unfolding rules
returns-in_err-part-clause-parses c =
    let p = err_from_is_err_and c.from_residual-in_err-part.result c.from_residual-in_err-part.ensures.1 in
    rw (p.1, p.2) (lift_fault (row.output_value) (row.with_sep (rule level.Output)) _ _ c.in_err-part.field-0.0 (λ o s q. part_stops _ o s c.in_default.ensures q) (c.in_err-part.ensures.parses))

pub returns-clause-parses : goal.returns-clause-parses
unfolding rules
returns-clause-parses c =
    λ o p. one_part _ o _ _ c.in_default.ensures c.in_ok-part.ensures.parses p
