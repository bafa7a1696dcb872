use Rattle.std.specs.Prelude.{codes}
use Rattle.std.proofs.lemmas.Result.{err_from_is_err_and}
use Rattle.nf_grammar.specs.Gram.{rule}
use Rattle.nf_grammar.proofs.Short.{ret, seq, ruled, stop}
use Rattle.nf_exprs.specs.Rules.{rules}
use Rattle.nf_exprs.proofs.Steps.{lift_fault}
use Rattle.nf_exprs.specs.Level as level
use Rattle.nf_exprs.specs.Rules as row
use Rattle.nf_parser.proofs.inputs.section.Goals as goal

pub returns-in_err-place-clause-parses : goal.returns-in_err-place-clause-parses
unfolding rules
returns-in_err-place-clause-parses c =
    let p = err_from_is_err_and c.from_residual.result c.from_residual.ensures.1 in
    rw (p.1, p.2) (lift_fault (row.head (codes "input")) (rule level.Inputs) _ _ c.in_err-place.field-0.0 (λ o s q. ruled (stop o s q)) (c.in_err-place.ensures.parses))

pub returns-in_err-inputs-clause-parses : goal.returns-in_err-inputs-clause-parses
unfolding rules
returns-in_err-inputs-clause-parses c =
    let p = err_from_is_err_and c.from_residual-in_err-inputs.result c.from_residual-in_err-inputs.ensures.1 in
    rw (p.1, p.2) (lift_fault (row.inputs) (rule level.Inputs) _ _ c.in_err-inputs.field-0.0 (λ o s q. ruled (seq c.in_ok-place.ensures.parses (stop o s q))) (c.in_err-inputs.ensures.parses))

pub returns-clause-parses : goal.returns-clause-parses
unfolding rules
returns-clause-parses c =
    ruled (seq c.in_ok-place.ensures.parses (seq c.in_ok-inputs.ensures.parses ret))
