use Rattle.std.specs.Prelude.{codes}
use Rattle.std.proofs.lemmas.Result.{err_from_is_err_and}
use Rattle.nf_grammar.specs.Gram.{rule}
use Rattle.nf_grammar.proofs.Short.{ret, seq, ruled, stop}
use Rattle.nf_exprs.specs.Rules.{rules}
use Rattle.nf_exprs.proofs.Steps.{lift_fault}
use Rattle.nf_exprs.specs.Level as level
use Rattle.nf_exprs.specs.Rules as row
use Rattle.nf_parser.proofs.outputs.section.Goals as goal

pub returns-in_err-place-clause-parses : goal.returns-in_err-place-clause-parses
unfolding rules
returns-in_err-place-clause-parses c =
    let p = err_from_is_err_and c.from_residual.result c.from_residual.ensures.1 in
    rw (p.1, p.2) (lift_fault (row.head (codes "output")) (rule level.Outputs) _ _ c.in_err-place.field-0.0 (λ o s q. ruled (stop o s q)) (c.in_err-place.ensures.parses))

pub returns-in_err-outputs-clause-parses : goal.returns-in_err-outputs-clause-parses
unfolding rules
returns-in_err-outputs-clause-parses c =
    let p = err_from_is_err_and c.from_residual-in_err-outputs.result c.from_residual-in_err-outputs.ensures.1 in
    rw (p.1, p.2) (lift_fault (row.outputs) (rule level.Outputs) _ _ c.in_err-outputs.field-0.0 (λ o s q. ruled (seq c.in_ok-place.ensures.parses (stop o s q))) (c.in_err-outputs.ensures.parses))

pub returns-clause-parses : goal.returns-clause-parses
unfolding rules
returns-clause-parses c =
    ruled (seq c.in_ok-place.ensures.parses (seq c.in_ok-outputs.ensures.parses ret))
