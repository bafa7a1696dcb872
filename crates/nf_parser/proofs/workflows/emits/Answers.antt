use Rattle.std.specs.Prelude.{codes}
use Rattle.std.proofs.lemmas.Result.{err_from_is_err_and}
use Rattle.nf_grammar.proofs.Short.{ret, seq, stop}
use Rattle.nf_exprs.specs.Rules.{rules}
use Rattle.nf_exprs.proofs.Steps.{lift_fault}
use Rattle.nf_parser.proofs.Parts.{to_label}
use Rattle.nf_exprs.specs.Rules as row
use Rattle.nf_parser.proofs.workflows.emits.Goals as goal

pub returns-in_err-place-clause-parses : goal.returns-in_err-place-clause-parses
unfolding rules
returns-in_err-place-clause-parses c =
    let p = err_from_is_err_and c.from_residual.result c.from_residual.ensures.1 in
    rw (p.1, p.2) (lift_fault (row.head (codes "emit")) (row.emit_section) _ _ c.in_err-place.field-0.0 (λ o s q. stop o s q) (c.in_err-place.ensures.parses))

pub returns-in_err-emits-clause-parses : goal.returns-in_err-emits-clause-parses
unfolding rules
returns-in_err-emits-clause-parses c =
    let p = err_from_is_err_and c.from_residual-in_err-emits.result c.from_residual-in_err-emits.ensures.1 in
    rw (p.1, p.2) (lift_fault (row.emits) (row.emit_section) _ _ c.in_err-emits.field-0.0 (λ o s q. seq c.in_ok-place.ensures.parses (stop o s q)) (c.in_err-emits.ensures.parses))

pub returns-clause-parses : goal.returns-clause-parses
unfolding rules
returns-clause-parses c =
    seq c.in_ok-place.ensures.parses (to_label c.in_ok-emits.ensures.parses ret)
