use Rattle.std.proofs.lemmas.Result.{err_from_is_err_and}
use Rattle.nf_grammar.specs.Gram.{rule}
use Rattle.nf_grammar.proofs.Short.{ret, seq, stop}
use Rattle.nf_exprs.specs.Rules.{rules}
use Rattle.nf_exprs.proofs.Steps.{lift_fault}
use Rattle.nf_parser.proofs.Parts.{to_label}
use Rattle.nf_exprs.specs.Level as level
use Rattle.nf_exprs.specs.Rules as row
use Rattle.nf_parser.proofs.sections.section.Goals as goal

pub returns-in_err-place-clause-parses : goal.returns-in_err-place-clause-parses
unfolding rules
returns-in_err-place-clause-parses c =
    let p = err_from_is_err_and c.from_residual.result c.from_residual.ensures.1 in
    rw (p.1, p.2) (lift_fault (row.head c.args.word.now) (row.body_section c.args.word.now) _ _ c.in_err-place.field-0.0 (λ o s q. stop o s q) (c.in_err-place.ensures.parses))

pub returns-in_err-body-clause-parses : goal.returns-in_err-body-clause-parses
unfolding rules
returns-in_err-body-clause-parses c =
    let p = err_from_is_err_and c.from_residual-in_err-body.result c.from_residual-in_err-body.ensures.1 in
    rw (p.1, p.2) (lift_fault (rule (level.Body 1)) (row.body_section c.args.word.now) _ _ c.in_err-body.field-0.0 (λ o s q. seq c.in_ok-place.ensures.parses (stop o s q)) (c.in_err-body.ensures.parses))

pub returns-clause-parses : goal.returns-clause-parses
unfolding rules
returns-clause-parses c =
    seq c.in_ok-place.ensures.parses (to_label c.in_ok-body.ensures.parses ret)
