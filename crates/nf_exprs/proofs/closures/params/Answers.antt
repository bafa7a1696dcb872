use Rattle.std.proofs.lemmas.Result.{err_from_is_err_and}
use Rattle.nf_token.specs.declared.token.Mark.TheVariants as m
use Rattle.nf_grammar.specs.Parts.{no_next}
use Rattle.nf_grammar.proofs.Short.{ret, seq, stop}
use Rattle.nf_exprs.specs.Level.{Prim}
use Rattle.nf_exprs.specs.Tokens.{name_of}
use Rattle.nf_exprs.specs.Rules as row
use Rattle.nf_exprs.specs.Rules.{kind, mark, no_comma, no_part, listed}
use Rattle.nf_exprs.proofs.Steps.{lift_fault}
use Rattle.nf_exprs.proofs.closures.params.Goals as goal

pub returns-in_err-names-clause-parses : goal.returns-in_err-names-clause-parses
returns-in_err-names-clause-parses c =
    let p = err_from_is_err_and c.from_residual.result c.from_residual.ensures.1 in
    rw (p.1, p.2) (lift_fault (row.maybe row.names (no_next name_of)) (row.parameters) _ _ c.in_err-names.field-0.0 (λ o s q. stop o s q) (c.in_err-names.ensures.parses))

pub returns-in_err-rest-clause-parses : goal.returns-in_err-rest-clause-parses
returns-in_err-rest-clause-parses c =
    let p = err_from_is_err_and c.from_residual-in_err-rest.result c.from_residual-in_err-rest.ensures.1 in
    rw (p.1, p.2) (lift_fault (mark m.Arrow) (row.parameters) _ _ c.in_err-rest.field-0.0 (λ o s q. seq c.in_ok-names.ensures.parses (stop o s q)) (c.in_err-rest.ensures.parses))

pub returns-clause-parses : goal.returns-clause-parses
returns-clause-parses c = seq c.in_ok-names.ensures.parses (seq c.in_ok-rest.ensures.parses ret)
