use Rattle.std.proofs.lemmas.Result.{err_from_is_err_and}
use Rattle.nf_grammar.specs.Gram.{rule}
use Rattle.nf_grammar.proofs.Short.{seq, ruled}
use Rattle.nf_exprs.specs.Rules.{rules}
use Rattle.nf_exprs.proofs.Steps.{lift_fault}
use Rattle.nf_exprs.specs.Level as level
use Rattle.nf_exprs.specs.Rules as row
use Rattle.nf_parser.proofs.tops.script.Goals as goal

pub returns-in_err-tops : goal.returns-in_err-tops
unfolding rules
returns-in_err-tops c =
    let p = err_from_is_err_and c.from_residual.result c.from_residual.ensures.1 in
    rw (p.1, p.2) (lift_fault (row.tops) (rule level.Script) _ _ c.in_err-tops.field-0.0 (λ o s q. ruled (seq c.past_separator-rest.ensures.parses q)) (c.in_err-tops.ensures))

pub returns : goal.returns
unfolding rules
returns c =
    ruled (seq c.past_separator-rest.ensures.parses c.in_ok-tops.ensures)
