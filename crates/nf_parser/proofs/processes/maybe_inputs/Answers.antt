use Rattle.std.proofs.Common.{ap, ◌∙◌}
use Rattle.std.specs.Prelude.{codes, not}
use Rattle.std.proofs.lemmas.Result.{err_from_is_err_and}
use Rattle.nf_grammar.specs.Gram.{rule}
use Rattle.nf_grammar.proofs.Short.{maybe_is}
use Rattle.nf_exprs.specs.Rules.{rules}
use Rattle.nf_exprs.proofs.Steps.{comes, lift_fault}
use Rattle.nf_parser.proofs.Words.{word_came, word_missed}
use Rattle.nf_parser.proofs.Stray.{maybe_inputs_miss}
use Rattle.nf_exprs.specs.Level as level
use Rattle.nf_exprs.specs.Rules as row
use Rattle.nf_parser.proofs.processes.maybe_inputs.Goals as goal

pub returns-then-is_none-clause-parses : goal.returns-then-is_none-clause-parses
unfolding rules
returns-then-is_none-clause-parses c =
    maybe_inputs_miss _ (word_missed (codes "input") c.args.tokens.now c.word.result c.word.ensures (c.is_none.ensures ∙ ap not c.if-is_none.true))

pub returns-in_err-inputs-clause-parses : goal.returns-in_err-inputs-clause-parses
unfolding rules
returns-in_err-inputs-clause-parses c =
    let p = err_from_is_err_and c.from_residual.result c.from_residual.ensures.1 in
    rw (p.1, p.2) (lift_fault (rule level.Inputs) (row.maybe_section (codes "input") (rule level.Inputs)) _ _ c.in_err-inputs.field-0.0 (λ o s q. maybe_is (comes (word_came (codes "input") c.args.tokens.now c.word.result c.word.ensures (c.is_none.ensures ∙ ap not c.if-is_none.false)).takes) q) (c.in_err-inputs.ensures.parses))

pub returns-clause-parses : goal.returns-clause-parses
unfolding rules
returns-clause-parses c =
    maybe_is (comes (word_came (codes "input") c.args.tokens.now c.word.result c.word.ensures (c.is_none.ensures ∙ ap not c.if-is_none.false)).takes) c.in_ok-inputs.ensures.parses
