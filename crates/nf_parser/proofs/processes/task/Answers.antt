use Rattle.std.proofs.Common.{sym, ◌∙◌}
use Rattle.std.specs.Prelude.{codes}
use Rattle.std.proofs.lemmas.Result.{err_from_is_err_and}
use Rattle.nf_grammar.specs.Gram.{rule}
use Rattle.nf_grammar.proofs.Short.{ret, seq, fails, off, second_arm, ruled, stop}
use Rattle.nf_exprs.specs.Rules.{rules}
use Rattle.nf_exprs.proofs.Steps.{lift_fault}
use Rattle.nf_parser.proofs.Words.{word_came, word_missed}
use Rattle.nf_parser.proofs.Stray.{script_first}
use Rattle.nf_exprs.specs.Level as level
use Rattle.nf_exprs.specs.Rules as row
use Rattle.nf_parser.proofs.processes.task.Goals as goal

pub returns-in_err-section-clause-parses : goal.returns-in_err-section-clause-parses
unfolding rules
returns-in_err-section-clause-parses c =
    let p = err_from_is_err_and c.from_residual.result c.from_residual.ensures.1 in
    rw (p.1, p.2) (lift_fault (row.body_section (codes "script")) (rule level.Task) _ _ c.in_err-section.field-0.0 (λ o s q. script_first _ o (word_came (codes "script") c.args.tokens.now c.word.result c.word.ensures (sym c.is_some.ensures ∙ c.if-is_some.true)) q) (c.in_err-section.ensures.parses))

pub returns-then-is_some-clause-parses : goal.returns-then-is_some-clause-parses
unfolding rules
returns-then-is_some-clause-parses c =
    script_first _ _ (word_came (codes "script") c.args.tokens.now c.word.result c.word.ensures (sym c.is_some.ensures ∙ c.if-is_some.true)) c.in_ok-section.ensures.parses

pub returns-in_err-text-clause-parses : goal.returns-in_err-text-clause-parses
unfolding rules
returns-in_err-text-clause-parses c =
    let p = err_from_is_err_and c.from_residual-in_err-text.result c.from_residual-in_err-text.ensures.1 in
    rw (p.1, p.2) (lift_fault (row.string 1) (rule level.Task) _ _ c.in_err-text.field-0.0 (λ o s q. ruled (second_arm (fails (off (word_missed (codes "script") c.args.tokens.now c.word.result c.word.ensures (sym c.is_some.ensures ∙ c.if-is_some.false)))) (stop o s q))) (c.in_err-text.ensures.parses))

pub returns-in_err-rest-clause-parses : goal.returns-in_err-rest-clause-parses
unfolding rules
returns-in_err-rest-clause-parses c =
    let p = err_from_is_err_and c.from_residual-in_err-rest.result c.from_residual-in_err-rest.ensures.1 in
    rw (p.1, p.2) (lift_fault (row.sep) (rule level.Task) _ _ c.in_err-rest.field-0.0 (λ o s q. ruled (second_arm (fails (off (word_missed (codes "script") c.args.tokens.now c.word.result c.word.ensures (sym c.is_some.ensures ∙ c.if-is_some.false)))) (seq c.in_ok-text.ensures.parses (stop o s q)))) (c.in_err-rest.ensures.parses))

pub returns-clause-parses : goal.returns-clause-parses
unfolding rules
returns-clause-parses c =
    ruled (second_arm (fails (off (word_missed (codes "script") c.args.tokens.now c.word.result c.word.ensures (sym c.is_some.ensures ∙ c.if-is_some.false)))) (seq c.in_ok-text.ensures.parses (seq c.in_ok-rest.ensures.parses ret)))
