use Rattle.std.proofs.Common.{refl, sym, ◌∙◌}
use Rattle.std.specs.Prelude.{codes}
use Rattle.nf_grammar.proofs.Short.{off, first_arm, second_arm}
use Rattle.nf_ast.specs.Tops.{view_top}
use Rattle.nf_exprs.specs.Rules.{rules}
use Rattle.nf_exprs.proofs.Steps.{lifted}
use Rattle.nf_parser.proofs.Words.{word_came, word_missed, other_word}
use Rattle.nf_exprs.specs.Rules as row
use Rattle.nf_parser.proofs.tops.small_top.Goals as goal

pub returns-then-is_some-clause-parses : goal.returns-then-is_some-clause-parses
unfolding rules
returns-then-is_some-clause-parses c =
    let e = (word_came (codes "params") c.args.tokens.now c.word.result c.word.ensures (sym c.is_some.ensures ∙ c.if-is_some.true)) in
    lifted (λ x. view_top x.0) (λ x. x.1.now) row.parameter row.small_top _ _ c.parameter.result (λ o p. first_arm p (second_arm (off (other_word (codes "params") (codes "println") refl e.takes)) (second_arm (off (other_word (codes "params") (codes "log") refl e.takes)) (off (other_word (codes "params") (codes "nextflow") refl e.takes))))) c.parameter.ensures.parses

pub returns-then-is_some-2-clause-parses : goal.returns-then-is_some-2-clause-parses
unfolding rules
returns-then-is_some-2-clause-parses c =
    let e = (word_came (codes "println") c.args.tokens.now c.word-2.result c.word-2.ensures (sym c.is_some-2.ensures ∙ c.if-is_some-2.true)) in
    lifted (λ x. view_top x.0) (λ x. x.1.now) (row.print 0) row.small_top _ _ c.printed.result (λ o p. second_arm (off (word_missed (codes "params") c.args.tokens.now c.word.result c.word.ensures (sym c.is_some.ensures ∙ c.if-is_some.false))) (first_arm p (second_arm (off (other_word (codes "println") (codes "log") refl e.takes)) (off (other_word (codes "println") (codes "nextflow") refl e.takes))))) c.printed.ensures.parses

pub returns-then-is_some-3-clause-parses : goal.returns-then-is_some-3-clause-parses
unfolding rules
returns-then-is_some-3-clause-parses c =
    let e = (word_came (codes "log") c.args.tokens.now c.word-3.result c.word-3.ensures (sym c.is_some-3.ensures ∙ c.if-is_some-3.true)) in
    lifted (λ x. view_top x.0) (λ x. x.1.now) (row.log 0) row.small_top _ _ c.logged.result (λ o p. second_arm (off (word_missed (codes "params") c.args.tokens.now c.word.result c.word.ensures (sym c.is_some.ensures ∙ c.if-is_some.false))) (second_arm (off (word_missed (codes "println") c.args.tokens.now c.word-2.result c.word-2.ensures (sym c.is_some-2.ensures ∙ c.if-is_some-2.false))) (first_arm p (off (other_word (codes "log") (codes "nextflow") refl e.takes))))) c.logged.ensures.parses

pub returns-clause-parses : goal.returns-clause-parses
unfolding rules
returns-clause-parses c =
    lifted (λ x. view_top x.0) (λ x. x.1.now) row.dsl row.small_top _ _ c.dsl.result (λ o p. second_arm (off (word_missed (codes "params") c.args.tokens.now c.word.result c.word.ensures (sym c.is_some.ensures ∙ c.if-is_some.false))) (second_arm (off (word_missed (codes "println") c.args.tokens.now c.word-2.result c.word-2.ensures (sym c.is_some-2.ensures ∙ c.if-is_some-2.false))) (second_arm (off (word_missed (codes "log") c.args.tokens.now c.word-3.result c.word-3.ensures (sym c.is_some-3.ensures ∙ c.if-is_some-3.false))) p))) c.dsl.ensures.parses
