use Rattle.std.proofs.Common.{refl, sym, ◌∙◌}
use Rattle.std.specs.Prelude.{codes}
use Rattle.nf_grammar.specs.Gram.{rule}
use Rattle.nf_grammar.proofs.Short.{first_arm, second_arm, ruled}
use Rattle.nf_ast.specs.Tops.{view_top}
use Rattle.nf_exprs.specs.Rules.{rules}
use Rattle.nf_exprs.proofs.Steps.{lifted}
use Rattle.nf_parser.proofs.Words.{word_came, word_missed, mark_came, mark_missed, other_word, word_named, no_keyword, keyword_no_word}
use Rattle.nf_parser.proofs.Parts.{no_small_top, no_process, no_workflow, no_function}
use Rattle.nf_token.specs.declared.token.Keyword.TheVariants as k
use Rattle.nf_exprs.specs.Level as level
use Rattle.nf_exprs.specs.Tokens as kind
use Rattle.nf_exprs.specs.Rules as row
use Rattle.nf_parser.proofs.tops.top.Goals as goal

pub returns-then-is_some-clause-parses : goal.returns-then-is_some-clause-parses
unfolding rules
returns-then-is_some-clause-parses c =
    let e = (word_came (codes "process") c.args.tokens.now c.word.result c.word.ensures (sym c.is_some.ensures ∙ c.if-is_some.true)) in
    lifted (λ x. view_top x.0) (λ x. x.1.now) (rule level.Process) (rule level.Top) _ _ c.process.result (λ o p. ruled (first_arm p (second_arm (no_workflow _ (other_word (codes "process") (codes "workflow") refl e.takes)) (second_arm (no_function _ (no_keyword k.Def (word_named (codes "process") e.takes))) (no_small_top _ (other_word (codes "process") (codes "params") refl e.takes) (other_word (codes "process") (codes "println") refl e.takes) (other_word (codes "process") (codes "log") refl e.takes) (other_word (codes "process") (codes "nextflow") refl e.takes)))))) c.process.ensures.parses

pub returns-then-is_some-2-clause-parses : goal.returns-then-is_some-2-clause-parses
unfolding rules
returns-then-is_some-2-clause-parses c =
    let e = (word_came (codes "workflow") c.args.tokens.now c.word-2.result c.word-2.ensures (sym c.is_some-2.ensures ∙ c.if-is_some-2.true)) in
    lifted (λ x. view_top x.0) (λ x. x.1.now) (rule level.Workflow) (rule level.Top) _ _ c.workflow.result (λ o p. ruled (second_arm (no_process _ (word_missed (codes "process") c.args.tokens.now c.word.result c.word.ensures (sym c.is_some.ensures ∙ c.if-is_some.false))) (first_arm p (second_arm (no_function _ (no_keyword k.Def (word_named (codes "workflow") e.takes))) (no_small_top _ (other_word (codes "workflow") (codes "params") refl e.takes) (other_word (codes "workflow") (codes "println") refl e.takes) (other_word (codes "workflow") (codes "log") refl e.takes) (other_word (codes "workflow") (codes "nextflow") refl e.takes)))))) c.workflow.ensures.parses

pub returns-then-is_some-3-clause-parses : goal.returns-then-is_some-3-clause-parses
unfolding rules
returns-then-is_some-3-clause-parses c =
    let e = (mark_came (kind.keyword_of k.Def) c.args.tokens.now c.keyword.result c.keyword.ensures (sym c.is_some-3.ensures ∙ c.if-is_some-3.true)) in
    lifted (λ x. view_top x.0) (λ x. x.1.now) (rule level.Function) (rule level.Top) _ _ c.function.result (λ o p. ruled (second_arm (no_process _ (word_missed (codes "process") c.args.tokens.now c.word.result c.word.ensures (sym c.is_some.ensures ∙ c.if-is_some.false))) (second_arm (no_workflow _ (word_missed (codes "workflow") c.args.tokens.now c.word-2.result c.word-2.ensures (sym c.is_some-2.ensures ∙ c.if-is_some-2.false))) (first_arm p (no_small_top _ (keyword_no_word k.Def (codes "params") e.takes) (keyword_no_word k.Def (codes "println") e.takes) (keyword_no_word k.Def (codes "log") e.takes) (keyword_no_word k.Def (codes "nextflow") e.takes)))))) c.function.ensures.parses

pub returns-clause-parses : goal.returns-clause-parses
unfolding rules
returns-clause-parses c =
    lifted (λ x. view_top x.0) (λ x. x.1.now) row.small_top (rule level.Top) _ _ c.small_top.result (λ o p. ruled (second_arm (no_process _ (word_missed (codes "process") c.args.tokens.now c.word.result c.word.ensures (sym c.is_some.ensures ∙ c.if-is_some.false))) (second_arm (no_workflow _ (word_missed (codes "workflow") c.args.tokens.now c.word-2.result c.word-2.ensures (sym c.is_some-2.ensures ∙ c.if-is_some-2.false))) (second_arm (no_function _ (mark_missed (kind.keyword_of k.Def) c.args.tokens.now c.keyword.result c.keyword.ensures (sym c.is_some-3.ensures ∙ c.if-is_some-3.false))) p)))) c.small_top.ensures.parses
