use Rattle.std.proofs.Common.{◌≡◌, ◌∙◌, true, false, ap, rules}
use Rattle.std.specs.Prelude.{bytes_eq, codes}
use Rattle.nf_meaning.specs.Directives.{strategy_in}
use Rattle.nf_called.specs.declared.directives.Strategy.TheVariants as strategy
use Rattle.nf_called.specs.Directives.{word_of}
use Rattle.nf_called.specs.Leaves.{leaf_word, view_leaf}
use Rattle.nf_called.proofs.Steps.{value_as}
use Rattle.nf_called.proofs.Words.{word_known, word_unknown}
use Rattle.nf_called.proofs.directives.strategy_of.Goals as goal

pub returns-then-eq : goal.returns-then-eq
returns-then-eq c =
    let w = c.in-Word.word.now in
    let same : bytes_eq w (word_of strategy.Terminate) ≡ true = search rules in
    value_as (λ v. word_of strategy.Terminate ≡ v) _ _ (ap (λ l. strategy_in c.args.place (leaf_word (view_leaf l))) c.in-Word.is) (word_known c.args.place strategy.Terminate w same)

pub returns-then-eq-2 : goal.returns-then-eq-2
returns-then-eq-2 c =
    let w = c.in-Word.word.now in
    let same : bytes_eq w (word_of strategy.Ignore) ≡ true = search rules in
    value_as (λ v. word_of strategy.Ignore ≡ v) _ _ (ap (λ l. strategy_in c.args.place (leaf_word (view_leaf l))) c.in-Word.is) (word_known c.args.place strategy.Ignore w same)

pub returns-then-eq-3 : goal.returns-then-eq-3
returns-then-eq-3 c =
    let w = c.in-Word.word.now in
    let same : bytes_eq w (word_of strategy.Retry) ≡ true = search rules in
    value_as (λ v. word_of strategy.Retry ≡ v) _ _ (ap (λ l. strategy_in c.args.place (leaf_word (view_leaf l))) c.in-Word.is) (word_known c.args.place strategy.Retry w same)

pub returns : goal.returns
returns c =
    let w = c.in-Word.word.now in
    let a : bytes_eq w (codes "terminate") ≡ false = search rules in
    let b : bytes_eq w (codes "ignore") ≡ false = search rules in
    let d : bytes_eq w (codes "retry") ≡ false = search rules in
    ap (λ l. strategy_in c.args.place (leaf_word (view_leaf l))) c.in-Word.is ∙ word_unknown c.args.place w a b d
