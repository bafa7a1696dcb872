use Rattle.std.proofs.Common.{ap, ◌∙◌}
use Rattle.std.specs.Prelude.{codes, not}
use Rattle.std.proofs.lemmas.Result.{err_from_is_err_and}
use Rattle.nf_grammar.specs.Gram.{rule}
use Rattle.nf_grammar.proofs.Short.{seq, fails, off, ruled, maybe_not, maybe_is, stop}
use Rattle.nf_ast.specs.Tree.{empty}
use Rattle.nf_ast.specs.Tops.{view_take}
use Rattle.nf_exprs.specs.Rules.{rules}
use Rattle.nf_exprs.proofs.Steps.{comes, lift_fault}
use Rattle.nf_parser.proofs.Words.{word_came, word_missed, known_word, unknown_word}
use Rattle.nf_parser.proofs.Stray.{goes_past, strays, main_misses, main_stands}
use Rattle.nf_ast.specs.Tree as tree
use Rattle.nf_exprs.specs.Level as level
use Rattle.nf_exprs.specs.Rules as row
use Rattle.nf_parser.proofs.workflows.parts.Goals as goal

pub returns-in_err-main-clause-parses : goal.returns-in_err-main-clause-parses
unfolding rules
returns-in_err-main-clause-parses c =
    let p = err_from_is_err_and c.from_residual.result c.from_residual.ensures.1 in
    rw (p.1, p.2) (lift_fault (row.main_parts (tree.parts empty)) (rule level.Parts) _ _ c.in_err-main.field-0.0 (λ o s q. ruled (seq (maybe_not (word_missed (codes "take") c.args.tokens.now c.word.result c.word.ensures (c.is_none.ensures ∙ ap not c.if-is_none.true)) (fails (off (word_missed (codes "take") c.args.tokens.now c.word.result c.word.ensures (c.is_none.ensures ∙ ap not c.if-is_none.true))))) q)) (c.in_err-main.ensures.parses (tree.parts empty)))

pub returns-then-is_none-clause-parses : goal.returns-then-is_none-clause-parses
unfolding rules
returns-then-is_none-clause-parses c =
    ruled (seq (maybe_not (word_missed (codes "take") c.args.tokens.now c.word.result c.word.ensures (c.is_none.ensures ∙ ap not c.if-is_none.true)) (fails (off (word_missed (codes "take") c.args.tokens.now c.word.result c.word.ensures (c.is_none.ensures ∙ ap not c.if-is_none.true))))) (c.in_ok-main.ensures.parses (tree.parts empty)))

pub returns-in_err-take-clause-parses : goal.returns-in_err-take-clause-parses
unfolding rules
returns-in_err-take-clause-parses c =
    let p = err_from_is_err_and c.from_residual-in_err-take.result c.from_residual-in_err-take.ensures.1 in
    rw (p.1, p.2) (lift_fault (row.take_section) (rule level.Parts) _ _ c.in_err-take.field-0.0 (λ o s q. ruled (stop o s (maybe_is (comes (word_came (codes "take") c.args.tokens.now c.word.result c.word.ensures (c.is_none.ensures ∙ ap not c.if-is_none.false)).takes) q))) (c.in_err-take.ensures.parses))

pub returns-in-Some-clause-parses : goal.returns-in-Some-clause-parses
unfolding rules
returns-in-Some-clause-parses c =
    ruled (strays (row.maybe_section (codes "take") row.take_section) (λ t. row.main_parts (tree.parts t)) _ c.in_ok-take.rest.now (view_take c.in_ok-take.take) c.is_some.result c.in-Some.left c.in-Some.ensures (λ l e. main_misses c.in_ok-take.rest.now (tree.parts (view_take c.in_ok-take.take)) l (unknown_word (codes "main") c.in_ok-take.rest.now c.word-2.result c.is_some.result c.word-2.ensures c.is_some.ensures e)) (maybe_is (comes (word_came (codes "take") c.args.tokens.now c.word.result c.word.ensures (c.is_none.ensures ∙ ap not c.if-is_none.false)).takes) c.in_ok-take.ensures.parses))

pub returns-in_err-main-2-clause-parses : goal.returns-in_err-main-2-clause-parses
unfolding rules
returns-in_err-main-2-clause-parses c =
    let p = err_from_is_err_and c.from_residual-in_err-main-2.result c.from_residual-in_err-main-2.ensures.1 in
    rw (p.1, p.2) (lift_fault (row.main_parts (tree.parts (view_take c.in_ok-take.take))) (rule level.Parts) _ _ c.in_err-main-2.field-0.0 (λ o s q. ruled (goes_past (row.maybe_section (codes "take") row.take_section) (λ t. row.main_parts (tree.parts t)) _ c.in_ok-take.rest.now (view_take c.in_ok-take.take) c.is_some.result o (λ e. main_stands c.in_ok-take.rest.now (tree.parts (view_take c.in_ok-take.take)) (known_word (codes "main") c.in_ok-take.rest.now c.word-2.result c.is_some.result c.word-2.ensures c.is_some.ensures e)) c.in_default.ensures (maybe_is (comes (word_came (codes "take") c.args.tokens.now c.word.result c.word.ensures (c.is_none.ensures ∙ ap not c.if-is_none.false)).takes) c.in_ok-take.ensures.parses) (q))) (c.in_err-main-2.ensures.parses (tree.parts (view_take c.in_ok-take.take))))

pub returns-clause-parses : goal.returns-clause-parses
unfolding rules
returns-clause-parses c =
    ruled (goes_past (row.maybe_section (codes "take") row.take_section) (λ t. row.main_parts (tree.parts t)) _ c.in_ok-take.rest.now (view_take c.in_ok-take.take) c.is_some.result _ (λ e. main_stands c.in_ok-take.rest.now (tree.parts (view_take c.in_ok-take.take)) (known_word (codes "main") c.in_ok-take.rest.now c.word-2.result c.is_some.result c.word-2.ensures c.is_some.ensures e)) c.in_default.ensures (maybe_is (comes (word_came (codes "take") c.args.tokens.now c.word.result c.word.ensures (c.is_none.ensures ∙ ap not c.if-is_none.false)).takes) c.in_ok-take.ensures.parses) (c.in_ok-main-2.ensures.parses (tree.parts (view_take c.in_ok-take.take))))
