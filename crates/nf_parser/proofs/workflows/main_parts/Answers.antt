use Rattle.std.proofs.Common.{refl, ap, ◌∙◌, true, inl}
use Rattle.std.specs.Prelude.{codes, not}
use Rattle.std.proofs.lemmas.Result.{err_from_is_err_and}
use Rattle.nf_grammar.specs.Gram.{gives, bind}
use Rattle.nf_grammar.proofs.Short.{ret, seq, fails, off, maybe_not, maybe_is, stop}
use Rattle.nf_ast.specs.Tops.{view_section}
use Rattle.nf_exprs.specs.Rules.{rules}
use Rattle.nf_exprs.proofs.Steps.{comes, lift_fault}
use Rattle.nf_parser.proofs.Words.{word_came, word_missed}
use Rattle.nf_parser.proofs.Parts.{to_label}
use Rattle.nf_parser.proofs.Stray.{goes_past, emit_stands}
use Rattle.nf_exprs.specs.Rules as row
use Rattle.nf_parser.proofs.workflows.main_parts.Goals as goal

pub returns-in_err-main-clause-parses : goal.returns-in_err-main-clause-parses
unfolding rules
returns-in_err-main-clause-parses c =
    let p = err_from_is_err_and c.from_residual.result c.from_residual.ensures.1 in
    rw (p.1, p.2) (λ f. lift_fault ((row.body_section (codes "main"))) (row.main_parts f) _ _ c.in_err-main.field-0.0 (λ o s q. stop o s q) (c.in_err-main.ensures.parses))

pub returns-then-is_none-clause-parses : goal.returns-then-is_none-clause-parses
unfolding rules
returns-then-is_none-clause-parses c =
    λ f. to_label c.in_ok-main.ensures.parses (seq (maybe_not (word_missed (codes "emit") c.in_ok-main.rest.now c.word.result c.word.ensures (c.is_none.ensures ∙ ap not c.if-is_none.true)) (fails (off (word_missed (codes "emit") c.in_ok-main.rest.now c.word.result c.word.ensures (c.is_none.ensures ∙ ap not c.if-is_none.true))))) ret)

pub returns-in_err-emits-clause-parses : goal.returns-in_err-emits-clause-parses
unfolding rules
returns-in_err-emits-clause-parses c =
    let p = err_from_is_err_and c.from_residual-in_err-emits.result c.from_residual-in_err-emits.ensures.1 in
    rw (p.1, p.2) (λ f. lift_fault (row.emit_section) (row.main_parts f) _ _ c.in_err-emits.field-0.0 (λ o s q. goes_past (row.body_section (codes "main")) (λ b. bind (row.maybe_section (codes "emit") row.emit_section) (λ e. gives (f b e))) _ c.in_ok-main.rest.now (view_section c.in_ok-main.main) true o (λ e. emit_stands c.in_ok-main.rest.now f (view_section c.in_ok-main.main) (word_came (codes "emit") c.in_ok-main.rest.now c.word.result c.word.ensures (c.is_none.ensures ∙ ap not c.if-is_none.false))) (inl refl) c.in_ok-main.ensures.parses (stop o s (maybe_is (comes (word_came (codes "emit") c.in_ok-main.rest.now c.word.result c.word.ensures (c.is_none.ensures ∙ ap not c.if-is_none.false)).takes) q))) (c.in_err-emits.ensures.parses))

pub returns-clause-parses : goal.returns-clause-parses
unfolding rules
returns-clause-parses c =
    λ f. goes_past (row.body_section (codes "main")) (λ b. bind (row.maybe_section (codes "emit") row.emit_section) (λ e. gives (f b e))) _ c.in_ok-main.rest.now (view_section c.in_ok-main.main) true _ (λ e. emit_stands c.in_ok-main.rest.now f (view_section c.in_ok-main.main) (word_came (codes "emit") c.in_ok-main.rest.now c.word.result c.word.ensures (c.is_none.ensures ∙ ap not c.if-is_none.false))) (inl refl) c.in_ok-main.ensures.parses (to_label (maybe_is (comes (word_came (codes "emit") c.in_ok-main.rest.now c.word.result c.word.ensures (c.is_none.ensures ∙ ap not c.if-is_none.false)).takes) c.in_ok-emits.ensures.parses) ret)
