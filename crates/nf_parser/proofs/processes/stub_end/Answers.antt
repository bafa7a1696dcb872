use Rattle.std.proofs.Common.{ap, ◌∙◌}
use Rattle.std.specs.Prelude.{codes, not}
use Rattle.std.proofs.lemmas.Result.{err_from_is_err_and}
use Rattle.nf_grammar.specs.Gram.{gives, bind}
use Rattle.nf_grammar.proofs.Short.{ret, seq, maybe_is, stop}
use Rattle.nf_exprs.specs.Rules.{rules}
use Rattle.nf_exprs.proofs.Steps.{comes, lift_fault}
use Rattle.nf_parser.proofs.Words.{word_came, word_missed}
use Rattle.nf_parser.proofs.Stray.{stub_misses}
use Rattle.nf_exprs.specs.Rules as row
use Rattle.nf_parser.proofs.processes.stub_end.Goals as goal

pub returns-in_err-rest-clause-parses : goal.returns-in_err-rest-clause-parses
unfolding rules
returns-in_err-rest-clause-parses c =
    let p = err_from_is_err_and c.from_residual.result c.from_residual.ensures.1 in
    rw (p.1, p.2) (lift_fault (row.closes) (row.stub_end) _ _ c.in_err-rest.field-0.0 (λ o s q. seq (stub_misses _ (word_missed (codes "stub") c.args.tokens.now c.word.result c.word.ensures (c.is_none.ensures ∙ ap not c.if-is_none.true))) (stop o s q)) (c.in_err-rest.ensures.parses))

pub returns-then-is_none-clause-parses : goal.returns-then-is_none-clause-parses
unfolding rules
returns-then-is_none-clause-parses c =
    seq (stub_misses _ (word_missed (codes "stub") c.args.tokens.now c.word.result c.word.ensures (c.is_none.ensures ∙ ap not c.if-is_none.true))) (seq c.in_ok-rest.ensures.parses ret)

pub returns-in_err-stub-clause-parses : goal.returns-in_err-stub-clause-parses
unfolding rules
returns-in_err-stub-clause-parses c =
    let p = err_from_is_err_and c.from_residual-in_err-stub.result c.from_residual-in_err-stub.ensures.1 in
    rw (p.1, p.2) (lift_fault (row.body_section (codes "stub")) (row.stub_end) _ _ c.in_err-stub.field-0.0 (λ o s q. stop o s (maybe_is (comes (word_came (codes "stub") c.args.tokens.now c.word.result c.word.ensures (c.is_none.ensures ∙ ap not c.if-is_none.false)).takes) q)) (c.in_err-stub.ensures.parses))

pub returns-in_err-rest-2-clause-parses : goal.returns-in_err-rest-2-clause-parses
unfolding rules
returns-in_err-rest-2-clause-parses c =
    let p = err_from_is_err_and c.from_residual-in_err-rest-2.result c.from_residual-in_err-rest-2.ensures.1 in
    rw (p.1, p.2) (lift_fault (bind (row.maybe_section (codes "stub") (row.body_section (codes "stub"))) (λ a. bind row.closes (λ c. gives a))) (row.stub_end) _ _ c.in_err-rest-2.field-0.0 (λ o s q. q) (c.in_err-rest-2.ensures.parses (row.maybe_section (codes "stub") (row.body_section (codes "stub"))) _ _ (maybe_is (comes (word_came (codes "stub") c.args.tokens.now c.word.result c.word.ensures (c.is_none.ensures ∙ ap not c.if-is_none.false)).takes) c.in_ok-stub.ensures.parses)))

pub returns-clause-parses : goal.returns-clause-parses
unfolding rules
returns-clause-parses c =
    c.in_ok-rest-2.ensures.parses (row.maybe_section (codes "stub") (row.body_section (codes "stub"))) _ _ (maybe_is (comes (word_came (codes "stub") c.args.tokens.now c.word.result c.word.ensures (c.is_none.ensures ∙ ap not c.if-is_none.false)).takes) c.in_ok-stub.ensures.parses)
