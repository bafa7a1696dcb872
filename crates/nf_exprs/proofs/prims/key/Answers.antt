use Rattle.std.proofs.Common.{ℕ, List, refl, ap}
use Rattle.std.proofs.lemmas.Result.{err_from_is_err_and}
use Rattle.nf_grammar.proofs.Short.{ret, seq, off, stop, sees}
use Rattle.nf_ast.specs.Tree as tree
use Rattle.nf_ast.specs.Tree.{Tree}
use Rattle.nf_exprs.specs.Level.{Prim}
use Rattle.nf_exprs.specs.Tokens.{close_template}
use Rattle.nf_exprs.specs.Rules as row
use Rattle.nf_exprs.specs.Rules.{kind, mark, no_comma, no_part, listed}
use Rattle.nf_exprs.proofs.Literals.{key_name, key_plain, key_template}
use Rattle.nf_exprs.proofs.Steps.{took, lift_fault}
use Rattle.nf_exprs.proofs.prims.key.Goals as goal

pub returns-in-Some-clause-parses : goal.returns-in-Some-clause-parses
returns-in-Some-clause-parses c = sees (ap (λ (x : List ℕ). tree.name c.in-Some.place x) c.in_ok-copy.ensures) (key_name c.args.tokens.now c.in-Some.rest.now c.in-Some.place c.in-Some.name.now c.in-Some.ensures)

pub returns-in-Some-plain-clause-parses : goal.returns-in-Some-plain-clause-parses
returns-in-Some-plain-clause-parses c = sees (ap (λ (x : List ℕ). tree.text c.in-Some-plain.place c.in-Some-plain.kind x) c.in_ok-copy-2.ensures) (key_plain c.args.tokens.now c.in-Some-plain.rest.now c.in-Some-plain.place c.in-Some-plain.kind c.in-Some-plain.text.now c.in-Some-plain.ensures)

pub returns-in_default-open_template-clause-parses : goal.returns-in_default-open_template-clause-parses
returns-in_default-open_template-clause-parses c = key_template c.args.tokens.now _ c.in_default.ensures c.in_default-plain.ensures (off c.in_default-open_template.ensures)

pub returns-in_err-text-clause-parses : goal.returns-in_err-text-clause-parses
returns-in_err-text-clause-parses c =
    let p = err_from_is_err_and c.from_residual-in_err-text.result c.from_residual-in_err-text.ensures.1 in
    rw (p.1, p.2) (lift_fault (row.maybe_text) (row.key) _ _ c.in_err-text.field-0.0 (λ o s q. key_template c.args.tokens.now o c.in_default.ensures c.in_default-plain.ensures (took refl c.in-Some-open_template.ensures (stop o s q))) (c.in_err-text.ensures.parses))

pub returns-in_err-rest-clause-parses : goal.returns-in_err-rest-clause-parses
returns-in_err-rest-clause-parses c =
    let p = err_from_is_err_and c.from_residual-in_err-rest.result c.from_residual-in_err-rest.ensures.1 in
    rw (p.1, p.2) (lift_fault (kind close_template) (row.key) _ _ c.in_err-rest.field-0.0 (λ o s q. key_template c.args.tokens.now o c.in_default.ensures c.in_default-plain.ensures (took refl c.in-Some-open_template.ensures (seq c.in_ok-text.ensures.parses (stop o s q)))) (c.in_err-rest.ensures.parses))

pub returns-clause-parses : goal.returns-clause-parses
returns-clause-parses c = key_template c.args.tokens.now _ c.in_default.ensures c.in_default-plain.ensures (took refl c.in-Some-open_template.ensures (seq c.in_ok-text.ensures.parses (seq c.in_ok-rest.ensures.parses ret)))
