use Rattle.std.proofs.Common.{ℕ, List, refl, ap}
use Rattle.std.specs.Prelude.{codes}
use Rattle.std.proofs.lemmas.Result.{err_from_is_err_and}
use Rattle.nf_grammar.specs.Gram.{rule}
use Rattle.nf_grammar.proofs.Short.{ret, seq, off, first_arm, second_arm, ruled, stop, sees}
use Rattle.nf_exprs.specs.Rules.{rules}
use Rattle.nf_exprs.proofs.Steps.{took, lift_fault}
use Rattle.nf_parser.proofs.Words.{other_word}
use Rattle.nf_ast.specs.Tree as tree
use Rattle.nf_exprs.specs.Level as level
use Rattle.nf_exprs.specs.Rules as row
use Rattle.nf_parser.proofs.inputs.part.Goals as goal

pub returns-in_err-name_place-clause-parses : goal.returns-in_err-name_place-clause-parses
unfolding rules
returns-in_err-name_place-clause-parses c =
    let p = err_from_is_err_and c.from_residual.result c.from_residual.ensures.1 in
    rw (p.1, p.2) (lift_fault (row.one_name) (rule level.Input) _ _ c.in_err-name_place.field-0.0 (λ o s q. ruled (first_arm (took refl c.in-Some.ensures (stop o s q)) (second_arm (off (other_word (codes "val") (codes "path") refl c.in-Some.ensures)) (off (other_word (codes "val") (codes "stdin") refl c.in-Some.ensures))))) (c.in_err-name_place.ensures.parses))

pub returns-in-Some-clause-parses : goal.returns-in-Some-clause-parses
unfolding rules
returns-in-Some-clause-parses c =
    sees (ap (λ (n : List ℕ). tree.val c.in-Some.place (tree.name c.in_ok-name_place.name_place n)) c.in_ok-name.ensures) (ruled (first_arm (took refl c.in-Some.ensures (seq c.in_ok-name_place.ensures.parses ret)) (second_arm (off (other_word (codes "val") (codes "path") refl c.in-Some.ensures)) (off (other_word (codes "val") (codes "stdin") refl c.in-Some.ensures)))))

pub returns-in_err-name_place-2-clause-parses : goal.returns-in_err-name_place-2-clause-parses
unfolding rules
returns-in_err-name_place-2-clause-parses c =
    let p = err_from_is_err_and c.from_residual-in_err-name_place-2.result c.from_residual-in_err-name_place-2.ensures.1 in
    rw (p.1, p.2) (lift_fault (row.one_name) (rule level.Input) _ _ c.in_err-name_place-2.field-0.0 (λ o s q. ruled (second_arm (off c.in_default.ensures) (first_arm (took refl c.in-Some-word.ensures (stop o s q)) (off (other_word (codes "path") (codes "stdin") refl c.in-Some-word.ensures))))) (c.in_err-name_place-2.ensures.parses))

pub returns-in-Some-word-clause-parses : goal.returns-in-Some-word-clause-parses
unfolding rules
returns-in-Some-word-clause-parses c =
    sees (ap (λ (n : List ℕ). tree.path c.in-Some-word.place (tree.name c.in_ok-name_place-2.name_place n)) c.in_ok-name-2.ensures) (ruled (second_arm (off c.in_default.ensures) (first_arm (took refl c.in-Some-word.ensures (seq c.in_ok-name_place-2.ensures.parses ret)) (off (other_word (codes "path") (codes "stdin") refl c.in-Some-word.ensures)))))

pub returns-in_err-place-clause-parses : goal.returns-in_err-place-clause-parses
unfolding rules
returns-in_err-place-clause-parses c =
    let p = err_from_is_err_and c.from_residual-in_err-place.result c.from_residual-in_err-place.ensures.1 in
    rw (p.1, p.2) (lift_fault (row.word (codes "stdin")) (rule level.Input) _ _ c.in_err-place.field-0.0 (λ o s q. ruled (second_arm (off c.in_default.ensures) (second_arm (off c.in_default-word.ensures) (stop o s q)))) (c.in_err-place.ensures.parses))

pub returns-clause-parses : goal.returns-clause-parses
unfolding rules
returns-clause-parses c =
    ruled (second_arm (off c.in_default.ensures) (second_arm (off c.in_default-word.ensures) (seq c.in_ok-place.ensures.parses ret)))
