use Rattle.std.proofs.Common.{refl}
use Rattle.std.specs.Prelude.{codes}
use Rattle.std.proofs.lemmas.Result.{err_from_is_err_and}
use Rattle.nf_grammar.specs.Gram.{rule}
use Rattle.nf_grammar.proofs.Short.{ret, seq, off, first_arm, second_arm, ruled, stop}
use Rattle.nf_exprs.specs.Rules.{rules}
use Rattle.nf_exprs.proofs.Steps.{took, lift_fault}
use Rattle.nf_parser.proofs.Words.{other_word}
use Rattle.nf_exprs.specs.Level as level
use Rattle.nf_exprs.specs.Rules as row
use Rattle.nf_parser.proofs.inputs.one_or_tuple.Goals as goal

pub returns-in_err-parts-clause-parses : goal.returns-in_err-parts-clause-parses
unfolding rules
returns-in_err-parts-clause-parses c =
    let p = err_from_is_err_and c.from_residual.result c.from_residual.ensures.1 in
    rw (p.1, p.2) (lift_fault (row.commas (rule level.Input)) (row.some_input) _ _ c.in_err-parts.field-0.0 (λ o s q. second_arm (ruled (second_arm (off (other_word (codes "tuple") (codes "val") refl c.in-Some.ensures)) (second_arm (off (other_word (codes "tuple") (codes "path") refl c.in-Some.ensures)) (off (other_word (codes "tuple") (codes "stdin") refl c.in-Some.ensures))))) (took refl c.in-Some.ensures (stop o s q))) (c.in_err-parts.ensures.parses))

pub returns-in-Some-clause-parses : goal.returns-in-Some-clause-parses
unfolding rules
returns-in-Some-clause-parses c =
    second_arm (ruled (second_arm (off (other_word (codes "tuple") (codes "val") refl c.in-Some.ensures)) (second_arm (off (other_word (codes "tuple") (codes "path") refl c.in-Some.ensures)) (off (other_word (codes "tuple") (codes "stdin") refl c.in-Some.ensures))))) (took refl c.in-Some.ensures (seq c.in_ok-parts.ensures.parses ret))

pub returns-in_err-part-clause-parses : goal.returns-in_err-part-clause-parses
unfolding rules
returns-in_err-part-clause-parses c =
    let p = err_from_is_err_and c.from_residual-in_err-part.result c.from_residual-in_err-part.ensures.1 in
    rw (p.1, p.2) (lift_fault (rule level.Input) (row.some_input) _ _ c.in_err-part.field-0.0 (λ o s q. first_arm q (off c.in_default.ensures)) (c.in_err-part.ensures.parses))

pub returns-clause-parses : goal.returns-clause-parses
unfolding rules
returns-clause-parses c =
    first_arm c.in_ok-part.ensures.parses (off c.in_default.ensures)
