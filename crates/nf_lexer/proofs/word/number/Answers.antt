use Rattle.std.proofs.Common.{ap, sym, ◌∙◌, subst, take}
use Rattle.std.specs.List.{AllPass}
use Rattle.std.specs.Char.{is_ascii_digit}
use Rattle.nf_lexer.proofs.Runs.{number_digits}
use Rattle.nf_lexer.proofs.word.number.Goals as goal

pub value-requires : goal.value-requires
value-requires c =
    let e = c.split_at.ensures.front ∙ ap (λ n. take n c.args.bytes.now) c.number_len.ensures.is in
    subst (AllPass is_ascii_digit) (sym e) (number_digits c.args.bytes.now)
