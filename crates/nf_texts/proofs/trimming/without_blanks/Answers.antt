use Rattle.std.proofs.Common.{◌∙◌, sym, ap}
use Rattle.std.specs.Prelude.{reverse}
use Rattle.std.specs.Str.{encode_utf8_all}
use Rattle.std.proofs.lemmas.Str.{encodes-chars}
use Rattle.nf_texts.specs.Texts.{without_blanks}
use Rattle.nf_texts.proofs.trimming.without_blanks.Goals as goal

pub returns : goal.returns
returns c =
    sym (encodes-chars c.without_last_blanks.result.now c.without_last_blanks.utf8) ∙ ap encode_utf8_all (c.without_last_blanks.ensures ∙ ap (λ l. reverse (without_blanks (reverse l))) c.without_first_blanks.ensures)
