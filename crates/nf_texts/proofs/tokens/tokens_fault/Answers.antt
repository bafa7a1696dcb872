use Rattle.std.specs.Str.{chars}
use Rattle.std.specs.List.{slice_split}
use Rattle.std.proofs.Common.{sym}
use Rattle.nf_texts.specs.Texts.{is_one_of, token_texts}
use Rattle.nf_texts.proofs.Parts.{are_texts}
use Rattle.nf_texts.proofs.tokens.tokens_fault.Goals as goal

pub returns : goal.returns
returns c =
    c.list_fault.ensures (token_texts (is_one_of (chars c.args.separators.now)) (chars c.args.text.now)) (are_texts (slice_split (is_one_of (chars c.args.separators.now)) (chars c.args.text.now))) (sym c.token_count-count.ensures) (sym c.tokens_weight-weight.ensures)
