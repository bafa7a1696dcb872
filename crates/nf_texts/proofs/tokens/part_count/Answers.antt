use Rattle.std.proofs.Common.{◌∙◌, sym, ap, length}
use Rattle.nf_texts.proofs.Parts.{empty_part, filled_part}
use Rattle.nf_texts.proofs.tokens.part_count.Goals as goal

pub returns-then-is_empty : goal.returns-then-is_empty
returns-then-is_empty c = sym (ap length (empty_part c.args.part.now (sym c.is_empty.ensures ∙ c.if-is_empty.true)))

pub returns-else-is_empty : goal.returns-else-is_empty
returns-else-is_empty c = sym (ap length (filled_part c.args.part.now c.utf8.part (sym c.is_empty.ensures ∙ c.if-is_empty.false)))
