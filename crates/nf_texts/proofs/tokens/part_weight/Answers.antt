use Rattle.std.proofs.Common.{◌∙◌, sym, ap, arith, length}
use Rattle.nf_value.specs.Plain.{plains_of}
use Rattle.nf_value.specs.Code.{all_code}
use Rattle.nf_texts.proofs.Parts.{empty_part, filled_part, one_code}
use Rattle.nf_texts.proofs.tokens.part_weight.Goals as goal

pub returns-then-is_empty : goal.returns-then-is_empty
returns-then-is_empty c = omega (arith, ap (λ l. length (all_code (plains_of l))) (empty_part c.args.part.now (sym c.is_empty.ensures ∙ c.if-is_empty.true)))

pub returns : goal.returns
returns c = omega (arith, c.text_weight.ensures, ap (λ l. length (all_code (plains_of l))) (filled_part c.args.part.now c.utf8.part (sym c.is_empty.ensures ∙ c.if-is_empty.false)), one_code c.args.part.now)
