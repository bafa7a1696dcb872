use Rattle.std.proofs.Common.{ap, ◌∙◌}
use Rattle.std.specs.Str.Iter.{chars_rest}
use Rattle.nf_texts.proofs.Reversing.{reversed_from_collect}
use Rattle.nf_texts.proofs.characters.reversed.Goals as goal

pub returns : goal.returns
returns c = reversed_from_collect c.collect.result c.rev.result c.args.text.now c.utf8.text (ap chars_rest c.rev.ensures.source ∙ c.chars.ensures.rest) c.collect.ensures.ran
