use Rattle.std.proofs.Common.{arith}
use Rattle.std.proofs.lemmas.Iterator.{YieldsList-from_chars}
use Rattle.std.proofs.lemmas.Iterator.Consumers.{count_from_yields_List}
use Rattle.nf_texts.proofs.characters.char_count.Goals as goal

pub returns-clause-count : goal.returns-clause-count
returns-clause-count c = count_from_yields_List c.chars.result c.count.result c.count.ensures.ran (YieldsList-from_chars c.args.text.now c.utf8.text c.chars.ensures.rest)

pub returns-clause-small : goal.returns-clause-small
returns-clause-small c = omega (arith, c.well_formed.0, c.chars.ensures.len, c.count.ensures.bound)
