use Rattle.std.proofs.lemmas.Iterator.{YieldsList-from_chars, YieldsList-from_take, text_from_collect}
use Rattle.std.proofs.lemmas.Iterator.Consumers.{YieldsList-at}
use Rattle.nf_texts.proofs.characters.first_chars.Goals as goal

pub returns : goal.returns
returns c =
    text_from_collect c.collect.result c.collect.ensures.ran
    (YieldsList-from_take c.args.count (YieldsList-at c.take.ensures.source (YieldsList-from_chars c.args.text.now c.utf8.text c.chars.ensures.rest)) c.take.ensures.count)
