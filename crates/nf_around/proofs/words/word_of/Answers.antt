use Rattle.nf_around.proofs.OnlyNames.{word_is, word_none}
use Rattle.nf_around.proofs.words.word_of.Goals as goal

pub returns-in-Some : goal.returns-in-Some
returns-in-Some c a s = word_is a s c.args.closure.now c.in-Some.name c.in-Some.ensures

pub returns-in-None : goal.returns-in-None
returns-in-None c a s = word_none a s c.args.closure.now c.in-None.ensures
