use Rattle.nf_texts.proofs.Ends.{chars_of_none, chars_of_last}
use Rattle.nf_texts.proofs.trimming.last_char.Goals as goal

pub returns-in-Some : goal.returns-in-Some
returns-in-Some c = chars_of_last c.args.text.now _ _ c.as_str.result.now c.in-Some.last c.utf8.text c.as_str.utf8 c.chars-characters.ensures.rest c.in-Some.ensures.steps c.as_str.ensures

pub returns-in-None : goal.returns-in-None
returns-in-None c = chars_of_none c.args.text.now _ c.chars-characters.ensures.rest c.in-None.ensures.steps.0
