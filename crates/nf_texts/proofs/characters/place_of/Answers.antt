use Rattle.std.proofs.Common.{sym}
use Rattle.nf_texts.proofs.Places.{no_place, place_found}
use Rattle.nf_texts.proofs.characters.place_of.Goals as goal

pub returns-in-Some-clause-place : goal.returns-in-Some-clause-place
returns-in-Some-clause-place c =
    place_found c.args.part.now c.args.text.now c.range.result.now c.in-Some.at c.in-Some.ensures.cases.0 c.char_count.result c.utf8.text c.in-Some.ensures.cases.1 c.in-Some.ensures.cases.3 c.range.ensures.value c.char_count.ensures.count

pub returns-in-None-clause-place : goal.returns-in-None-clause-place
returns-in-None-clause-place c = sym (no_place c.args.part.now c.args.text.now c.utf8.text c.in-None.ensures.cases)
