use Rattle.std.proofs.Common.{sym, ◌∙◌}
use Rattle.std.specs.Str.{chars}
use Rattle.nf_pattern.specs.Parts.{characters}
use Rattle.nf_pattern.proofs.Taking.{some_here}
use Rattle.nf_pattern.proofs.plain.is_taken_later.Goals as goal

pub returns-in-Whole : goal.returns-in-Whole
returns-in-Whole c = sym (some_here (characters c.loop-next.place.pattern) (chars c.loop-next.place.name.now) c.in-Whole.ensures) ∙ c.loop-next.invariant
