use Rattle.std.proofs.Common.{◌≡◌, ◌+◌, length}
use Rattle.std.specs.Str.{chars}
use Rattle.nf_pattern.specs.Parts.{characters}
use Rattle.nf_pattern.specs.Reach.{takes_some}
use Rattle.nf_pattern.proofs.plain.is_taken_later.Given as goal

abbrev pub invariant-loop-next : goal.invariant-loop-next
invariant-loop-next l = takes_some (characters l.place.pattern) (chars l.place.name.now) ≡ takes_some (characters l.initial.place.pattern) (chars l.initial.place.name.now)

abbrev pub decreases-loop-next : goal.decreases-loop-next
decreases-loop-next l = length (characters l.place.pattern) + length (chars l.place.name.now)
