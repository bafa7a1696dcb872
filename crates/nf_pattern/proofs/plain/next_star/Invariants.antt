use Rattle.std.proofs.Common.{length}
use denote.Text.{Utf8}
use denote.Shadow.{shadow}
use Rattle.std.specs.Str.{chars}
use Rattle.nf_pattern.specs.Parts.{characters}
use Rattle.nf_pattern.proofs.Taking.{IsFollowed}
use Rattle.nf_pattern.proofs.plain.next_star.Given as goal

abbrev pub invariant-loop-symbol : goal.invariant-loop-symbol
invariant-loop-symbol l = record { is_text : shadow (Utf8 l.name); followed : IsFollowed (characters l.place.pattern) (chars l.place.name.now) (characters l.pattern) (chars l.name) }

abbrev pub decreases-loop-symbol : goal.decreases-loop-symbol
decreases-loop-symbol l = length (characters l.pattern)
