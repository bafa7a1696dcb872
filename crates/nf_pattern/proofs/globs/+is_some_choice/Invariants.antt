use Rattle.std.proofs.Common.{◌≡◌, None, length}
use denote.Text.{Utf8}
use denote.Shadow.{shadow}
use Rattle.std.specs.Str.{chars}
use Rattle.nf_pattern.specs.Glob.{spelled, pieces}
use Rattle.nf_pattern.specs.Parts.{chosen_characters}
use Rattle.nf_pattern.proofs.Choosing.{some_piece}
use Rattle.nf_pattern.proofs.globs.+is_some_choice.Given as goal

abbrev pub decreases-is_some_choice : goal.decreases-is_some_choice
decreases-is_some_choice l = length (chars l.rest.now)

abbrev pub invariant-loop-piece : goal.invariant-loop-piece
invariant-loop-piece l = record {
  is_text : shadow (Utf8 l.left);
  same : some_piece (chosen_characters l.before) (pieces (chars l.found.within.now)) (spelled None (chars l.found.after.now)) (chars l.name)
      ≡ some_piece (chosen_characters l.before) (pieces (chars l.left)) (spelled None (chars l.found.after.now)) (chars l.name);
}

abbrev pub decreases-loop-piece : goal.decreases-loop-piece
decreases-loop-piece l = length (chars l.left)
