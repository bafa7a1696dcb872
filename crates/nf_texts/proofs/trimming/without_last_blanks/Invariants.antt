use Rattle.std.proofs.Common.{◌≡◌, length}
use Rattle.std.specs.Prelude.{reverse}
use Rattle.std.specs.Str.{chars}
use denote.Text.{Utf8}
use denote.Shadow.{shadow}
use Rattle.nf_texts.specs.Texts.{without_blanks}
use Rattle.nf_texts.proofs.trimming.without_last_blanks.Given as goal

abbrev pub invariant-loop-last : goal.invariant-loop-last
invariant-loop-last l = record { is_text : shadow (Utf8 l.left); same : without_blanks (reverse (chars l.left)) ≡ without_blanks (reverse (chars l.initial.left)) }

abbrev pub decreases-loop-last : goal.decreases-loop-last
decreases-loop-last l = length (chars l.left)
