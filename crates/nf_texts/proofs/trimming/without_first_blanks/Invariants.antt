use Rattle.std.proofs.Common.{◌≡◌, length}
use Rattle.std.specs.Str.{chars}
use denote.Text.{Utf8}
use denote.Shadow.{shadow}
use Rattle.nf_texts.specs.Texts.{without_blanks}
use Rattle.nf_texts.proofs.trimming.without_first_blanks.Given as goal

abbrev pub invariant-loop-first : goal.invariant-loop-first
invariant-loop-first l = record { is_text : shadow (Utf8 l.left); same : without_blanks (chars l.left) ≡ without_blanks (chars l.initial.left) }

abbrev pub decreases-loop-first : goal.decreases-loop-first
decreases-loop-first l = length (chars l.left)
