use Rattle.std.proofs.Common.{◌≡◌, length}
use denote.Text.{Utf8}
use denote.Shadow.{shadow}
use Rattle.std.specs.Str.{chars}
use Rattle.nf_pattern.specs.Literal.{is_literal_path}
use Rattle.nf_pattern.proofs.Literals.{literal_from}
use Rattle.nf_pattern.proofs.literal.is_literal.Given as goal

abbrev pub invariant-loop-first : goal.invariant-loop-first
invariant-loop-first l = record { is_text : shadow (Utf8 l.left); same : is_literal_path (chars l.path) ≡ literal_from l.opened (chars l.left) }

abbrev pub decreases-loop-first : goal.decreases-loop-first
decreases-loop-first l = length (chars l.left)
