use Rattle.std.proofs.Common.{◌≡◌, length}
use denote.Text.{Utf8}
use denote.Shadow.{shadow}
use Rattle.std.specs.Str.{chars}
use Rattle.nf_paths.specs.Paths as paths
use Rattle.nf_paths.proofs.paths.name_at.Given as goal

abbrev pub invariant-loop-rest : goal.invariant-loop-rest
invariant-loop-rest l = record { is_text : shadow (Utf8 l.left); same : paths.name_at (chars l.path) ≡ paths.name_at (chars l.left) }

abbrev pub decreases-loop-rest : goal.decreases-loop-rest
decreases-loop-rest l = length (chars l.left)
