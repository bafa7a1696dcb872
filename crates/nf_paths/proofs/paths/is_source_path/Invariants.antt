use Rattle.std.proofs.Common.{◌≡◌, length}
use denote.Text.{Utf8}
use denote.Shadow.{shadow}
use Rattle.std.specs.Str.{chars}
use Rattle.nf_paths.specs.Paths as paths
use Rattle.nf_paths.proofs.paths.is_source_path.Given as goal

abbrev pub invariant-loop-folder : goal.invariant-loop-folder
invariant-loop-folder l = record { is_text : shadow (Utf8 l.left); same : paths.is_source_path (chars l.path) ≡ paths.is_source_path (chars l.left) }

abbrev pub decreases-loop-folder : goal.decreases-loop-folder
decreases-loop-folder l = length (chars l.left)
