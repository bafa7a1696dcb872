use Rattle.std.proofs.Common.{◌≤◌, drop, length, map}
use Rattle.nf_found.specs.All.{found_of}
use Rattle.nf_lower.specs.Files.{HasFiles}
use Rattle.nf_lower.proofs.found.by_path.Given as goal

abbrev pub invariant-loop-left : goal.invariant-loop-left
invariant-loop-left l = (l.left ≤ length l.found) × HasFiles (map found_of (drop l.left l.found)) l.table.entries

abbrev pub decreases-loop-left : goal.decreases-loop-left
decreases-loop-left l = l.left
