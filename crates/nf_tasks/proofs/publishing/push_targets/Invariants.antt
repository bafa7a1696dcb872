use Rattle.std.proofs.Common.{◌≡◌, ◌++◌, drop}
use Rattle.nf_tasks.specs.Publishing.{targets_in}
use Rattle.nf_tasks.proofs.publishing.push_targets.Given as goal

abbrev pub invariant-loop-files : goal.invariant-loop-files
invariant-loop-files l = l.targets.items ++ targets_in l.folder l.pattern (drop l.files-index l.lists) ≡ l.initial.targets.items ++ targets_in l.folder l.pattern l.lists
