use Rattle.std.proofs.Common.{◌≡◌, ◌++◌, drop}
use Rattle.nf_tasks.specs.Publishing.{targets_among}
use Rattle.nf_tasks.proofs.publishing.push_among.Given as goal

abbrev pub invariant-loop-file : goal.invariant-loop-file
invariant-loop-file l = l.targets.items ++ targets_among l.folder l.pattern (drop l.file-index l.files) ≡ l.initial.targets.items ++ targets_among l.folder l.pattern l.files
