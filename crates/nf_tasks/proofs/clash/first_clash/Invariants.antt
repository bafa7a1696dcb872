use Rattle.std.proofs.Common.{◌≡◌, drop}
use Rattle.nf_tasks.specs.Clash.{first_clash}
use Rattle.nf_tasks.proofs.Clashes.{HasNames}
use Rattle.nf_tasks.proofs.clash.first_clash.Given as goal

abbrev pub invariant-loop-file : goal.invariant-loop-file
invariant-loop-file l = HasNames l.files l.file-index l.seen
