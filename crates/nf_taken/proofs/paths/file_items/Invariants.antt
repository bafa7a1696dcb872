use Rattle.std.proofs.Common.{◌≡◌, map, take}
use Rattle.nf_value.specs.View.{plain_of}
use Rattle.nf_job.specs.JobText.{file_plain}
use Rattle.nf_taken.proofs.paths.file_items.Given as goal

abbrev pub invariant-loop-file : goal.invariant-loop-file
invariant-loop-file l = map plain_of l.items.items ≡ map file_plain (take l.file-index l.files)
