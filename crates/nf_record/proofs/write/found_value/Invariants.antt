use Rattle.std.proofs.Common.{◌≡◌, map, take}
use Rattle.nf_value.specs.View.{plain_of}
use Rattle.nf_job.specs.JobText.{files_plain}
use Rattle.nf_record.proofs.write.found_value.Given as goal

abbrev pub invariant-loop-files : goal.invariant-loop-files
invariant-loop-files l = map plain_of l.values.items ≡ map files_plain (take l.files-index l.files-items)
