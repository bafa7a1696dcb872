use Rattle.std.proofs.Common.{◌≡◌, map, take}
use Rattle.nf_value.specs.Plain.{text}
use Rattle.nf_value.specs.View.{plain_of}
use Rattle.nf_job.proofs.job.texts_value.Given as goal

abbrev pub invariant-loop-text : goal.invariant-loop-text
invariant-loop-text l = map plain_of l.values.items ≡ map text (take l.text-index l.text-items)
