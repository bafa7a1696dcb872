use Rattle.std.proofs.Common.{◌≡◌, ◌++◌, drop, map}
use Rattle.nf_value.specs.View.{plain_of}
use Rattle.nf_publish.specs.Report.{publish_texts}
use Rattle.nf_publish.proofs.lines.publish_texts.Given as goal

abbrev pub invariant-loop-target : goal.invariant-loop-target
invariant-loop-target l = map plain_of l.lines.items ++ publish_texts (drop l.target-index l.targets) ≡ publish_texts l.targets
