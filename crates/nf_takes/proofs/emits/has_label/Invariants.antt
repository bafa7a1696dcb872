use Rattle.nf_takes.proofs.Labelled.{NoneSoFar}
use Rattle.nf_takes.proofs.emits.has_label.Given as goal

abbrev pub invariant-loop-output : goal.invariant-loop-output
invariant-loop-output l = NoneSoFar l.outputs l.name l.output-index
