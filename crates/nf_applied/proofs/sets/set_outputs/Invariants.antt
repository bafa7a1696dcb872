use Rattle.nf_walked.specs.Around.{Knows}
use Rattle.nf_applied.proofs.Setting.{SetsLead}
use Rattle.nf_applied.proofs.sets.set_outputs.Given as goal

abbrev pub invariant-loop-output : goal.invariant-loop-output
invariant-loop-output g l = SetsLead (Knows g.N.Natives.titles g.N.Natives.answer l.walker) l.place l.outputs l.output-index l.set.items l.initial.state l.state
