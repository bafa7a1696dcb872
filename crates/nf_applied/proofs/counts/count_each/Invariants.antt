use Rattle.nf_walked.specs.Around.{Knows}
use Rattle.nf_applied.proofs.Counting.{CountLeads}
use Rattle.nf_applied.proofs.counts.count_each.Given as goal

abbrev pub invariant-loop : goal.invariant-loop
invariant-loop g l = CountLeads (Knows g.N.Natives.titles g.N.Natives.answer l.walker) l.place l.count l.counter l.initial.state l.state
