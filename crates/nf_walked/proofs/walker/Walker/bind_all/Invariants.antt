use Rattle.nf_walked.specs.Around.{Knows}
use Rattle.nf_walked.proofs.Binding.{BindLeads}
use Rattle.nf_walked.proofs.walker.Walker.bind_all.Given as goal

abbrev pub invariant-loop-name : goal.invariant-loop-name
invariant-loop-name g l = BindLeads (Knows g.N.Natives.titles g.N.Natives.answer l.self) l.fn.parts.items l.name-iterator.rest.items l.initial.state l.state
