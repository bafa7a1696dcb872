use Rattle.std.proofs.Common.{◌≡◌, subst}
use Rattle.nf_machine.specs.History.{IsHistory}
use Rattle.nf_flow.specs.Seen.{Seen, events_of, plain_of}
use Rattle.nf_core.specs.Promises.{Promises}
use Rattle.nf_core.proofs.Promised.{promises}
use Rattle.nf_core.proofs.run_state.RunState.holds.Goals as goal

pub returns-clause-graph : goal.returns-clause-graph
returns-clause-graph g c = subst (λ (z : Seen). z.graph ≡ g.J.Fixed.facts.graph) c.self.view_is c.self.invariant.graph

pub returns-clause-lawful : goal.returns-clause-lawful
returns-clause-lawful g c = subst (λ z. IsHistory (plain_of z) g.J.Fixed.facts.rules (events_of z)) c.self.view_is c.self.invariant.lawful

pub returns-clause-rules : goal.returns-clause-rules
returns-clause-rules g c = c.self.invariant.rules

pub returns-clause-promises : goal.returns-clause-promises
returns-clause-promises g c = subst (λ z. Promises g.J.Fixed.facts (plain_of z) (events_of z)) c.self.view_is (promises c.self.invariant)
