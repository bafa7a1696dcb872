use Rattle.std.proofs.Common.{subst}
use Rattle.nf_flow.specs.Seen.{events_of, plain_of}
use Rattle.nf_core.specs.Promises.{Keeps}
use Rattle.nf_core.proofs.Keeping.{keeps}
use Rattle.nf_core.proofs.Viewed.{resumed_so}
use Rattle.nf_core.proofs.run_state.RunState.into_parts.Goals as goal

pub returns-clause-flow : goal.returns-clause-flow
returns-clause-flow g c = c.self.view_is

pub returns-clause-run : goal.returns-clause-run
returns-clause-run g c = resumed_so c.self.invariant

pub returns-clause-keeps : goal.returns-clause-keeps
returns-clause-keeps g c = subst (λ z. Keeps g.J.Fixed.facts (plain_of z) (events_of z) (g.K.Keeper.held c.self.inside.keeper)) c.self.view_is (keeps c.self.invariant)
