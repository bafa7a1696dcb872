use Rattle.nf_flow.specs.Seen.{Seen, state_of}
use Rattle.nf_flow.specs.Ready.{IsReady}
use Rattle.nf_locked.proofs.Entering.{no_step, stepped}
use Rattle.std.proofs.Common.{refl, ◌∙◌}
use Rattle.nf_locked.proofs.Working.{ready_so}
use Rattle.nf_locked.proofs.locked.Locked.step.Goals as goal

pub turn-requires-clause-legal : goal.turn-requires-clause-legal
turn-requires-clause-legal g c = ready_so c.args.self.now c.flow.result.now c.in-Some.next c.ready.result c.in-Some.is (c.flow.ensures ∙ c.self.view_is) c.ready.ensures

pub returns-in-Some-clause-makes : goal.returns-in-Some-clause-makes
returns-in-Some-clause-makes g c = stepped (λ (y : Seen). IsReady y.graph (state_of y)) c.args.self.now c.flow.result.now c.turn.new.self c.ready.result (c.flow.ensures ∙ c.self.view_is) c.ready.ensures c.in-Some.next c.turn.result c.in-Some.is c.turn.ensures.makes

pub returns-in-None-clause-makes : goal.returns-in-None-clause-makes
returns-in-None-clause-makes g c = no_step (λ (y : Seen). IsReady y.graph (state_of y)) c.args.self.now c.flow.result.now c.args.self.now c.ready.result (c.flow.ensures ∙ c.self.view_is) c.ready.ensures c.in-None.is refl
