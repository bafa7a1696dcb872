use Rattle.nf_flow.specs.Seen.{Seen, state_of}
use Rattle.nf_flow.specs.Ready.{IsReadyAt}
use Rattle.nf_locked.proofs.Entering.{no_step, stepped}
use Rattle.std.proofs.Common.{refl, ◌∙◌}
use Rattle.nf_locked.proofs.Working.{ready_at_so}
use Rattle.nf_locked.proofs.locked.Locked.step_at.Goals as goal

pub turn-requires-clause-legal : goal.turn-requires-clause-legal
turn-requires-clause-legal g c = ready_at_so c.args.self.now c.flow.result.now c.args.node c.in-Some.next c.ready_at.result c.in-Some.is (c.flow.ensures ∙ c.self.view_is) c.ready_at.ensures

pub returns-in-Some-clause-makes : goal.returns-in-Some-clause-makes
returns-in-Some-clause-makes g c = stepped (λ (y : Seen). IsReadyAt y.graph (state_of y) c.args.node) c.args.self.now c.flow.result.now c.turn.new.self c.ready_at.result (c.flow.ensures ∙ c.self.view_is) c.ready_at.ensures c.in-Some.next c.turn.result c.in-Some.is c.turn.ensures.makes

pub returns-in-None-clause-makes : goal.returns-in-None-clause-makes
returns-in-None-clause-makes g c = no_step (λ (y : Seen). IsReadyAt y.graph (state_of y) c.args.node) c.args.self.now c.flow.result.now c.args.self.now c.ready_at.result (c.flow.ensures ∙ c.self.view_is) c.ready_at.ensures c.in-None.is refl
