use Rattle.std.proofs.Common.{sym, subst}
use Rattle.nf_meaning.specs.Things.{thing_named}
use Rattle.nf_scopes.specs.declared.things.Thing.{Thing}
use Rattle.nf_scopes.specs.Tables.{FoundStands, held}
use Rattle.nf_scopes.specs.Things.{thing_of}
use Rattle.nf_scopes.proofs.Holding.{some_held}
use Rattle.nf_plan.specs.Runs.{bags_of}
use Rattle.nf_follows.specs.Things.{ThingReads}
use Rattle.nf_lowering.proofs.state.Lowering.call.Goals as goal

pub returns : goal.returns
returns c =
    let z = c.args.self.now in
    let n = c.args.name.now in
    record {
      reads = some_held c.get.result (held n z.calls.entries) (λ (t : Thing). ThingReads z.plan (thing_of t)) c.get.ensures.value (λ t e. c.requires.calls n t e);
      walk = λ braces x s h. subst (λ o. FoundStands (bags_of x z.plan) o (thing_named n s.scope.calls)) (sym c.get.ensures.value) (h.calls n);
    }
