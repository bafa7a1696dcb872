use Rattle.std.proofs.Common.{ap, subst, sym, ◌∙◌}
use Rattle.std.specs.Prelude.{option_map}
use Rattle.nf_machine.specs.Event.{stop_of}
use Rattle.nf_flow.specs.Seen.{state_of}
use Rattle.nf_flow.specs.Stopped.{IsAbort, IsNamedIfAny, stop_in}
use Rattle.nf_flow.proofs.flow.Flow.stop.Goals as goal

pub stop-requires : goal.stop-requires
stop-requires c = subst (λ h. IsAbort h c.self.inside.log.stop) (sym c.as_slice.ensures.value) c.self.invariant.stop.abort

pub returns-clause-stop : goal.returns-clause-stop
returns-clause-stop c =
    let told = c.stop.ensures ∙ ap (λ h. stop_in h c.self.inside.log.stop) c.as_slice.ensures.value in
    ap (option_map stop_of) told ∙ c.self.invariant.stop.is ∙ ap (λ z. (state_of z).stop) c.self.view_is

pub returns-clause-named : goal.returns-clause-named
returns-clause-named c =
    let told = c.stop.ensures ∙ ap (λ h. stop_in h c.self.inside.log.stop) c.as_slice.ensures.value in subst IsNamedIfAny (sym told) c.self.invariant.stop.named
