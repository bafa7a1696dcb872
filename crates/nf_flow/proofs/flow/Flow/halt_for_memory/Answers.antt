use Rattle.std.proofs.Common.{◌≡◌, refl, subst, sym, true}
use Rattle.std.specs.Prelude.{is_none}
use Rattle.nf_flow.specs.Seen.{state_of}
use Rattle.nf_flow.specs.Flow.{state_in}
use Rattle.nf_flow.proofs.Flowing.{flow_halted}
use Rattle.nf_flow.proofs.Growth.{running_place}
use Rattle.nf_flow.proofs.Moving.{halted}
use Rattle.nf_flow.proofs.Running.{grown_by, none_stopped}
use Rattle.nf_flow.proofs.flow.Flow.halt_for_memory.Goals as goal

pub halt-requires : goal.halt-requires
halt-requires c = let f = c.self.inside in running_place f.graph f.parts f.log c.self.invariant (subst (λ y. is_none (state_of y).stop ≡ true) (sym c.self.view_is) c.requires)

pub invariant_of-self : goal.invariant_of-self
invariant_of-self c =
    let f = c.self.inside in let s = state_in f.graph f.log in
    flow_halted f.graph f.parts f.parts f.log c.halt.new.self c.self.invariant (none_stopped s.stop (subst (λ y. is_none (state_of y).stop ≡ true) (sym c.self.view_is) c.requires)) c.halt.ensures
    (halted f.graph s f.parts c.self.invariant.parts f.parts refl refl)

pub returns : goal.returns
returns c = let f = c.self.inside in grown_by f.graph f.parts f.log c.args.self.now c.self.view_is c.self.invariant c.halt.new.self _ _ c.halt.ensures
