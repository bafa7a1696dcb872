use Rattle.std.proofs.Common.{arith, ap}
use Rattle.std.specs.Prelude.{is_none}
use Rattle.nf_machine.specs.declared.event.Event.TheVariants as e
use Rattle.nf_core.proofs.Events.{kept_quiet, quiet_halt}
use Rattle.nf_core.proofs.Legals.{grown_now}
use Rattle.nf_core.proofs.Viewed.{runs_still}
use Rattle.nf_core.proofs.run_state.RunState.halt_for_memory.Goals as goal

pub halt_for_memory-requires : goal.halt_for_memory-requires
halt_for_memory-requires g c = ap is_none (runs_still c.self.inside.flow c.args.self.now c.self.view_is c.requires)

pub invariant_of-self : goal.invariant_of-self
invariant_of-self g c =
    kept_quiet e.Halt c.halt_for_memory.new.self (g.K.Keeper.faults c.self.inside.keeper) c.self.invariant
    (quiet_halt (runs_still c.self.inside.flow c.args.self.now c.self.view_is c.requires)) (omega arith) c.halt_for_memory.ensures

pub returns : goal.returns
returns g c = grown_now c.args.self.now c.self.inside.flow c.halt_for_memory.new.self e.Halt c.self.view_is c.halt_for_memory.ensures
