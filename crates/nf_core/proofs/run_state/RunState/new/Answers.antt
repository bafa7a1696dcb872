use Rattle.nf_core.proofs.Beginning.{begun_with}
use Rattle.nf_core.proofs.run_state.RunState.new.Goals as goal

pub invariant_of-result : goal.invariant_of-result
invariant_of-result g c =
    begun_with {F = g.J.Fixed.facts} _ _ c.args.flow c.new.result.items c.new-2.result.items c.args.resume (g.K.Keeper.held c.args.keeper) (g.K.Keeper.faults c.args.keeper) c.new.ensures.items c.new-2.ensures.items c.requires.flow c.requires.graph c.requires.resumed c.requires.held c.requires.faults c.requires.rules c.requires.apart
