use Rattle.nf_value.specs.View.{plain_of}
use Rattle.nf_value.specs.declared.fault.EvalKind.TheVariants.{Arity}
use Rattle.nf_placed.proofs.Naming.{spread_several, spread_few, binds, faults}
use Rattle.nf_placed.proofs.params.spread_one.Goals as goal

pub returns-then-names-gt1 : goal.returns-then-names-gt1
returns-then-names-gt1 c = binds _ _ c.split.result (spread_several c.args.place c.args.names.now (plain_of c.args.value.now) c.if-names-gt1.true) c.split.ensures

pub returns-else-names-gt1 : goal.returns-else-names-gt1
returns-else-names-gt1 c = faults _ Arity c.args.place c.fault_at.result (spread_few c.args.place c.args.names.now (plain_of c.args.value.now) c.if-names-gt1.false) c.fault_at.ensures
