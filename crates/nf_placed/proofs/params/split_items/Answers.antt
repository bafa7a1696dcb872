use Rattle.std.proofs.Common.{map, ◌∙◌}
use Rattle.nf_value.specs.View.{pair_of}
use Rattle.nf_value.specs.declared.fault.EvalKind.TheVariants.{Arity}
use Rattle.nf_placed.proofs.Naming.{split_there, split_other, faults}
use Rattle.nf_placed.proofs.params.split_items.Goals as goal

pub returns-in_ok-paired : goal.returns-in_ok-paired
returns-in_ok-paired c = split_there c.args.place c.args.names.now c.args.list.now _ (map pair_of c.in_ok-paired.field-0.items) (c.if-names-len.true ∙ c.len.ensures) c.items.ensures c.in_ok-paired.ensures

pub returns-else-names-len : goal.returns-else-names-len
returns-else-names-len c = faults _ Arity c.args.place c.fault_at.result (split_other c.args.place c.args.names.now c.args.list.now c.len.result c.len.ensures c.if-names-len.false) c.fault_at.ensures
