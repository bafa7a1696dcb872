use Rattle.std.proofs.Common.{rules}
use Rattle.nf_optable.specs.declared.operator.Operator.TheVariants.{Arrival}
use Rattle.nf_taken.proofs.Calling.{called, right_count}
use Rattle.nf_taken.proofs.calls.operator_of.Goals as goal

pub returns-in-Bag : goal.returns-in-Bag
returns-in-Bag c = called c.args.place c.args.row c.args.count (search rules) c.in-Bag.operator c.in-Bag.is

pub returns-in-Arrival : goal.returns-in-Arrival
returns-in-Arrival c = right_count c.args.place c.args.row c.args.count (search rules) (Arrival c.in-Arrival.field-0) c.in-Arrival.is
