use Rattle.std.proofs.Common.{sym, arith}
use Rattle.nf_order.specs.Standing.{view_index}
use Rattle.nf_order.proofs.Indexes.{marked_many}
use Rattle.nf_order.proofs.parts.after_prefixes.Goals as goal

pub returns-in_default : goal.returns-in_default
returns-in_default c = sym (marked_many c.args.operators.now (view_index c.args.index) (omega (arith, c.in_default.len_at_least)))
