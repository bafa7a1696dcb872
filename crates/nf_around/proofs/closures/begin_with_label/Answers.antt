use Rattle.std.proofs.Common.{arith}
use Rattle.nf_around.proofs.Leaves.{first_label}
use Rattle.nf_around.proofs.closures.begin_with_label.Goals as goal

pub returns-in-len1-up-clause-label : goal.returns-in-len1-up-clause-label
returns-in-len1-up-clause-label c = first_label c.args.body.now c.first-item.result c.is_label_stmt.result (omega (arith, c.in-len1-up.len_at_least)) c.first-item.is c.is_label_stmt.ensures.label
