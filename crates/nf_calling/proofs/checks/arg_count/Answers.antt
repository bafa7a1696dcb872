use Rattle.nf_calling.proofs.Present.{counted_by}
use Rattle.nf_calling.proofs.checks.arg_count.Goals as goal

pub returns-clause-count : goal.returns-clause-count
returns-clause-count c = counted_by c.args.args.now c.len.result c.len.ensures
