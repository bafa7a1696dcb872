use Rattle.nf_calling.proofs.Checking.{other_count, same_count}
use Rattle.nf_calling.proofs.checks.check_count.Goals as goal

pub returns-then-args-taken : goal.returns-then-args-taken
returns-then-args-taken c = other_count c.args.place c.args.args c.args.taken c.if-args-taken.true

pub returns : goal.returns
returns c = same_count c.args.place c.args.args c.args.taken c.if-args-taken.false
