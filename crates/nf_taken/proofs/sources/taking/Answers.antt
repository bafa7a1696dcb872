use Rattle.std.proofs.Common.{rules}
use Rattle.nf_taken.proofs.Sourcing.{takes_it, takes_other}
use Rattle.nf_taken.proofs.sources.taking.Goals as goal

pub returns-then-takes : goal.returns-then-takes
returns-then-takes c = takes_it c.args.place c.args.source c.args.count (search rules)

pub returns-else-takes : goal.returns-else-takes
returns-else-takes c = takes_other c.args.place c.args.source c.args.count (search rules)
