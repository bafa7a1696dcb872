use Rattle.std.proofs.Common.{arith}
use Rattle.nf_grammar.proofs.Short.{at, at_deep, takes, misses, sinks}
use Rattle.nf_exprs.proofs.Steps.{shallow, deep}
use Rattle.nf_exprs.proofs.expect.open_hole.Goals as goal

pub returns-in_default-clause-parses : goal.returns-in_default-clause-parses
returns-in_default-clause-parses c = misses c.in_default.ensures

pub returns-then-depth-ge-MOST_OPEN-clause-parses : goal.returns-then-depth-ge-MOST_OPEN-clause-parses
returns-then-depth-ge-MOST_OPEN-clause-parses c = at_deep c.in-Some.ensures.2 (sinks (deep c.args.depth (omega arith)) c.in-Some.ensures.1)

pub returns-clause-parses : goal.returns-clause-parses
returns-clause-parses c = at c.in-Some.ensures.2 (takes (shallow c.args.depth (omega arith)) c.in-Some.ensures.1)
