use Rattle.nf_grammar.proofs.Short.{ret, off, maybe_not, maybe_is}
use Rattle.nf_exprs.proofs.Steps.{comes, took}
use Rattle.std.proofs.Common.{refl}
use Rattle.nf_exprs.proofs.expect.past_separator.Goals as goal

pub returns-in-Some-clause-parses : goal.returns-in-Some-clause-parses
returns-in-Some-clause-parses c = maybe_is (comes c.in-Some.ensures) (took refl c.in-Some.ensures ret)

pub returns-in-None-clause-parses : goal.returns-in-None-clause-parses
returns-in-None-clause-parses c = maybe_not c.in-None.ensures (off c.in-None.ensures)
