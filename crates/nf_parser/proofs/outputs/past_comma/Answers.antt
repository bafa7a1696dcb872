use Rattle.std.proofs.Common.{refl}
use Rattle.nf_grammar.proofs.Short.{ret, off, maybe_not, maybe_is}
use Rattle.nf_exprs.specs.Rules.{rules}
use Rattle.nf_exprs.proofs.Steps.{comes, took}
use Rattle.nf_parser.proofs.outputs.past_comma.Goals as goal

pub returns-in-Some-clause-parses : goal.returns-in-Some-clause-parses
unfolding rules
returns-in-Some-clause-parses c =
    maybe_is (comes c.in-Some.ensures) (took refl c.in-Some.ensures ret)

pub returns-in-None-clause-parses : goal.returns-in-None-clause-parses
unfolding rules
returns-in-None-clause-parses c =
    maybe_not c.in-None.ensures (off c.in-None.ensures)
