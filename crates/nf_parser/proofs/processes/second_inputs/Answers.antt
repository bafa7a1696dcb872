use Rattle.nf_grammar.proofs.Short.{ret}
use Rattle.nf_parser.proofs.processes.second_inputs.Goals as goal

pub returns-in-Some-clause-parses : goal.returns-in-Some-clause-parses
returns-in-Some-clause-parses c =
    rw c.in-Some.is ret
