use Rattle.nf_steps.proofs.Entering.{begins_if}
use Rattle.nf_steps.proofs.moves.begin.Goals as goal

pub returns-clause-run : goal.returns-clause-run
returns-clause-run g c = begins_if c.args.graph c.begin.result c.are_rules.ensures c.begin.ensures
