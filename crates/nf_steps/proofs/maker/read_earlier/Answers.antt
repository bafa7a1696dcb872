use Rattle.std.proofs.Common.{rules}
use Rattle.nf_steps.proofs.Making.{read_more}
use Rattle.nf_steps.proofs.maker.read_earlier.Goals as goal

pub loop-at-preserved : goal.loop-at-preserved
loop-at-preserved c = read_more c.args.nodes.now c.args.ports.now c.loop-at.at c.port_at.result c.port_at.ensures (c.reads_earlier.ensures (search rules)) c.loop-at.invariant
