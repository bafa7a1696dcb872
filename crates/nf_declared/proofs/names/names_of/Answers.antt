use Rattle.nf_declared.proofs.Titles.{has_more}
use Rattle.nf_declared.proofs.names.names_of.Goals as goal

pub loop-id-preserved : goal.loop-id-preserved
loop-id-preserved g c =
    has_more (g.N.Natives.titles c.args.natives.now) c.loop-id.id c.name.result.now c.loop-id.names c.put.new.names c.name.ensures c.in_ok-put.ensures c.loop-id.invariant
