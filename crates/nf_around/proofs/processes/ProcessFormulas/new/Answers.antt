use Rattle.nf_around.proofs.Insides.{same_inside}
use Rattle.nf_around.proofs.processes.ProcessFormulas.new.Goals as goal

pub returns-clause-inside : goal.returns-clause-inside
returns-clause-inside g c a h = same_inside g.N.Natives.titles g.N.Natives.answer c.args.around.now a h c.args.seen.now
