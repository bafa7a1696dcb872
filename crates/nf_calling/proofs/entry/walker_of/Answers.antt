use Rattle.nf_calling.proofs.Enters.{knows, walks}
use Rattle.nf_calling.proofs.entry.walker_of.Goals as goal

pub returns-clause-knows : goal.returns-clause-knows
returns-clause-knows g c = knows g.N.Natives.titles g.N.Natives.answer c.args.tops.now _ c.definitions.ensures c.named_workflows.ensures.count

pub returns-clause-walks : goal.returns-clause-walks
returns-clause-walks g c = walks g.N.Natives.titles g.N.Natives.answer c.args.tops.now _ g.N.Natives.keeps c.definitions.ensures
