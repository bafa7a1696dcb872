use Rattle.std.proofs.Common.{refl}
use Rattle.nf_fronts.specs.Fronts.{tree_of}
use Rattle.nf_walked.proofs.Names.{leads_here}
use Rattle.nf_walked.proofs.walker.Walker.leads.Goals as goal

pub returns : goal.returns
returns g c =
    leads_here g.N.Natives.titles g.N.Natives.answer c.args.self.now _ c.args.state.now (tree_of c.args.front) c.leading.result c.leading.result.alone c.leading.ensures c.names.ensures refl c.natives.ensures refl
