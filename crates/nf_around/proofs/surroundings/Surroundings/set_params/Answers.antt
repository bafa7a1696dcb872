use Rattle.nf_around.proofs.Surrounded.{changed}
use Rattle.nf_around.proofs.surroundings.Surroundings.set_params.Goals as goal

pub returns-clause-around : goal.returns-clause-around
returns-clause-around gg c g ps qs h set = changed gg.N.Natives.titles gg.N.Natives.answer c.args.self.now c.args.params g ps qs h set
