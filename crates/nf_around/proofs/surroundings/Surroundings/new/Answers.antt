use Rattle.nf_around.proofs.Surrounded.{made}
use Rattle.nf_around.proofs.surroundings.Surroundings.new.Goals as goal

pub returns-clause-around : goal.returns-clause-around
returns-clause-around gg c g ps h f = made gg.N.Natives.titles gg.N.Natives.answer _ g ps h f
