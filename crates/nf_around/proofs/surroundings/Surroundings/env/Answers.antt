use Rattle.std.proofs.Common.{refl}
use Rattle.std.proofs.lemmas.Result.{IfOk-weaker}
use Rattle.nf_around.proofs.Asked.{seen}
use Rattle.nf_around.proofs.surroundings.Surroundings.env.Goals as goal

pub returns : goal.returns
returns g c =
    IfOk-weaker c.env.result _ _ (λ e k a s h. k a.given.program a s (seen g.N.Natives.titles g.N.Natives.answer c.args.self.now c.args.names.now a s _ refl refl h)) c.env.ensures
