use Rattle.std.proofs.Common.{[], refl}
use Rattle.nf_lowering.specs.Nodes.{gives_source}
use Rattle.nf_walked.specs.Around.{Knows}
use Rattle.nf_walked.specs.Filled.{Fills, of_source}
use Rattle.nf_walked.proofs.Filling.{filled, fills_as}
use Rattle.nf_walked.proofs.Stepping.{later_by, on_any}
use Rattle.nf_walked.proofs.walker.Walker.source.Goals as goal

pub returns : goal.returns
returns g c =
    let old = c.args.state.now in
    let new = c.source.new.self in
    let e = c.source.ensures in
    filled (Knows g.N.Natives.titles g.N.Natives.answer c.args.self.now) (gives_source c.args.source) (of_source c.args.source) 0 old new c.source.result
    (later_by c.plans_extend.ensures.again c.plans_extend.ensures.runs c.things_last.ensures.reads c.things_last.ensures.stands old.plan new.plan (e.walk []).extends)
    (on_any c.source.result (Fills 0 old new) (fills_as 0 old new e.keeps e.calls e.fills e.within)) e.reads e.walk
    (λ p y stands is. (is, refl)) (λ x v z h. h.1)
