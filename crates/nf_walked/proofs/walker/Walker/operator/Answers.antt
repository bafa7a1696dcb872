use Rattle.std.proofs.Common.{[], length, refl}
use Rattle.nf_lowering.specs.Nodes.{applies}
use Rattle.nf_walked.specs.Around.{Knows}
use Rattle.nf_walked.specs.Filled.{Fills, of_operator}
use Rattle.nf_walked.proofs.Filling.{filled, fills_as}
use Rattle.nf_walked.proofs.Stepping.{later_by, on_any}
use Rattle.nf_walked.proofs.walker.Walker.operator.Goals as goal

pub returns : goal.returns
returns g c =
    let old = c.args.state.now in
    let new = c.operator.new.self in
    let e = c.operator.ensures in
    let call = c.args.call in
    let labels = c.args.labels.items in
    let few = length call.ports in
    filled (Knows g.N.Natives.titles g.N.Natives.answer c.args.self.now) (applies call labels) (of_operator call labels) few old new c.operator.result
    (later_by c.plans_extend.ensures.again c.plans_extend.ensures.runs c.things_last.ensures.reads c.things_last.ensures.stands old.plan new.plan (e.walk []).extends)
    (on_any c.operator.result (Fills few old new) (fills_as few old new e.keeps e.calls e.fills e.within)) e.reads e.walk
    (λ p y stands is. (is, refl)) (λ x v z h. h.1)
