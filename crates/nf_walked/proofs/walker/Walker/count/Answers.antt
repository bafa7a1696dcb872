use Rattle.std.proofs.Common.{[], refl}
use Rattle.nf_meaning.specs.Sizes.{counted}
use Rattle.nf_lowering.specs.Steps.{counting}
use Rattle.nf_walked.specs.Around.{Knows}
use Rattle.nf_walked.specs.Forms.{nothing}
use Rattle.nf_walked.specs.Steps.{Goes, due}
use Rattle.nf_walked.proofs.Goings.{anything}
use Rattle.nf_walked.proofs.Stepping.{goes_by, later_by, on_any, stepped}
use Rattle.nf_walked.proofs.walker.Walker.count.Goals as goal

pub returns-clause-walk : goal.returns-clause-walk
returns-clause-walk g c =
    let old = c.args.state.now in
    let new = c.count.new.self in
    let e = c.count.ensures in
    stepped (Knows g.N.Natives.titles g.N.Natives.answer c.args.self.now) (counting c.args.place c.args.ports) (due nothing (counted c.args.place c.args.ports)) old new c.count.result
    (later_by c.plans_extend.ensures.again c.plans_extend.ensures.runs c.things_last.ensures.reads c.things_last.ensures.stands old.plan new.plan (e.walk []).extends)
    (on_any c.count.result (Goes old new) (goes_by c.rooms_last.ensures.again old new e.keeps e.calls e.kept e.within)) (anything c.count.result) e.walk
    (λ p y stands is. (tt, refl)) (λ x v z h. tt)
