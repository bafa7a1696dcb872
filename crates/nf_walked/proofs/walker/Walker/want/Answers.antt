use Rattle.std.proofs.Common.{[], refl}
use Rattle.nf_meaning.specs.Walk.{wants}
use Rattle.nf_plan.specs.Plans.{want_of}
use Rattle.nf_lowering.specs.Nodes.{wanting}
use Rattle.nf_walked.specs.Around.{Knows}
use Rattle.nf_walked.specs.Forms.{nothing}
use Rattle.nf_walked.specs.Steps.{Goes, due}
use Rattle.nf_walked.proofs.Goings.{anything}
use Rattle.nf_walked.proofs.Stepping.{goes_by, later_by, on_any, stepped}
use Rattle.nf_walked.proofs.walker.Walker.want.Goals as goal

pub returns : goal.returns
returns g c =
    let old = c.args.state.now in
    let new = c.want.new.self in
    let e = c.want.ensures in
    stepped (Knows g.N.Natives.titles g.N.Natives.answer c.args.self.now) (wanting c.args.want) (due nothing (wants (want_of c.args.want))) old new c.want.result
    (later_by c.plans_extend.ensures.again c.plans_extend.ensures.runs c.things_last.ensures.reads c.things_last.ensures.stands old.plan new.plan (e.walk []).extends)
    (on_any c.want.result (Goes old new) (goes_by c.rooms_last.ensures.again old new e.keeps e.calls e.kept e.within)) (anything c.want.result) e.walk
    (λ p y stands is. (tt, refl)) (λ x v z h. tt)
