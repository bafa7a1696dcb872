use Rattle.std.proofs.Common.{refl}
use Rattle.nf_plan.specs.declared.builder.PlanBuilder.{PlanBuilder}
use Rattle.nf_plan.proofs.Keeping.{plan_same}
use Rattle.nf_plan.proofs.Pushing.{pushed, pushed_plan}
use Rattle.nf_plan.proofs.builder.PlanBuilder.push.Goals as goal

pub returns-in_err-make_room-clause-plan : goal.returns-in_err-make_room-clause-plan
returns-in_err-make_room-clause-plan c = plan_same c.args.self.now c.make_room.new.self c.make_room.ensures.same c.requires.plan

pub returns-clause-added : goal.returns-clause-added
returns-clause-added c =
    let seen = c.note_view.new.self in
    let new : PlanBuilder = record { nodes = c.push_reserved.new.self; infos = c.push_reserved-2.new.self; views = seen.views; wants = seen.wants; sizes = seen.sizes } in
    pushed c.args.self.now c.make_room.new.self seen new c.args.node c.args.info c.make_room.ensures.same c.note_view.ensures.others
    c.push_reserved.ensures.items c.push_reserved-2.ensures.items refl refl

pub returns-clause-plan : goal.returns-clause-plan
returns-clause-plan c =
    let seen = c.note_view.new.self in
    let new : PlanBuilder = record { nodes = c.push_reserved.new.self; infos = c.push_reserved-2.new.self; views = seen.views; wants = seen.wants; sizes = seen.sizes } in
    pushed_plan c.args.self.now c.make_room.new.self seen new c.args.node c.args.info c.make_room.ensures.same c.note_view.ensures.others
    c.push_reserved.ensures.items c.push_reserved-2.ensures.items refl refl c.next_place-place.result c.requires.plan c.requires.fits c.next_place-place.ensures c.note_view.ensures.views
