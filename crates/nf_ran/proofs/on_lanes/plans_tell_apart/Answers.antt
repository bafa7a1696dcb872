use Rattle.std.proofs.Common.{List, sym, subst}
use Rattle.nf_stored.specs.Attempts.{TellsApart}
use Rattle.nf_bodies.specs.declared.body.NodeInfo.{NodeInfo}
use Rattle.nf_bodies.specs.Bodies.{rules_of}
use Rattle.nf_plan.specs.Plans.{name_in}
use Rattle.nf_ran.proofs.on_lanes.plans_tell_apart.Goals as goal

pub returns : goal.returns
returns c = λ n graph infos p.
    let of_plan : TellsApart (rules_of n p.0.infos.items) = c.texts_tell_apart.ensures (rules_of n p.0.infos.items) (name_in p.0.infos.items) (c.jobs_are_named.ensures n p.0 p.1.is_plan) in
    subst (λ (xs : List NodeInfo). TellsApart (rules_of n xs)) (sym p.1.infos_are) of_plan
