use Rattle.std.proofs.Common.{◌≡◌, Err, refl, rules}
use Rattle.nf_tasks.specs.Memory.{program}
use Rattle.nf_lower.specs.Script.{given_of}
use Rattle.nf_lower.proofs.Whole.{wants_fail, wants_given}
use Rattle.nf_lower.proofs.script.wanted.Goals as goal

pub returns-in_err-plan : goal.returns-in_err-plan
returns-in_err-plan g c =
    let e = c.in_err-plan.field-0.0 in
    let n = program (g.N.Natives.titles c.args.natives.now) (g.N.Natives.answer c.args.natives.now) in
    let it = c.in_err-plan.ensures in
    let err : c.from_residual.result ≡ Err e = search rules in
    let h = given_of c.args.script.now c.args.outside.now n it.built it.large in
    rw err (record { built = it.built; large = it.large; split = it.split; holds_of = wants_fail c.text_alone.ensures.fault h e it.holds_of })

pub returns : goal.returns
returns g c =
    let n = program (g.N.Natives.titles c.args.natives.now) (g.N.Natives.answer c.args.natives.now) in
    let it = c.in_ok-plan.ensures in
    let h = given_of c.args.script.now c.args.outside.now n it.built it.large in
    record { built = it.built; large = it.large; split = it.split; holds_of = wants_given c.text_alone.ensures.wants _ h c.in_ok-plan.plan c.wants_in.result (λ found o. refl) c.wants_in.ensures it.holds_of }
