use Rattle.std.proofs.Common.{◌≡◌, Err, rules, subst, sym}
use Rattle.nf_lower.proofs.Whole.{has_read, top_fails}
use Rattle.nf_lower.proofs.script.plan_in.Goals as goal

pub returns-in_err-around : goal.returns-in_err-around
returns-in_err-around g c h is are =
    let e = c.in_err-around.field-0.0 in
    let err : c.from_residual.result ≡ Err e = search rules in
    rw err (top_fails g.N.Natives.titles g.N.Natives.answer c.args.setting.now c.args.library e c.in_err-around.ensures.walk h is)

pub plan_with-requires-clause-kept : goal.plan_with-requires-clause-kept
plan_with-requires-clause-kept g c = subst g.N.Natives.keeps (sym c.in_ok-around.ensures.natives) c.requires.kept

pub plan_with-requires-clause-given : goal.plan_with-requires-clause-given
plan_with-requires-clause-given g c =
    (c.requires.given.0, has_read g.N.Natives.titles g.N.Natives.answer c.args.setting.now c.args.library c.in_ok-around.around c.in_ok-around.ensures.walk c.requires.given.0 c.requires.given.1)

pub returns : goal.returns
returns g c h is are =
    c.plan_with.ensures h (has_read g.N.Natives.titles g.N.Natives.answer c.args.setting.now c.args.library c.in_ok-around.around c.in_ok-around.ensures.walk h is) are
