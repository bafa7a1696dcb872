use Rattle.std.proofs.Common.{◌≡◌, Err, map, rules}
use Rattle.nf_ast.specs.Tops.{view_top}
use Rattle.nf_ast.specs.View.{trees}
use Rattle.nf_meaning.specs.Script.{entry_in, entry_walk}
use Rattle.nf_walked.specs.Around.{Knows}
use Rattle.nf_lower.proofs.Ending.{plan_ends, plan_fails}
use Rattle.nf_lower.proofs.entry.plan_of.Goals as goal

pub entry-requires : goal.entry-requires
entry-requires g c = c.requires c.new-state.result c.new-state.ensures.keeps

pub returns-in_err-entry : goal.returns-in_err-entry
returns-in_err-entry g c =
    let w = entry_walk (entry_in (trees (map view_top c.args.tops.now))) in
    let e = c.in_err-entry.field-0.0 in
    let err : c.from_residual.result ≡ Err e = search rules in
    rw err (plan_fails (Knows g.N.Natives.titles g.N.Natives.answer c.args.walker.now) w c.new-state.result c.new-state.ensures.stands c.entry.new.state e c.in_err-entry.ensures)

pub into_plan-requires : goal.into_plan-requires
into_plan-requires g c = c.in_ok-entry.ensures.goes.keeps

pub returns : goal.returns
returns g c =
    let w = entry_walk (entry_in (trees (map view_top c.args.tops.now))) in
    plan_ends (Knows g.N.Natives.titles g.N.Natives.answer c.args.walker.now) w c.new-state.result c.new-state.ensures.stands c.entry.new.state c.in_ok-entry.field-0 c.into_plan.result c.plans_mean.ensures c.in_ok-entry.ensures c.into_plan.ensures
