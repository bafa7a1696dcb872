use Rattle.nf_applied.proofs.Arguments.{keeps_same}
use Rattle.std.proofs.Common.{◌≡◌, Err, rules}
use Rattle.nf_ast.specs.View.{view}
use Rattle.nf_meaning.specs.declared.fault.LowerFault.TheVariants.{Mem}
use Rattle.nf_walked.specs.Around.{Knows}
use Rattle.nf_walked.specs.Forms.{values}
use Rattle.nf_walked.specs.Steps.{from}
use Rattle.nf_walked.proofs.Joins.{lost_here}
use Rattle.nf_applied.specs.Sources.{range_more}
use Rattle.nf_applied.proofs.Lists.{range_fails, range_given}
use Rattle.nf_applied.proofs.items.range_items.Goals as goal

pub range_items-requires : goal.range_items-requires
range_items-requires g c = keeps_same g.N.Natives.keeps c.body_at.result.around.now c.args.walker.now.around.now c.body_at.ensures.around c.requires.natives

pub returns-in_err-list : goal.returns-in_err-list
returns-in_err-list g c =
    let e = c.in_err-list.field-0.0 in
    let err : c.from_residual.result ≡ Err e = search rules in
    rw err
    (range_fails g.N.Natives.titles g.N.Natives.answer c.args.walker.now c.body_at.result c.args.state.now (view c.args.range.now) c.args.items c.requires.lowering c.body_at.ensures.same e c.in_err-list.ensures)

pub returns-in_err-append : goal.returns-in_err-append
returns-in_err-append g c =
    let err : c.from_residual-in_err-append.result ≡ Err Mem = search rules in
    rw err (lost_here (Knows g.N.Natives.titles g.N.Natives.answer c.args.walker.now) (from values c.args.items values (range_more (view c.args.range.now))) c.args.state.now)

pub returns : goal.returns
returns g c =
    range_given g.N.Natives.titles g.N.Natives.answer c.args.walker.now c.body_at.result c.args.state.now (view c.args.range.now) c.args.items c.requires.lowering c.body_at.ensures.same c.in_ok-list.list c.into_items-more.result
    c.append.new.self c.in_ok-list.ensures c.into_items-more.ensures (search rules)
