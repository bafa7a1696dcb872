use Rattle.std.proofs.Common.{map}
use Rattle.nf_found.specs.All.{found_of}
use Rattle.nf_lower.proofs.Whole.{lost, plan_lowers, stands_around}
use Rattle.nf_lower.proofs.script.plan_with.Goals as goal

pub returns-in_err-files : goal.returns-in_err-files
returns-in_err-files g c h has are = lost h c.from_residual.result c.from_residual.ensures.1

pub plan_of-requires : goal.plan_of-requires
plan_of-requires g c z keeps =
    c.walker_of-walker.ensures.walks z c.requires.kept (stands_around g.N.Natives.titles g.N.Natives.answer c.args.tops.now c.args.around c.requires.given) c.requires.names keeps

pub returns : goal.returns
returns g c h has are =
    plan_lowers g.N.Natives.titles g.N.Natives.answer c.args.tops.now c.args.around c.walker_of-walker.result c.in_ok-files.files.entries (map found_of c.args.found.now) c.in_ok-files.ensures
    c.walker_of-walker.ensures.knows h has are c.plan_of.result c.plan_of.ensures
