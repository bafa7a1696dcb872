use Rattle.std.proofs.Common.{map, ap}
use Rattle.nf_ast.specs.Tops.{view_script}
use Rattle.nf_tasks.specs.Memory.{program}
use Rattle.nf_found.specs.All.{found_of}
use Rattle.nf_cli.specs.Planned.{script_of}
use Rattle.nf_cli.proofs.Lowering.{lowers}
use Rattle.nf_cli.proofs.plans.lowered.Goals as goal

pub returns : goal.returns
returns g c =
    let n = program (g.N.Natives.titles c.args.natives.now) (g.N.Natives.answer c.args.natives.now) in
    lowers c.text_alone.ensures.fault c.text_alone.ensures.wants (script_of n c.args.run.now) (map found_of c.args.found.now) (view_script c.script.result.now) c.as_str.result.now c.lower.result
    (ap view_script c.script.ensures) c.as_str.ensures c.lower.ensures
