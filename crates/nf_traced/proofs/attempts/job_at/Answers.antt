use Rattle.std.proofs.Common.{rules}
use Rattle.nf_bodies.specs.Bodies.{rules_of}
use Rattle.nf_tasks.specs.Memory.{program}
use Rattle.nf_traced.proofs.attempts.job_at.Goals as goal

pub returns-in-Err : goal.returns-in-Err
returns-in-Err g c =
    let n = program (g.N.Natives.titles c.args.natives.now) (g.N.Natives.answer c.args.natives.now) in
    c.no_job.ensures ((rules_of n c.args.infos.now).job c.args.taken.now.node c.args.inputs.now c.args.taken.now.n c.args.number) (search rules)
