use Rattle.nf_serial.proofs.Turns.{reuse_back}
use Rattle.nf_serial.proofs.one_task.reuse.Goals as goal

pub returns-clause-back : goal.returns-clause-back
returns-clause-back g c = reuse_back c.args.run.now c.reuse-back.new.self c.args.ticket c.args.report c.in-Ok.outs c.reuse-back.result c.requires.ticket c.reuse-back.ensures
