use Rattle.nf_serial.proofs.Going.{alone_passed}
use Rattle.nf_serial.proofs.Turns.{pass_idle}
use Rattle.nf_serial.proofs.one_lane.pass.Goals as goal

pub pass-requires : goal.pass-requires
pass-requires g c = c.requires.legal

pub returns-clause-idle : goal.returns-clause-idle
returns-clause-idle g c = pass_idle c.args.run.now c.pass.new.self c.args.port c.pass.result c.requires.idle c.pass.ensures.ok c.pass.ensures.err

pub returns-clause-goes : goal.returns-clause-goes
returns-clause-goes g c = alone_passed c.args.run.now c.pass.new.self c.args.port c.pass.result c.pass.ensures.ok c.pass.ensures.err c.falls.ensures
