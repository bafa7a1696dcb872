use Rattle.nf_serial.proofs.Going.{alone_closed}
use Rattle.nf_serial.proofs.Turns.{close_idle}
use Rattle.nf_serial.proofs.one_lane.close.Goals as goal

pub close-requires : goal.close-requires
close-requires g c = c.requires.legal

pub returns-clause-idle : goal.returns-clause-idle
returns-clause-idle g c = close_idle c.args.run.now c.close.new.self c.args.node c.close.result c.requires.idle c.close.ensures.ok c.close.ensures.err

pub returns-clause-goes : goal.returns-clause-goes
returns-clause-goes g c = alone_closed c.args.run.now c.close.new.self c.args.node c.close.result c.close.ensures.ok c.close.ensures.err c.falls.ensures
