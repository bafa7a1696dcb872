use Rattle.nf_serial.proofs.Whole.{idle_first, over_there}
use Rattle.nf_serial.proofs.whole_run.run_as.Goals as goal

pub serial-requires-clause-idle : goal.serial-requires-clause-idle
serial-requires-clause-idle g c = idle_first c.args.flow c.new-run.result c.new-run.ensures c.requires.begun

pub returns-clause-over : goal.returns-clause-over
returns-clause-over g c = over_there c.serial.new.run c.into_parts.result.0 c.into_parts.ensures.flow c.serial.ensures.over
