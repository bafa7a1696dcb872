use Rattle.nf_leading.proofs.Things.{known_no_file, port_no_file, results_no_file}
use Rattle.nf_leading.proofs.wanted.has_no_file.Goals as goal

pub returns-in-Known : goal.returns-in-Known
returns-in-Known c = known_no_file c.args.place c.args.thing.now c.in-Known.value c.value_has_no_file.result c.in-Known.is c.value_has_no_file.ensures

pub returns-in-Channel : goal.returns-in-Channel
returns-in-Channel c = port_no_file c.args.place c.args.thing.now c.in-Channel.field-0 c.in-Channel.is

pub returns-in-Outputs : goal.returns-in-Outputs
returns-in-Outputs c = results_no_file c.args.place c.args.thing.now c.in-Outputs.field-0 c.in-Outputs.is
