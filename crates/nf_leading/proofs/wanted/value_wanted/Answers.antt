use Rattle.nf_leading.proofs.Things.{known_wanted, port_refused, results_refused}
use Rattle.nf_leading.proofs.wanted.value_wanted.Goals as goal

pub returns-in-Known : goal.returns-in-Known
returns-in-Known c = known_wanted c.args.place c.args.thing c.in-Known.value c.in-Known.is

pub returns-in-Channel : goal.returns-in-Channel
returns-in-Channel c = port_refused c.args.place c.args.thing c.in-Channel.field-0 c.in-Channel.is

pub returns : goal.returns
returns c = results_refused c.args.place c.args.thing c.in-Outputs.field-0 c.in-Outputs.is
