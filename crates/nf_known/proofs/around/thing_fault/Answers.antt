use Rattle.nf_known.specs.Reading.{reading_of}
use Rattle.nf_known.proofs.Bound.{known_stands, channel_stands, outputs_stand}
use Rattle.nf_known.proofs.around.thing_fault.Goals as goal

pub returns-in-Known : goal.returns-in-Known
returns-in-Known c bags t h = known_stands (reading_of c.args.reading) c.args.place bags c.args.thing.now c.in-Known.value c.in-Known.is c.value_fault.result c.value_fault.ensures t h

pub returns-in-Channel : goal.returns-in-Channel
returns-in-Channel c bags t h = channel_stands (reading_of c.args.reading) c.args.place bags c.args.thing.now c.in-Channel.field-0 c.in-Channel.is c.channel_fault.result c.channel_fault.ensures t h

pub returns-in-Outputs : goal.returns-in-Outputs
returns-in-Outputs c bags t h = outputs_stand (reading_of c.args.reading) c.args.place bags c.args.thing.now c.in-Outputs.field-0 c.in-Outputs.is c.channel_fault-in-Outputs.result c.channel_fault-in-Outputs.ensures t h
