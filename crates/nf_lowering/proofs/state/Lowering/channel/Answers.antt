use Rattle.std.proofs.Common.{map, refl, ap, ◌∙◌}
use Rattle.nf_scopes.specs.Things.{thing_of, output_of}
use Rattle.nf_lowering.specs.Steps.{only_port}
use Rattle.nf_lowering.proofs.Converting.{known_channel, port_channel, only_channel, only_reads, channel_reads}
use Rattle.nf_lowering.proofs.state.Lowering.channel.Goals as goal

pub returns-in-Known : goal.returns-in-Known
returns-in-Known c = record {
  keeps = c.value_channel.ensures.keeps;
  reads = c.value_channel.ensures.reads;
  walk = λ braces. known_channel c.args.self.now c.value_channel.new.self c.args.place braces c.in-Known.value c.args.thing c.value_channel.result c.in-Known.is (c.value_channel.ensures.walk braces);
  kept = c.value_channel.ensures.kept;
  calls = c.value_channel.ensures.calls;
  within = c.value_channel.ensures.within;
}

pub returns-in-Channel : goal.returns-in-Channel
returns-in-Channel c = record {
  keeps = c.requires.before;
  reads = channel_reads c.args.self.now.plan c.args.thing c.in-Channel.port c.in-Channel.is c.requires.reads;
  walk = λ braces. port_channel c.args.self.now c.args.place braces c.args.thing c.in-Channel.port c.in-Channel.is;
  kept = c.rooms_last.ensures.same c.args.self.now.plan;
  calls = refl;
  within = refl;
}

pub returns-in-Outputs : goal.returns-in-Outputs
returns-in-Outputs c = record {
  keeps = c.requires.before;
  reads = only_reads c.args.self.now.plan c.args.place c.args.thing (map output_of c.in-Outputs.outputs.items) c.only_output.result (ap thing_of c.in-Outputs.is) (c.only_output.ensures ∙ ap (λ xs. only_port c.args.place (map output_of xs)) c.as_slice.ensures.value) c.requires.reads;
  walk = λ braces. only_channel c.args.self.now c.args.place braces c.args.thing (map output_of c.in-Outputs.outputs.items) c.only_output.result (ap thing_of c.in-Outputs.is) (c.only_output.ensures ∙ ap (λ xs. only_port c.args.place (map output_of xs)) c.as_slice.ensures.value);
  kept = c.rooms_last.ensures.same c.args.self.now.plan;
  calls = refl;
  within = refl;
}
