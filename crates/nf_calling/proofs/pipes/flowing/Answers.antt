use Rattle.std.proofs.Common.{◌≡◌, Err, rules}
use Rattle.nf_walked.specs.Around.{Knows}
use Rattle.nf_calling.proofs.Heads.{flow_fails, flow_made, port_given, results_given}
use Rattle.nf_calling.proofs.pipes.flowing.Goals as goal

pub returns-in_err-port-in-Known : goal.returns-in_err-port-in-Known
returns-in_err-port-in-Known g c =
    let K = Knows g.N.Natives.titles g.N.Natives.answer c.args.walker.now in
    let e = c.in_err-port-in-Known.field-0.0 in
    let err : c.from_residual.result ≡ Err e = search rules in
    rw err (flow_fails K c.args.place c.args.thing c.args.state.now c.requires.before.lowering c.in-Known.value c.channel.new.state e c.in-Known.is c.in_err-port-in-Known.ensures)

pub returns-in_ok-port-in-Known : goal.returns-in_ok-port-in-Known
returns-in_ok-port-in-Known g c =
    let K = Knows g.N.Natives.titles g.N.Natives.answer c.args.walker.now in
    flow_made K c.args.place c.args.thing c.args.state.now c.requires.before.lowering c.in-Known.value c.channel.new.state c.in_ok-port-in-Known.port c.in-Known.is c.in_ok-port-in-Known.ensures

pub returns-in-Channel : goal.returns-in-Channel
returns-in-Channel g c =
    let K = Knows g.N.Natives.titles g.N.Natives.answer c.args.walker.now in
    port_given K c.args.place c.args.thing c.args.state.now c.requires.before.lowering c.in-Channel.port c.in-Channel.is c.requires.reads

pub returns-in-Outputs : goal.returns-in-Outputs
returns-in-Outputs g c =
    let K = Knows g.N.Natives.titles g.N.Natives.answer c.args.walker.now in
    results_given K c.args.place c.args.thing c.args.state.now c.requires.before.lowering c.in-Outputs.outputs c.in-Outputs.is c.requires.reads
