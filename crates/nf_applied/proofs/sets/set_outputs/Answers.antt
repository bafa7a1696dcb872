use Rattle.std.proofs.Common.{◌≡◌, Err, rules}
use Rattle.nf_meaning.specs.declared.fault.LowerFault.TheVariants.{Mem}
use Rattle.nf_walked.specs.Around.{Knows}
use Rattle.nf_applied.proofs.Setting.{next_reads, next_room, sets_begin, sets_end, sets_fail, sets_go, sets_lost}
use Rattle.nf_applied.proofs.sets.set_outputs.Goals as goal

pub loop-output-init : goal.loop-output-init
loop-output-init g c = sets_begin (Knows g.N.Natives.titles g.N.Natives.answer c.args.walker.now) c.args.place c.args.outputs.now c.args.state.now c.new-set.result.items (search rules) c.requires.before.lowering c.requires.reads

pub set_channel-requires-clause-before : goal.set_channel-requires-clause-before
set_channel-requires-clause-before g c = record {
  natives = c.requires.before.natives;
  somewhere = c.requires.before.somewhere;
  plain = c.requires.before.plain;
  lowering = c.loop-output.invariant.leads.goes.keeps;
}

pub set_channel-requires-clause-reads : goal.set_channel-requires-clause-reads
set_channel-requires-clause-reads g c =
    next_reads (Knows g.N.Natives.titles g.N.Natives.answer c.args.walker.now) c.args.place c.args.outputs.now c.args.state.now c.loop-output.output-index c.output-item.result c.loop-output.set.items c.loop-output.state
    c.loop-output-test.true c.output-item.is c.loop-output.invariant

pub set_channel-requires-clause-room : goal.set_channel-requires-clause-room
set_channel-requires-clause-room g c =
    next_room (Knows g.N.Natives.titles g.N.Natives.answer c.args.walker.now) c.args.place c.args.outputs.now c.args.state.now c.loop-output.output-index c.output-item.result c.loop-output.set.items c.loop-output.state
    c.loop-output-test.true c.output-item.is c.loop-output.invariant c.requires.room

pub loop-output-preserved : goal.loop-output-preserved
loop-output-preserved g c =
    sets_go (Knows g.N.Natives.titles g.N.Natives.answer c.args.walker.now) c.args.place c.args.outputs.now c.args.state.now c.loop-output.output-index c.output-item.result c.loop-output.set.items c.loop-output.state
    c.loop-output-test.true c.output-item.is c.loop-output.invariant c.set_channel.new.state c.in_ok-port.port c.in_ok-named_as.field-0 c.push.new.self.items c.in_ok-port.ensures c.in_ok-named_as.ensures (search rules)

pub returns-in_err-port : goal.returns-in_err-port
returns-in_err-port g c =
    let e = c.in_err-port.field-0.0 in
    let err : c.from_residual.result ≡ Err e = search rules in
    rw err
    (sets_fail (Knows g.N.Natives.titles g.N.Natives.answer c.args.walker.now) c.args.place c.args.outputs.now c.args.state.now c.loop-output.output-index c.output-item.result c.loop-output.set.items c.loop-output.state
    c.loop-output-test.true c.output-item.is c.loop-output.invariant c.set_channel.new.state e c.in_err-port.ensures)

pub returns-in_err-named_as : goal.returns-in_err-named_as
returns-in_err-named_as g c =
    let err : c.from_residual-in_err-named_as.result ≡ Err Mem = search rules in
    rw err
    (sets_lost (Knows g.N.Natives.titles g.N.Natives.answer c.args.walker.now) c.args.place c.args.outputs.now c.args.state.now c.loop-output.state c.set_channel.new.state c.loop-output.output-index c.loop-output.set.items
    c.loop-output.invariant c.in_ok-port.ensures.later)

pub returns-in_err-push : goal.returns-in_err-push
returns-in_err-push g c =
    let err : c.from_residual-in_err-push.result ≡ Err Mem = search rules in
    rw err
    (sets_lost (Knows g.N.Natives.titles g.N.Natives.answer c.args.walker.now) c.args.place c.args.outputs.now c.args.state.now c.loop-output.state c.set_channel.new.state c.loop-output.output-index c.loop-output.set.items
    c.loop-output.invariant c.in_ok-port.ensures.later)

pub returns : goal.returns
returns g c =
    sets_end (Knows g.N.Natives.titles g.N.Natives.answer c.args.walker.now) c.args.place c.args.outputs.now c.args.state.now c.loop-output.output-index c.loop-output.set c.loop-output.state c.loop-output-test.false c.loop-output.invariant
