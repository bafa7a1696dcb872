use Rattle.std.proofs.Common.{◌≡◌, Err, rules}
use Rattle.nf_meaning.specs.Taken.{ports_of}
use Rattle.nf_walked.specs.Around.{Knows}
use Rattle.nf_applied.proofs.Counting.{channel_fails, counted_fails, counted_given, room_of_count}
use Rattle.nf_applied.proofs.counts.begin_operator.Goals as goal

pub returns-in_err-port-clause-walk : goal.returns-in_err-port-clause-walk
returns-in_err-port-clause-walk g c =
    let e = c.in_err-port.field-0.0 in
    let err : c.from_residual.result ≡ Err e = search rules in
    rw err (channel_fails (Knows g.N.Natives.titles g.N.Natives.answer c.args.walker.now) c.args.thing c.args.place (ports_of c.args.row c.args.count) c.args.state.now c.channel.new.state c.requires.before.lowering e c.in_err-port.ensures)

pub returns-in_err-count-clause-walk : goal.returns-in_err-count-clause-walk
returns-in_err-count-clause-walk g c =
    let e = c.in_err-count.field-0.0 in
    let err : c.from_residual-in_err-count.result ≡ Err e = search rules in
    rw (err, ← c.ports_of.ensures)
    (counted_fails (Knows g.N.Natives.titles g.N.Natives.answer c.args.walker.now) c.args.thing c.args.place c.ports_of.result c.args.state.now c.channel.new.state c.requires.before.lowering c.in_ok-port.port c.in_ok-port.ensures
    c.count.new.state e c.in_err-count.ensures.walk)

pub returns-clause-walk : goal.returns-clause-walk
returns-clause-walk g c =
    rw (← c.ports_of.ensures)
    (counted_given (Knows g.N.Natives.titles g.N.Natives.answer c.args.walker.now) c.args.thing c.args.place c.ports_of.result c.args.state.now c.channel.new.state c.requires.before.lowering c.in_ok-port.port c.in_ok-port.ensures
    c.count.new.state c.in_ok-count.field-0 c.in_ok-count.ensures.walk)

pub returns-clause-room : goal.returns-clause-room
returns-clause-room g c = rw (← c.ports_of.ensures) (room_of_count c.ports_of.result c.args.state.now c.channel.new.state c.count.new.state c.in_ok-port.ensures.goes c.in_ok-count.ensures.grows)
