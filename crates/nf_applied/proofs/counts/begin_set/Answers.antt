use Rattle.std.proofs.Common.{◌≡◌, Err, rules}
use Rattle.nf_scopes.specs.Things.{thing_of}
use Rattle.nf_meaning.specs.Expressions.{channel_wanted}
use Rattle.nf_walked.specs.Around.{Knows}
use Rattle.nf_walked.specs.Forms.{a_port}
use Rattle.nf_applied.proofs.Counting.{count_fails, count_then, room_on}
use Rattle.nf_applied.proofs.Rooms.{leaves_counted}
use Rattle.nf_applied.proofs.counts.begin_set.Goals as goal

pub channel-requires-clause-reads : goal.channel-requires-clause-reads
channel-requires-clause-reads g c = c.in_ok-count.ensures.walk.later.reads (thing_of c.args.thing) c.requires.reads

pub returns-in_err-count-clause-walk : goal.returns-in_err-count-clause-walk
returns-in_err-count-clause-walk g c =
    let e = c.in_err-count.field-0.0 in
    let err : c.from_residual.result ≡ Err e = search rules in
    rw err
    (count_fails (Knows g.N.Natives.titles g.N.Natives.answer c.args.walker.now) c.args.thing c.args.place 1 c.args.state.now c.count.new.state c.requires.before.lowering c.requires.reads a_port (channel_wanted c.args.begin) e
    c.in_err-count.ensures.walk)

pub returns-clause-walk : goal.returns-clause-walk
returns-clause-walk g c =
    count_then (Knows g.N.Natives.titles g.N.Natives.answer c.args.walker.now) c.args.thing c.args.place 1 c.args.state.now c.count.new.state c.requires.before.lowering c.requires.reads a_port (channel_wanted c.args.begin)
    c.channel.new.state c.channel.result c.in_ok-count.field-0 c.in_ok-count.ensures.walk c.channel.ensures

pub returns-clause-room : goal.returns-clause-room
returns-clause-room g c =
    room_on 1 1 c.args.state.now c.count.new.state c.channel.new.state c.channel.result (leaves_counted 1 c.args.state.now.plan c.count.new.state.plan c.in_ok-count.ensures.grows) c.channel.ensures.goes
