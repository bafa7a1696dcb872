use Rattle.std.proofs.Common.{arith}
use Rattle.nf_serial.proofs.Going.{alone_taken, can_after, no_more, serves_alone, serves_then}
use Rattle.nf_serial.proofs.Turns.{took_none, took_ticket}
use Rattle.nf_serial.proofs.one_lane.take.Goals as goal

pub take-taken-requires : goal.take-taken-requires
take-taken-requires g c = c.requires.legal

pub returns-in_default-clause-idle : goal.returns-in_default-clause-idle
returns-in_default-clause-idle g c = took_none c.args.run.now c.take-taken.new.self c.take-taken.result _ c.in_default.is c.requires.idle c.take-taken.ensures.err

pub returns-in_default-clause-less : goal.returns-in_default-clause-less
returns-in_default-clause-less g c =
    (alone_taken c.args.run.now c.take-taken.new.self c.args.node c.args.port c.args.place c.take-taken.result c.take-taken.ensures.ok c.take-taken.ensures.err c.falls.ensures).less

pub returns-in_default-clause-serves : goal.returns-in_default-clause-serves
returns-in_default-clause-serves g c =
    serves_alone _ (alone_taken c.args.run.now c.take-taken.new.self c.args.node c.args.port c.args.place c.take-taken.result c.take-taken.ensures.ok c.take-taken.ensures.err c.falls.ensures) c.requires.lane.told

pub serve-requires-clause-ticket : goal.serve-requires-clause-ticket
serve-requires-clause-ticket g c =
    took_ticket c.args.run.now c.take-taken.new.self c.args.node c.args.port c.args.place c.take-taken.result c.in-Ok.ticket c.in-Ok.is c.requires.idle c.requires.legal c.take-taken.ensures.ok c.take-taken.ensures.ticket

pub serve-requires-clause-lane : goal.serve-requires-clause-lane
serve-requires-clause-lane g c =
    can_after c.requires.lane
    (serves_alone _ (alone_taken c.args.run.now c.take-taken.new.self c.args.node c.args.port c.args.place c.take-taken.result c.take-taken.ensures.ok c.take-taken.ensures.err c.falls.ensures) c.requires.lane.told)

pub returns-clause-less : goal.returns-clause-less
returns-clause-less g c =
    let a = (alone_taken c.args.run.now c.take-taken.new.self c.args.node c.args.port c.args.place c.take-taken.result c.take-taken.ensures.ok c.take-taken.ensures.err c.falls.ensures).less in
    let b = no_more c.serve.ensures.serves in omega (arith, a, b)

pub returns-clause-serves : goal.returns-clause-serves
returns-clause-serves g c =
    serves_then
    (serves_alone _ (alone_taken c.args.run.now c.take-taken.new.self c.args.node c.args.port c.args.place c.take-taken.result c.take-taken.ensures.ok c.take-taken.ensures.err c.falls.ensures) c.requires.lane.told)
    c.serve.ensures.serves
