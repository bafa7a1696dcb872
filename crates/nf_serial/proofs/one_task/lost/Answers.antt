use Rattle.std.specs.Prelude.{Some}
use Rattle.nf_serial.proofs.Serving.{lose_legal, lose_named, lose_not_keeper}
use Rattle.nf_serial.proofs.Turns.{abort_alone, alone_flying}
use Rattle.nf_serial.proofs.one_task.lost.Goals as goal

pub give_up-requires-clause-ticket : goal.give_up-requires-clause-ticket
give_up-requires-clause-ticket g c = alone_flying c.args.run.now c.args.ticket c.requires.ticket

pub give_up-requires-clause-cause : goal.give_up-requires-clause-cause
give_up-requires-clause-cause g c = lose_legal g.J.Fixed.facts c.args.run.now c.args.ticket c.args.cause (alone_flying c.args.run.now c.args.ticket c.requires.ticket) c.requires.cause

pub give_up-requires-clause-keeper : goal.give_up-requires-clause-keeper
give_up-requires-clause-keeper g c = lose_not_keeper g.J.Fixed.facts.rules c.args.run.now c.args.ticket c.args.cause c.requires.cause

pub give_up-requires-clause-named : goal.give_up-requires-clause-named
give_up-requires-clause-named g c = lose_named g.J.Fixed.facts.rules c.args.run.now c.args.ticket c.args.cause c.requires.cause

pub returns-clause-idle : goal.returns-clause-idle
returns-clause-idle g c = abort_alone c.args.run.now c.give_up.new.self c.args.ticket (Some c.args.cause) c.requires.ticket c.give_up.ensures

pub returns-clause-event : goal.returns-clause-event
returns-clause-event g c = c.give_up.ensures

pub returns-clause-less : goal.returns-clause-less
returns-clause-less g c = c.falls.ensures c.args.run.now _ c.give_up.ensures
