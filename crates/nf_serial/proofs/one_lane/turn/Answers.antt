use Rattle.nf_serial.proofs.Going.{serves_alone}
use Rattle.nf_serial.proofs.Turns.{legal_close, legal_pass, legal_take}
use Rattle.nf_serial.proofs.one_lane.turn.Goals as goal

pub pass-requires-clause-legal : goal.pass-requires-clause-legal
pass-requires-clause-legal g c = legal_pass c.args.run.now c.args.step c.in-Pass.port c.in-Pass.is c.requires.legal

pub returns-in-Pass-clause-less : goal.returns-in-Pass-clause-less
returns-in-Pass-clause-less g c = c.pass.ensures.goes.less

pub returns-in-Pass-clause-serves : goal.returns-in-Pass-clause-serves
returns-in-Pass-clause-serves g c = serves_alone _ c.pass.ensures.goes c.requires.lane.told

pub close-requires-clause-legal : goal.close-requires-clause-legal
close-requires-clause-legal g c = legal_close c.args.run.now c.args.step c.in-Close.node c.in-Close.is c.requires.legal

pub returns-in-Close-clause-less : goal.returns-in-Close-clause-less
returns-in-Close-clause-less g c = c.close.ensures.goes.less

pub returns-in-Close-clause-serves : goal.returns-in-Close-clause-serves
returns-in-Close-clause-serves g c = serves_alone _ c.close.ensures.goes c.requires.lane.told

pub take-requires-clause-legal : goal.take-requires-clause-legal
take-requires-clause-legal g c = legal_take c.args.run.now c.args.step c.in-Take.node c.in-Take.port c.in-Take.place c.in-Take.is c.requires.legal
