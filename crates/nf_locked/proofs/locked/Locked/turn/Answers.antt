use Rattle.nf_locked.proofs.Entering.{made_close, made_pass, made_take}
use Rattle.nf_serial.proofs.Turns.{legal_close, legal_pass, legal_take}
use Rattle.nf_locked.proofs.locked.Locked.turn.Goals as goal

pub pass-requires : goal.pass-requires
pass-requires g c = legal_pass c.args.self.now c.args.next c.in-Pass.port c.in-Pass.is c.requires.legal

pub close-requires : goal.close-requires
close-requires g c = legal_close c.args.self.now c.args.next c.in-Close.node c.in-Close.is c.requires.legal

pub take-requires-clause-legal : goal.take-requires-clause-legal
take-requires-clause-legal g c = legal_take c.args.self.now c.args.next c.in-Take.node c.in-Take.port c.in-Take.place c.in-Take.is c.requires.legal

pub returns-in-Pass-clause-makes : goal.returns-in-Pass-clause-makes
returns-in-Pass-clause-makes g c = made_pass c.args.self.now c.pass.new.self c.args.next c.in-Pass.port c.pass.result c.in-Pass.is c.pass.ensures.makes

pub returns-in-Close-clause-makes : goal.returns-in-Close-clause-makes
returns-in-Close-clause-makes g c = made_close c.args.self.now c.close.new.self c.args.next c.in-Close.node c.close.result c.in-Close.is c.close.ensures.makes

pub returns-in-Take-clause-makes : goal.returns-in-Take-clause-makes
returns-in-Take-clause-makes g c = made_take c.args.self.now c.take.new.self c.args.next c.in-Take.node c.in-Take.port c.in-Take.place c.take.result c.in-Take.is c.take.ensures.makes
