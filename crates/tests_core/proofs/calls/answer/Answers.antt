use Rattle.std.proofs.Common.{arith, sym}
use Rattle.std.proofs.lemmas.Bool.Decides.{nat_tests}
use Rattle.tests_core.proofs.Trying.{answered_at}
use Rattle.tests_core.proofs.calls.answer.Goals as goal

pub give-requires-clause-rules : goal.give-requires-clause-rules
give-requires-clause-rules g c = sym c.requires.tried.rules

pub give-requires-clause-answer : goal.give-requires-clause-answer
give-requires-clause-answer g c = answered_at g.J.Fixed.facts c.args.run.now c.args.ticket c.requires.tried c.holds.ensures.graph c.requires.ticket (grind (arith, nat_tests))
