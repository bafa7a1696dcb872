use Rattle.tests_core.proofs.Trying.{may_lose, not_keeper}
use Rattle.tests_core.proofs.calls.lose.Goals as goal

pub give_up-requires-clause-cause : goal.give_up-requires-clause-cause
give_up-requires-clause-cause g c = may_lose g.J.Fixed.facts.rules c.args.run.now c.args.ticket c.requires

pub give_up-requires-clause-keeper : goal.give_up-requires-clause-keeper
give_up-requires-clause-keeper g c = not_keeper
