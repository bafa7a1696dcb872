use Rattle.std.proofs.Common.{sym}
use Rattle.tests_core.proofs.runs.lose_task.Goals as goal

pub start_and_lose-requires-clause-fresh : goal.start_and_lose-requires-clause-fresh
start_and_lose-requires-clause-fresh g c = sym c.requires.resumed_is
