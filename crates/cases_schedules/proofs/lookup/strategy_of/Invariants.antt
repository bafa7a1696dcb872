use Rattle.std.proofs.Common.{◌≡◌, drop}
use Rattle.cases_schedules.specs.Table.{strategy_in}
use Rattle.cases_schedules.proofs.lookup.strategy_of.Given as goal

abbrev pub invariant-loop-handling : goal.invariant-loop-handling
invariant-loop-handling l = strategy_in l.node l.strategies ≡ strategy_in l.node (drop l.handling-index l.strategies)
