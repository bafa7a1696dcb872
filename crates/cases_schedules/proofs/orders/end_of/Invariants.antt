use Rattle.cases_schedules.specs.Held.{IsSound}
use Rattle.cases_schedules.specs.Table.{table_rules}
use Rattle.cases_schedules.proofs.orders.end_of.Given as goal

abbrev pub invariant-steps : goal.invariant-steps
invariant-steps l = IsSound (table_rules l.case.rules) l.machine
