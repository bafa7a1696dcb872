use Rattle.std.proofs.Common.{◌≡◌, drop}
use Rattle.cases_schedules.specs.Table.{values_in}
use Rattle.cases_schedules.proofs.lookup.values_of.Given as goal

abbrev pub invariant-loop-told : goal.invariant-loop-told
invariant-loop-told l = values_in l.node l.text l.outputs ≡ values_in l.node l.text (drop l.told-index l.outputs)
