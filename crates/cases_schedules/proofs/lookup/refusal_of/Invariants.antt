use Rattle.std.proofs.Common.{◌≡◌, drop}
use Rattle.cases_schedules.specs.Table.{refusal_in}
use Rattle.cases_schedules.proofs.lookup.refusal_of.Given as goal

abbrev pub invariant-loop-refusal : goal.invariant-loop-refusal
invariant-loop-refusal l = refusal_in l.node l.inputs l.attempt l.refused ≡ refusal_in l.node l.inputs l.attempt (drop l.refusal-index l.refused)
