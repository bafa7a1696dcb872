use Rattle.std.proofs.Common.{◌≡◌, drop}
use Rattle.nf_value.specs.View.{plain_of}
use Rattle.cases_schedules.specs.Table.{answer_in}
use Rattle.cases_schedules.proofs.lookup.answer_to.Given as goal

abbrev pub invariant-loop-answer : goal.invariant-loop-answer
invariant-loop-answer l = answer_in l.node (plain_of l.item) l.answers ≡ answer_in l.node (plain_of l.item) (drop l.answer-index l.answers)
