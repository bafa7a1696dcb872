use Rattle.std.proofs.Common.{ap, rules}
use Rattle.nf_value.specs.Plain.{int}
use Rattle.nf_opclose.specs.Closing.{single}
use Rattle.nf_opclose.specs.Rows.{count_row}
use Rattle.nf_opclose.proofs.Promised.{ended, due_alike}
use Rattle.nf_opclose.proofs.Kept.{count_number}
use Rattle.nf_opclose.proofs.count.CountState.close.Goals as goal

pub returns-clause-ends : goal.returns-clause-ends
returns-clause-ends c = λ p after. ended (λ t. t.items) count_row c.count.ensures c.promises.ensures.ended c.promises.ensures.broken p after.fine c.emit.result
    (due_alike (λ t. t.items) (ap (λ n. single (int n)) (count_number p c.args.self.now after (search rules))) c.emit.result c.emit.ensures)
