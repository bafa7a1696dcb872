use Rattle.std.proofs.Common.{refl, ap, ◌∙◌}
use Rattle.nf_opstream.specs.Rows.{items_in}
use Rattle.nf_opclose.specs.Numbers.{total_of, total_due}
use Rattle.nf_opclose.specs.Rows.{sum_row}
use Rattle.nf_opclose.proofs.Promised.{ended, due_alike}
use Rattle.nf_opclose.proofs.Totals.{all_numbers, of_all_numbers}
use Rattle.nf_opclose.proofs.sum.SumState.close.Goals as goal

pub returns-clause-ends : goal.returns-clause-ends
returns-clause-ends c = λ p after. ended (λ t. t.items) sum_row c.sum.ensures c.promises.ensures.ended c.promises.ensures.broken p after.fine c.emit_total.result
    (due_alike (λ t. t.items) (ap total_due after.total ∙ of_all_numbers (items_in p) (total_due (total_of (items_in p))) (all_numbers sum_row (λ q x. refl) p after.fine)) c.emit_total.result c.emit_total.ensures)
