use Rattle.std.proofs.Common.{ap, ◌∙◌, map}
use Rattle.nf_value.specs.View.{plain_of}
use Rattle.nf_opclose.specs.Gathered.{sorted_list}
use Rattle.nf_opclose.specs.Rows.{to_list_row}
use Rattle.nf_opclose.proofs.Promised.{ended, due_alike}
use Rattle.nf_opclose.proofs.Inputs.{sorted_alike}
use Rattle.nf_opclose.proofs.to_list.ToListState.close.Goals as goal

pub returns : goal.returns
returns c = λ p after. ended (λ t. t.items) to_list_row c.to_list.ensures c.promises.ensures.ended c.promises.ensures.broken p after.fine c.emit_sorted.result
    (due_alike (λ t. t.items) (ap (λ v. sorted_list (map plain_of v.items)) c.replace-items.ensures.value ∙ sorted_alike c.sorting.ensures.by_bag after.items) c.emit_sorted.result c.emit_sorted.ensures)
