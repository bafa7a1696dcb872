use Rattle.std.proofs.Common.{ap, ◌∙◌}
use Rattle.std.specs.Option.{option_map}
use Rattle.nf_value.specs.View.{plain_of}
use Rattle.nf_opclose.specs.Gathered.{if_some}
use Rattle.nf_opclose.specs.Rows.{min_row}
use Rattle.nf_opclose.proofs.Promised.{ended, due_alike}
use Rattle.nf_opclose.proofs.min.MinState.close.Goals as goal

pub returns : goal.returns
returns c = λ p after. ended (λ t. t.items) min_row c.min.ensures c.promises.ensures.ended c.promises.ensures.broken p after.fine c.emit_some.result
    (due_alike (λ t. t.items) (ap if_some (ap (option_map plain_of) c.replace-least.ensures.value ∙ after.least)) c.emit_some.result c.emit_some.ensures)
