use Rattle.nf_value.specs.View.{plain_of}
use Rattle.nf_opstream.specs.Push.{push_of}
use Rattle.nf_opclose.specs.Rows.{if_empty_row}
use Rattle.nf_opclose.proofs.Promised.{answered}
use Rattle.nf_opclose.proofs.if_empty.IfEmptyState.push.Goals as goal

pub returns-clause-emits : goal.returns-clause-emits
returns-clause-emits c = λ v p after. (let x = push_of c.args.port (plain_of c.args.item) (plain_of c.args.answer) in
    answered (λ t. t.items) (if_empty_row v) (c.if_empty.ensures v) c.promises.ensures.emitted c.promises.ensures.faulted p after.fine x c.emit.result c.emit.ensures)
