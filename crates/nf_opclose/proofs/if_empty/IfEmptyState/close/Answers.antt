use Rattle.std.proofs.Common.{[], ap, sym, ◌∙◌}
use Rattle.nf_value.specs.View.{plain_of}
use Rattle.nf_opstream.specs.Promise.{emits_of}
use Rattle.nf_opclose.specs.Closing.{single}
use Rattle.nf_opclose.specs.Rows.{if_empty_row}
use Rattle.nf_opclose.proofs.Promised.{ended, ends_with, due_alike}
use Rattle.nf_opclose.proofs.Kept.{none_due, some_due}
use Rattle.nf_opclose.proofs.if_empty.IfEmptyState.close.Goals as goal

pub returns-then-not-self-clause-ends : goal.returns-then-not-self-clause-ends
returns-then-not-self-clause-ends c = λ v p after. ends_with (if_empty_row v) (c.if_empty.ensures v) c.promises.ensures.ended p after.fine c.new.result.items [] (ap emits_of c.new.ensures.items) (some_due v p (sym after.none ∙ c.if-not-self.true))

pub returns-clause-ends : goal.returns-clause-ends
returns-clause-ends c = λ v p after. ended (λ t. t.items) (if_empty_row v) (c.if_empty.ensures v) c.promises.ensures.ended c.promises.ensures.broken p after.fine c.emit.result
    (due_alike (λ t. t.items) (ap single (ap plain_of c.replace-value.ensures.value ∙ after.value) ∙ none_due v p (sym after.none ∙ c.if-not-self.false)) c.emit.result c.emit.ensures)
