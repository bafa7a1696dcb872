use Rattle.std.proofs.Common.{[], ap, sym, ◌∙◌, map}
use Rattle.nf_value.specs.View.{plain_of}
use Rattle.nf_opstream.specs.Promise.{emits_of}
use Rattle.nf_opclose.specs.Gathered.{collected, sorted_list}
use Rattle.nf_opclose.specs.Rows.{collect_row}
use Rattle.nf_opclose.proofs.Promised.{ended, ends_with, due_alike}
use Rattle.nf_opclose.proofs.Inputs.{sorted_alike}
use Rattle.nf_opclose.proofs.Kept.{any_due, none_any}
use Rattle.nf_opclose.proofs.collect.CollectState.close.Goals as goal

pub returns-then-self-clause-ends : goal.returns-then-self-clause-ends
returns-then-self-clause-ends c = λ flat p after. ends_with (collect_row flat) (c.collect.ensures flat) c.promises.ensures.ended p after.fine c.new.result.items [] (ap emits_of c.new.ensures.items)
    (none_any p (sorted_list (collected flat p)) (sym after.none ∙ c.if-self.true))

pub returns-clause-ends : goal.returns-clause-ends
returns-clause-ends c = λ flat p after. ended (λ t. t.items) (collect_row flat) (c.collect.ensures flat) c.promises.ensures.ended c.promises.ensures.broken p after.fine c.emit_sorted.result
    (due_alike (λ t. t.items) (ap (λ v. sorted_list (map plain_of v.items)) c.replace-parts.ensures.value ∙ sorted_alike c.sorting.ensures.by_bag after.parts ∙ any_due p (sorted_list (collected flat p)) (sym after.none ∙ c.if-self.false)) c.emit_sorted.result c.emit_sorted.ensures)
