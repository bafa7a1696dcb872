use Rattle.std.proofs.Common.{[], ap, ◌∙◌}
use Rattle.nf_bag.specs.Sorted.{sorted_of}
use Rattle.nf_opstream.specs.Promise.{emits_of}
use Rattle.nf_opjoin.specs.Joined.{join_row}
use Rattle.nf_opjoin.proofs.Promised.{ended, ends_with, due_alike}
use Rattle.nf_opjoin.proofs.Joining.{remainder_due, nothing_due}
use Rattle.nf_opjoin.proofs.join.JoinState.close.Goals as goal

pub returns-then-not-self-clause-ends : goal.returns-then-not-self-clause-ends
returns-then-not-self-clause-ends c = λ n wanted p after. ends_with (join_row n wanted) (c.joined.ensures.operator n wanted) c.promises.ensures.ended p after.fine c.new.result.items [] (ap emits_of c.new.ensures.items)
    (nothing_due n wanted (c.joined.ensures.matches n wanted) p c.args.self.now after c.if-not-self.true)

pub returns-clause-ends : goal.returns-clause-ends
returns-clause-ends c = λ n wanted p after. ended (λ t. t.items) (join_row n wanted) (c.joined.ensures.operator n wanted) c.promises.ensures.ended c.promises.ensures.broken p after.fine c.give.result
    (due_alike (λ t. t.items)
    (remainder_due n wanted (c.joined.ensures.matches n wanted) p c.args.self.now after c.sorting.ensures.by_bag c.if-not-self.false c.new-lonely.result.items c.put_unmatched.new.lonely.items c.put_unmatched-2.new.lonely.items c.replace-left.result c.replace-right.result
    c.new-lonely.ensures.items c.replace-left.ensures.value c.replace-right.ensures.value c.in_ok-put_unmatched.ensures c.in_ok-put_unmatched-2.ensures c.in_ok-values.values (c.in_ok-values.ensures ∙ ap sorted_of c.of.ensures))
    c.give.result c.give.ensures)
