use Rattle.std.proofs.Common.{ap, refl}
use Rattle.nf_opjoin.specs.Grouped.{group_row}
use Rattle.nf_opjoin.proofs.Promised.{ended, due_alike}
use Rattle.nf_opjoin.proofs.Grouping.{given_due}
use Rattle.nf_opjoin.proofs.group.GroupState.close.Goals as goal

pub returns-clause-ends : goal.returns-clause-ends
returns-clause-ends c = λ n sort p after. ended (λ t. t.items) (group_row n sort) (c.grouped.ensures n sort) c.promises.ensures.ended c.promises.ensures.broken p after.fine c.give.result
    (due_alike (λ t. t.items)
    (given_due c.one_rising_list.ensures c.sorting.ensures.by_bag c.distinct_values.ensures.rising c.distinct_values.ensures.once n sort p c.args.self.now after c.replace-groups.result.entries (ap (λ m. m.entries) c.replace-groups.ensures.value) c.new-lists.result.items
    c.put_groups.new.lists.items c.new-lists.ensures.items c.args.self.now.by c.args.self.now.sort refl refl c.in_ok-put_groups.ensures c.of.result c.of.ensures)
    c.give.result c.give.ensures)
