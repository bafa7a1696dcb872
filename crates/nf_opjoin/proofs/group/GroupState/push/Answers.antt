use Rattle.std.proofs.Common.{refl, ap, sym, ◌∙◌}
use Rattle.nf_value.specs.View.{plain_of}
use Rattle.nf_opstream.specs.Push.{push_of}
use Rattle.nf_opstream.specs.Promise.{emits_of}
use Rattle.nf_opjoin.specs.Tuples.{key_at}
use Rattle.nf_opjoin.specs.Grouped.{group_row}
use Rattle.nf_opjoin.proofs.Grouping.{refused_stray, emits_none, group_more}
use Rattle.nf_opjoin.proofs.group.GroupState.push.Goals as goal

pub returns-in-Err-clause-emits : goal.returns-in-Err-clause-emits
returns-in-Err-clause-emits c = λ n sort p after. (let x = push_of c.args.port (plain_of c.args.item) (plain_of c.args.answer) in
    refused_stray n sort p x c.in-Err.fault (ap (λ m. key_at m (plain_of c.args.item)) (sym after.by) ∙ c.in-Err.ensures.0) c.in-Err.ensures.1
    (c.promises.ensures.faulted (group_row n sort) (c.grouped.ensures n sort) p after.fine x))

pub returns-clause-emits : goal.returns-clause-emits
returns-clause-emits c = λ n sort p after. (let x = push_of c.args.port (plain_of c.args.item) (plain_of c.args.answer) in
    c.promises.ensures.emitted (group_row n sort) (c.grouped.ensures n sort) p after.fine x (emits_of c.new.result.items)
    (emits_none n sort p c.args.self.now after x c.in-Ok.keyed.key c.in-Ok.keyed.rest c.in-Ok.ensures c.new.result.items c.new.ensures.items))

pub returns-clause-after : goal.returns-clause-after
returns-clause-after c = λ n sort p after. (let x = push_of c.args.port (plain_of c.args.item) (plain_of c.args.answer) in
    group_more n sort p c.args.self.now _ after x c.in-Ok.keyed.key c.in-Ok.keyed.rest c.in-Ok.ensures c.in_ok-gather-in-Ok.ensures.held c.in_ok-gather-in-Ok.ensures.ordered refl refl)
