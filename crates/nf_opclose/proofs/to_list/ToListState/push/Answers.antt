use Rattle.std.proofs.Common.{refl}
use Rattle.nf_value.specs.View.{plain_of}
use Rattle.nf_opstream.specs.Push.{push_of}
use Rattle.nf_opclose.specs.Rows.{to_list_row}
use Rattle.nf_opclose.proofs.Promised.{gives_silent}
use Rattle.nf_opclose.proofs.Kept.{to_list_more}
use Rattle.nf_opclose.proofs.to_list.ToListState.push.Goals as goal

pub returns-clause-emits : goal.returns-clause-emits
returns-clause-emits c = λ p after. (let x = push_of c.args.port (plain_of c.args.item) (plain_of c.args.answer) in
    gives_silent to_list_row c.to_list.ensures c.promises.ensures.emitted p after.fine x c.new.result.items c.new.ensures.items refl)

pub returns-clause-after : goal.returns-clause-after
returns-clause-after c = λ p after. (let x = push_of c.args.port (plain_of c.args.item) (plain_of c.args.answer) in
    to_list_more p c.args.self.now _ after x c.args.item refl c.in_ok-push.ensures.items)
