use Rattle.std.proofs.Common.{refl}
use Rattle.nf_value.specs.View.{plain_of}
use Rattle.nf_opstream.specs.Push.{push_of}
use Rattle.nf_opclose.specs.Rows.{collect_row}
use Rattle.nf_opclose.proofs.Promised.{gives_silent}
use Rattle.nf_opclose.proofs.Kept.{collect_more}
use Rattle.nf_opclose.proofs.collect.CollectState.push.Goals as goal

pub returns-clause-emits : goal.returns-clause-emits
returns-clause-emits c = λ flat p after. (let x = push_of c.args.port (plain_of c.args.item) (plain_of c.args.answer) in
    gives_silent (collect_row flat) (c.collect.ensures flat) c.promises.ensures.emitted p after.fine x c.new.result.items c.new.ensures.items refl)

pub returns-clause-after : goal.returns-clause-after
returns-clause-after c = λ flat p after. (let x = push_of c.args.port (plain_of c.args.item) (plain_of c.args.answer) in
    collect_more flat p c.args.self.now _ after x refl refl c.in_ok-put_parts.ensures)
