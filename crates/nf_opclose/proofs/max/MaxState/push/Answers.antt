use Rattle.std.proofs.Common.{refl}
use Rattle.nf_value.specs.View.{plain_of}
use Rattle.nf_opstream.specs.Push.{push_of}
use Rattle.nf_opclose.specs.Rows.{max_row}
use Rattle.nf_opclose.proofs.Promised.{gives_silent}
use Rattle.nf_opclose.proofs.Kept.{max_more}
use Rattle.nf_opclose.proofs.max.MaxState.push.Goals as goal

pub returns-clause-emits : goal.returns-clause-emits
returns-clause-emits c = λ p after. (let x = push_of c.args.port (plain_of c.args.item) (plain_of c.args.answer) in
    gives_silent max_row c.max.ensures c.promises.ensures.emitted p after.fine x c.new.result.items c.new.ensures.items refl)

pub returns-clause-after : goal.returns-clause-after
returns-clause-after c = λ p after. (let x = push_of c.args.port (plain_of c.args.item) (plain_of c.args.answer) in
    max_more c.sorting.ensures.rising p c.args.self.now _ after x c.replace-greatest.result c.replace-greatest.ensures.value c.greater.result refl c.greater.ensures)
