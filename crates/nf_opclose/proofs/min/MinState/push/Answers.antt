use Rattle.std.proofs.Common.{refl}
use Rattle.nf_value.specs.View.{plain_of}
use Rattle.nf_opstream.specs.Push.{push_of}
use Rattle.nf_opclose.specs.Rows.{min_row}
use Rattle.nf_opclose.proofs.Promised.{gives_silent}
use Rattle.nf_opclose.proofs.Kept.{min_more}
use Rattle.nf_opclose.proofs.min.MinState.push.Goals as goal

pub returns-clause-emits : goal.returns-clause-emits
returns-clause-emits c = λ p after. (let x = push_of c.args.port (plain_of c.args.item) (plain_of c.args.answer) in
    gives_silent min_row c.min.ensures c.promises.ensures.emitted p after.fine x c.new.result.items c.new.ensures.items refl)

pub returns-clause-after : goal.returns-clause-after
returns-clause-after c = λ p after. (let x = push_of c.args.port (plain_of c.args.item) (plain_of c.args.answer) in
    min_more p c.args.self.now _ after x c.replace-least.result c.replace-least.ensures.value c.lesser.result refl c.lesser.ensures)
