use Rattle.std.proofs.Common.{refl, ap, sym, ◌∙◌}
use Rattle.nf_value.specs.View.{plain_of}
use Rattle.nf_opstream.specs.Push.{push_of}
use Rattle.nf_opstream.specs.Fault.{not_a_number}
use Rattle.nf_opclose.specs.Reduce.{refuses}
use Rattle.nf_opclose.specs.Rows.{reduce_row}
use Rattle.nf_opclose.proofs.Promised.{gives_silent}
use Rattle.nf_opclose.proofs.Reductions.{refused_given, taken_given, reduce_more}
use Rattle.nf_opclose.proofs.reduce.ReduceState.push.Goals as goal

pub returns-then-refuses-clause-emits : goal.returns-then-refuses-clause-emits
returns-then-refuses-clause-emits c = λ kind start p after. (let x = push_of c.args.port (plain_of c.args.item) (plain_of c.args.answer) in
    c.promises.ensures.faulted (reduce_row kind start) (c.reduce.ensures kind start) p after.fine x (not_a_number (plain_of c.args.item))
    (refused_given kind x (ap (λ k. refuses k (plain_of c.args.item)) (sym after.made) ∙ sym c.refuses.ensures ∙ c.if-refuses.true)))

pub returns-clause-emits : goal.returns-clause-emits
returns-clause-emits c = λ kind start p after. (let x = push_of c.args.port (plain_of c.args.item) (plain_of c.args.answer) in
    gives_silent (reduce_row kind start) (c.reduce.ensures kind start) c.promises.ensures.emitted p after.fine x c.new.result.items c.new.ensures.items
    (taken_given kind x (ap (λ k. refuses k (plain_of c.args.item)) (sym after.made) ∙ sym c.refuses.ensures ∙ c.if-refuses.false)))

pub returns-clause-after : goal.returns-clause-after
returns-clause-after c = λ kind start p after. (let x = push_of c.args.port (plain_of c.args.item) (plain_of c.args.answer) in
    reduce_more kind start p c.args.self.now _ after x (ap (λ k. refuses k (plain_of c.args.item)) (sym after.made) ∙ sym c.refuses.ensures ∙ c.if-refuses.false)
    c.replace-running.result c.replace-running.ensures.value refl c.with.ensures.kind c.with.ensures.running)
