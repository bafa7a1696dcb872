use Rattle.std.proofs.Common.{ap, sym, ◌∙◌, subst}
use Rattle.std.specs.Option.{option_map}
use Rattle.nf_value.specs.View.{plain_of}
use Rattle.nf_opstream.specs.Fault.{not_a_number}
use Rattle.nf_opstream.specs.Rows.{items_in}
use Rattle.nf_opclose.specs.Reduce.{with_start, made_of}
use Rattle.nf_opclose.specs.Rows.{reduce_row}
use Rattle.nf_opclose.specs.Running.{kind_of, IsRunning}
use Rattle.nf_opclose.proofs.Promised.{ended, due_alike}
use Rattle.nf_opclose.proofs.Reductions.{made_due, stray_due, stray_is}
use Rattle.nf_opclose.proofs.reduce.ReduceState.close.Goals as goal

pub returns-in-Some : goal.returns-in-Some
returns-in-Some c = λ kind start p after. c.promises.ensures.broken (reduce_row kind start) (c.reduce.ensures kind start) p after.fine (not_a_number (plain_of c.in-Some.item))
    (stray_due kind start (items_in p) (plain_of c.in-Some.item) (stray_is kind start p c.args.self.now after c.replace-stray.result c.replace-stray.ensures.value ∙ ap (option_map plain_of) c.in-Some.is))

pub returns-in-None : goal.returns-in-None
returns-in-None c = λ kind start p after. (let vs = with_start start (items_in p) in
    let was = c.replace-running.ensures.value in
    ended (λ t. t.items) (reduce_row kind start) (c.reduce.ensures kind start) c.promises.ensures.ended c.promises.ensures.broken p after.fine c.emit.result
    (due_alike (λ t. t.items)
    (ap (λ k. made_of k vs) (ap kind_of was ∙ after.made) ∙ made_due kind start p after.fine (stray_is kind start p c.args.self.now after c.replace-stray.result c.replace-stray.ensures.value ∙ ap (option_map plain_of) c.in-None.is))
    c.emit.result (c.emit.ensures vs (subst (IsRunning vs) (sym was) after.running))))
