use Rattle.std.proofs.Common.{refl, ap, sym, ◌∙◌}
use Rattle.nf_value.specs.View.{plain_of}
use Rattle.nf_opstream.specs.Push.{push_of}
use Rattle.nf_opjoin.specs.Tuples.{key_at}
use Rattle.nf_opjoin.specs.Joined.{join_row}
use Rattle.nf_opjoin.proofs.Promised.{answered, due_alike}
use Rattle.nf_opjoin.proofs.Combining.{is_zero, not_zero}
use Rattle.nf_opjoin.proofs.Joining.{left_due, right_due, left_more, right_more, refused_stray}
use Rattle.nf_opjoin.proofs.join.JoinState.push.Goals as goal

pub returns-in-Err-clause-emits : goal.returns-in-Err-clause-emits
returns-in-Err-clause-emits c = λ n wanted p after. (let x = push_of c.args.port (plain_of c.args.item) (plain_of c.args.answer) in
    refused_stray n wanted (c.joined.ensures.matches n wanted) p x c.in-Err.fault (ap (λ m. key_at m (plain_of c.args.item)) (sym after.by) ∙ c.in-Err.ensures.0) c.in-Err.ensures.1
    (c.promises.ensures.faulted (join_row n wanted) (c.joined.ensures.operator n wanted) p after.fine x))

pub returns-then-port-eq0-clause-emits : goal.returns-then-port-eq0-clause-emits
returns-then-port-eq0-clause-emits c = λ n wanted p after. (let x = push_of c.args.port (plain_of c.args.item) (plain_of c.args.answer) in
    answered (λ t. t.items) (join_row n wanted) (c.joined.ensures.operator n wanted) c.promises.ensures.emitted c.promises.ensures.faulted p after.fine x c.enter.result
    (due_alike (λ t. t.items) (left_due n wanted (c.joined.ensures.matches n wanted) p c.args.self.now after x c.in-Ok.keyed.key c.in-Ok.keyed.rest c.in-Ok.ensures (is_zero c.args.port c.if-port-eq0.true)) c.enter.result c.enter.ensures.emits))

pub returns-then-port-eq0-clause-after : goal.returns-then-port-eq0-clause-after
returns-then-port-eq0-clause-after c = λ n wanted p after. (let x = push_of c.args.port (plain_of c.args.item) (plain_of c.args.answer) in
    left_more n wanted (c.joined.ensures.matches n wanted) p c.args.self.now after x c.in-Ok.keyed.key c.in-Ok.keyed.rest c.in-Ok.ensures (λ t. t.items) _ (is_zero c.args.port c.if-port-eq0.true) c.enter.result c.enter.ensures.emits c.enter.ensures.fresh
    c.enter.ensures.entries c.enter.ensures.updates c.enter.ensures.matched refl refl refl)

pub returns-clause-emits : goal.returns-clause-emits
returns-clause-emits c = λ n wanted p after. (let x = push_of c.args.port (plain_of c.args.item) (plain_of c.args.answer) in
    answered (λ t. t.items) (join_row n wanted) (c.joined.ensures.operator n wanted) c.promises.ensures.emitted c.promises.ensures.faulted p after.fine x c.enter-else-port-eq0.result
    (due_alike (λ t. t.items) (right_due n wanted (c.joined.ensures.matches n wanted) p c.args.self.now after x c.in-Ok.keyed.key c.in-Ok.keyed.rest c.in-Ok.ensures (not_zero c.args.port c.if-port-eq0.false)) c.enter-else-port-eq0.result c.enter-else-port-eq0.ensures.emits))

pub returns-clause-after : goal.returns-clause-after
returns-clause-after c = λ n wanted p after. (let x = push_of c.args.port (plain_of c.args.item) (plain_of c.args.answer) in
    right_more n wanted (c.joined.ensures.matches n wanted) p c.args.self.now after x c.in-Ok.keyed.key c.in-Ok.keyed.rest c.in-Ok.ensures (λ t. t.items) _ (not_zero c.args.port c.if-port-eq0.false) c.enter-else-port-eq0.result c.enter-else-port-eq0.ensures.emits
    c.enter-else-port-eq0.ensures.fresh c.enter-else-port-eq0.ensures.entries c.enter-else-port-eq0.ensures.updates c.enter-else-port-eq0.ensures.matched refl refl refl)
