use Rattle.std.proofs.Common.{refl}
use Rattle.nf_value.specs.View.{plain_of}
use Rattle.nf_opstream.specs.Push.{push_of}
use Rattle.nf_opjoin.specs.Combined.{combine_row}
use Rattle.nf_opjoin.proofs.Promised.{answered, due_alike}
use Rattle.nf_opjoin.proofs.Combining.{refused_stray, is_zero, not_zero, left_due, right_due, left_after, right_after}
use Rattle.nf_opjoin.proofs.combine.CombineState.push.Goals as goal

pub returns-in-Err-clause-emits : goal.returns-in-Err-clause-emits
returns-in-Err-clause-emits c = λ by_first p after. (let x = push_of c.args.port (plain_of c.args.item) (plain_of c.args.answer) in
    refused_stray by_first c.args.self.now.by_first after.by p x c.in-Err.fault c.in-Err.ensures (c.promises.ensures.faulted (combine_row by_first) (c.combined.ensures by_first) p after.fine x))

pub returns-then-port-eq0-clause-emits : goal.returns-then-port-eq0-clause-emits
returns-then-port-eq0-clause-emits c = λ by_first p after. (let x = push_of c.args.port (plain_of c.args.item) (plain_of c.args.answer) in
    answered (λ t. t.items) (combine_row by_first) (c.combined.ensures by_first) c.promises.ensures.emitted c.promises.ensures.faulted p after.fine x c.meet.result
    (due_alike (λ t. t.items) (left_due by_first p c.args.self.now after x c.in-Ok.keyed.key c.in-Ok.keyed.rest c.in-Ok.ensures (is_zero c.args.port c.if-port-eq0.true)) c.meet.result c.meet.ensures.emits))

pub returns-then-port-eq0-clause-after : goal.returns-then-port-eq0-clause-after
returns-then-port-eq0-clause-after c = λ by_first p after. (let x = push_of c.args.port (plain_of c.args.item) (plain_of c.args.answer) in
    left_after by_first p c.args.self.now after x c.in-Ok.keyed.key c.in-Ok.keyed.rest c.in-Ok.ensures (λ t. t.items) _ (is_zero c.args.port c.if-port-eq0.true) c.meet.result c.meet.ensures.emits c.meet.ensures.held refl refl)

pub returns-clause-emits : goal.returns-clause-emits
returns-clause-emits c = λ by_first p after. (let x = push_of c.args.port (plain_of c.args.item) (plain_of c.args.answer) in
    answered (λ t. t.items) (combine_row by_first) (c.combined.ensures by_first) c.promises.ensures.emitted c.promises.ensures.faulted p after.fine x c.meet-else-port-eq0.result
    (due_alike (λ t. t.items) (right_due by_first p c.args.self.now after x c.in-Ok.keyed.key c.in-Ok.keyed.rest c.in-Ok.ensures (not_zero c.args.port c.if-port-eq0.false)) c.meet-else-port-eq0.result c.meet-else-port-eq0.ensures.emits))

pub returns-clause-after : goal.returns-clause-after
returns-clause-after c = λ by_first p after. (let x = push_of c.args.port (plain_of c.args.item) (plain_of c.args.answer) in
    right_after by_first p c.args.self.now after x c.in-Ok.keyed.key c.in-Ok.keyed.rest c.in-Ok.ensures (λ t. t.items) _ (not_zero c.args.port c.if-port-eq0.false) c.meet-else-port-eq0.result c.meet-else-port-eq0.ensures.emits c.meet-else-port-eq0.ensures.held refl refl)
