use Rattle.nf_value.specs.View.{plain_of}
use Rattle.nf_opstream.specs.Push.{push_of}
use Rattle.nf_operator.specs.Row.{operator_of}
use Rattle.nf_operator.proofs.Going.{emitted, next}
use Rattle.nf_operator.proofs.state.OpState.push.Goals as goal

pub returns-clause-emits : goal.returns-clause-emits
returns-clause-emits c = λ row opts p after. (let x = push_of c.args.port (plain_of c.args.item) (plain_of c.args.answer) in
    let op = operator_of row opts in
    emitted op p x c.push.result _ (c.push.ensures op p after.kept))

pub returns-clause-after : goal.returns-clause-after
returns-clause-after c = next c.args.self.now _ (push_of c.args.port (plain_of c.args.item) (plain_of c.args.answer)) c.push.result c.push.ensures
