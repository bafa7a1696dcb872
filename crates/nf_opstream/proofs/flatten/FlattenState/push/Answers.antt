use Rattle.std.proofs.Common.{ap, ◌∙◌, ◌++◌, map}
use Rattle.nf_value.specs.View.{plain_of}
use Rattle.nf_opstream.specs.Push.{push_of}
use Rattle.nf_opstream.specs.Nested.{leaves}
use Rattle.nf_opstream.specs.Rows.{flatten_row, first_out}
use Rattle.nf_opstream.proofs.Each.{flatten_law}
use Rattle.nf_opstream.proofs.Promised.{answered, judged_alike}
use Rattle.nf_opstream.proofs.flatten.FlattenState.push.Goals as goal

pub returns : goal.returns
returns c = λ p fine. (let x = push_of c.args.port (plain_of c.args.item) (plain_of c.args.answer) in
    let put = c.in_ok-put_leaves.ensures ∙ ap (λ z. map plain_of z ++ leaves (plain_of c.args.item)) c.new-values.ensures.items in
    answered (λ v. v.items) flatten_row flatten_law p fine x c.judge.result (judged_alike (λ v. v.items) (c.in_ok-emits.ensures ∙ ap first_out put) c.judge.result c.judge.ensures))
