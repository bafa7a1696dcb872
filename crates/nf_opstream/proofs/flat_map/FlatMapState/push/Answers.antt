use Rattle.nf_value.specs.View.{plain_of}
use Rattle.nf_opstream.specs.Push.{push_of}
use Rattle.nf_opstream.specs.Rows.{flat_map_row}
use Rattle.nf_opstream.proofs.Each.{flat_map_law}
use Rattle.nf_opstream.proofs.Promised.{answered, judged_alike}
use Rattle.nf_opstream.proofs.flat_map.FlatMapState.push.Goals as goal

pub returns : goal.returns
returns c = λ p fine. (let x = push_of c.args.port (plain_of c.args.item) (plain_of c.args.answer) in
    answered (λ v. v.items) flat_map_row flat_map_law p fine x c.judge.result (judged_alike (λ v. v.items) c.in_ok-emits.ensures c.judge.result c.judge.ensures))
