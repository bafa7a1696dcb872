use Rattle.std.specs.Prelude.{map}
use Rattle.nf_value.specs.View.{plain_of}
use Rattle.nf_builtins.specs.Natives.{is_among}
use Rattle.nf_eval.specs.Latest.{names_of}
use Rattle.nf_eval.proofs.Known.{told, not_among, among}
use Rattle.nf_eval.proofs.environment.Env.has_name.Goals as goal

pub returns : goal.returns
returns c titles answer =
    let n = c.args.name.now in
    let bs = names_of c.args.self.now.names in
    told c.value.result _ _ c.is_some.result (is_among n (map (λ b. b.0) bs)) c.value.ensures c.is_some.ensures (not_among n bs) (λ v. among n bs (plain_of v.now))
