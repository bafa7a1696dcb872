use Rattle.std.proofs.Common.{refl, rules}
use Rattle.nf_taken.proofs.Calling.{call_of}
use Rattle.nf_taken.proofs.taken.Taken.into_call.Goals as goal

pub returns : goal.returns
returns c =
    call_of c.args.self c.args.place c.args.operator c.args.first _ c.in_ok-outs.outs refl refl (search rules) (search rules) c.in_ok-outs.ensures.few (search rules) c.body_of-body.ensures.body c.body_of-body.ensures.answers
