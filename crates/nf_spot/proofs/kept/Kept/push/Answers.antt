use Rattle.std.proofs.Common.{subst}
use Rattle.nf_value.specs.View.{plain_of}
use Rattle.nf_opstream.specs.Push.{push_of}
use Rattle.nf_spot.specs.Spot.{IsKept}
use Rattle.nf_spot.proofs.Keeping.{pushed}
use Rattle.nf_spot.proofs.kept.Kept.push.Goals as goal

pub returns : goal.returns
returns c kind sp h is_open =
    pushed kind sp c.in-Operator.state c.push.new.self (push_of c.args.port (plain_of c.args.item) (plain_of c.args.answer)) c.push.result c.push.ensures.emits c.push.ensures.after (subst (IsKept kind sp) c.in-Operator.is h) is_open
