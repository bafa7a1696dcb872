use Rattle.std.proofs.Common.{subst}
use Rattle.nf_spot.specs.Spot.{IsKept}
use Rattle.nf_spot.proofs.Keeping.{closed}
use Rattle.nf_spot.proofs.kept.Kept.close.Goals as goal

pub returns-in-Operator : goal.returns-in-Operator
returns-in-Operator c kind sp h is_open = closed kind sp c.in-Operator.state c.close.new.self c.close.result c.close.ensures (subst (IsKept kind sp) c.in-Operator.is h) is_open
