use Rattle.std.proofs.Common.{refl}
use Rattle.nf_flow.proofs.Calling.{named_fault}
use Rattle.nf_flow.proofs.parts.named.Goals as goal

pub returns-in_default : goal.returns-in_default
returns-in_default c = (refl, named_fault c.args.fault c.in_default.not-Mem)
