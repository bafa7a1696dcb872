use Rattle.std.proofs.Common.{sym, arith}
use Rattle.nf_slips.proofs.Bodies.{other_params}
use Rattle.nf_slips.proofs.forms.are_params.Goals as goal

pub returns-in_default : goal.returns-in_default
returns-in_default c = sym (other_params c.args.names.now c.args.m.now c.args.n.now (λ h. omega arith))

pub returns-in_default-2 : goal.returns-in_default-2
returns-in_default-2 c = sym (other_params c.args.names.now c.args.m.now c.args.n.now (λ h. omega arith))
