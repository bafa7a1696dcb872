use Rattle.std.proofs.Common.{refl}
use Rattle.nf_lowering.proofs.Naming.{less_keeps, leave_stands}
use Rattle.nf_lowering.proofs.state.Lowering.leave.Goals as goal

pub returns : goal.returns
returns c = record {
  keeps = less_keeps c.args.self.now c.leave.new.self c.requires c.leave.ensures.holds;
  walk = leave_stands c.args.self.now c.leave.new.self c.leave.ensures.stands;
  plan = refl;
  within = refl;
  calls = refl;
}
