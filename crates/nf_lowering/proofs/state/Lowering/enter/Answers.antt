use Rattle.std.proofs.Common.{refl}
use Rattle.nf_lowering.proofs.Naming.{less_keeps, enter_stands}
use Rattle.nf_lowering.proofs.state.Lowering.enter.Goals as goal

pub returns : goal.returns
returns c = record {
  keeps = less_keeps c.args.self.now c.enter.new.self c.requires c.in_ok-enter.ensures.holds;
  walk = enter_stands c.args.self.now c.enter.new.self c.in_ok-enter.ensures.stands;
  plan = refl;
  within = refl;
  calls = refl;
}
