use Rattle.std.proofs.Common.{refl}
use Rattle.std.proofs.lemmas.Result.{err_from_is_err_and}
use Rattle.nf_lowering.specs.Steps.{defines}
use Rattle.nf_lowering.proofs.Naming.{also_keeps, define_walks}
use Rattle.nf_lowering.proofs.Planned.{extends_same, lost}
use Rattle.nf_lowering.proofs.state.Lowering.define.Goals as goal

pub returns : goal.returns
returns c = record {
  keeps = also_keeps c.args.self.now c.define.new.self c.args.thing c.requires.before c.requires.reads c.in_ok-define.ensures.holds;
  walk = λ braces. define_walks c.args.self.now c.define.new.self c.args.name.now c.args.thing braces c.in_ok-define.ensures.stands;
  plan = refl;
  within = refl;
  calls = refl;
}

pub returns-in_err-define-clause-walk : goal.returns-in_err-define-clause-walk
returns-in_err-define-clause-walk c braces =
    let old = c.args.self.now in
    let p = err_from_is_err_and c.from_residual.result c.from_residual.ensures.1 in
    lost (defines c.args.name.now c.args.thing) old _ braces c.from_residual.result p.0 p.1 p.2 (extends_same old.plan old.plan refl refl)
