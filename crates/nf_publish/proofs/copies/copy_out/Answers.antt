use Rattle.std.proofs.Common.{◌≡◌, Err, refl, sym, subst, ◌∙◌, rules, arith}
use Rattle.std.specs.Prelude.{IfErr, Result}
use Rattle.nf_host.proofs.Copying.{both_same}
use Rattle.nf_publish.specs.Copies.{IsTrueOf, KeepsRest}
use Rattle.nf_publish.specs.declared.fault.CopyRefusal.{CopyRefusal}
use Rattle.nf_publish.proofs.Copied.{all_copied, damage_among, left_first, left_next, rest_kept}
use Rattle.nf_publish.proofs.copies.copy_out.Goals as goal

pub loop-target-init : goal.loop-target-init
loop-target-init g c =
    let told = g.H.Host.files c.args.host.now in record {
      later = omega arith;
      no_start = refl;
      others = both_same told told (KeepsRest c.args.targets.now) (λ f path none. refl) refl;
      left = left_first told c.args.targets.now;
    }

pub returns-in_err-copy_one-clause-others : goal.returns-in_err-copy_one-clause-others
returns-in_err-copy_one-clause-others g c =
    rest_kept (g.H.Host.files c.args.host.now) (g.H.Host.files c.loop-target.host) (g.H.Host.files c.copy_one.new.host) c.args.targets.now c.loop-target.target-index c.target-item.result c.loop-target-test.true c.target-item.is c.loop-target.invariant.others c.copy_one.ensures.others

pub loop-target-preserved : goal.loop-target-preserved
loop-target-preserved g c =
    let told = g.H.Host.files c.args.host.now in
    let now = g.H.Host.files c.loop-target.host in
    let next = g.H.Host.files c.copy_one.new.host in
    let targets = c.args.targets.now in record {
      later = omega (arith, c.loop-target.invariant.later, c.copy_one.ensures.later);
      no_start = c.copy_one.ensures.no_start ∙ c.loop-target.invariant.no_start;
      others = rest_kept told now next targets c.loop-target.target-index c.target-item.result c.loop-target-test.true c.target-item.is c.loop-target.invariant.others c.copy_one.ensures.others;
      left = left_next now next targets c.loop-target.target-index c.target-item.result c.loop-target-test.true c.target-item.is c.loop-target.invariant.left c.copy_one.ensures.others c.in_ok-copy_one.ensures.copied;
    }

pub returns-in_err-copy_one-clause-refused : goal.returns-in_err-copy_one-clause-refused
returns-in_err-copy_one-clause-refused g c =
    let now = g.H.Host.files c.copy_one.new.host in
    let targets = c.args.targets.now in
    let is : c.from_residual.result ≡ Err c.in_err-copy_one.field-0.0 = search rules in
    subst (λ (r : Result (Unit {0}) CopyRefusal). IfErr r (IsTrueOf c.args.work.now targets now)) (sym is)
    (damage_among now c.args.work.now targets c.loop-target.target-index c.target-item.result c.in_err-copy_one.field-0.0 c.loop-target-test.true c.target-item.is c.in_err-copy_one.ensures.refused)

pub returns-clause-copied : goal.returns-clause-copied
returns-clause-copied g c =
    all_copied (g.H.Host.files c.loop-target.host) c.args.targets.now c.loop-target.target-index c.loop-target-test.false c.loop-target.invariant.left
