use Rattle.std.proofs.Common.{◌≡◌, rules}
use Rattle.nf_called.specs.Directives.{AreSettings}
use Rattle.nf_called.proofs.Settled.{named_step}
use Rattle.nf_called.proofs.directives.Settings.add.Goals as goal

pub returns : goal.returns
returns g c = λ m are.
    let x = g.F.Formulas.inside c.args.formulas.now in
    let n = g.F.Formulas.program c.args.formulas.now in
    let d = c.args.directive.now in
    let name : c.as_str-name.result.now ≡ d.name = search rules in
    let args : c.as_slice-args.result.now ≡ d.args.items = search rules in
    named_step x d.place m (λ _ y. AreSettings n c.add_named.new.self y) c.add_named.result _ _ _ _ name args (c.add_named.ensures m are)
