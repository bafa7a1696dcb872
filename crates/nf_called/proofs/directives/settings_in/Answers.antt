use Rattle.std.proofs.Common.{◌≡◌, Err, refl, rules}
use Rattle.nf_ast.specs.Tops.{view_directive}
use Rattle.nf_meaning.specs.Directives.{directives_in, no_directives}
use Rattle.nf_called.specs.Directives.{directive_step}
use Rattle.nf_called.proofs.ByName.{directives_step}
use Rattle.nf_called.proofs.Turns.{state_turn, state_fault, state_end}
use Rattle.nf_called.proofs.directives.settings_in.Goals as goal

pub loop-directive-init : goal.loop-directive-init
loop-directive-init g c = (no_directives, record { cpus = refl; tag = refl; strategy = refl; retries = refl; publishes = search rules }, refl)

pub returns-in_err-add : goal.returns-in_err-add
returns-in_err-add g c =
    let x = g.F.Formulas.inside c.args.formulas.now in
    let inv = c.loop-directive.invariant in
    let e = c.in_err-add.field-0.0 in
    let err : c.from_residual.result ≡ Err e = search rules in
    rw err (state_fault view_directive (directives_in x) (directive_step x) (directives_step x) c.args.directives.now c.loop-directive.directive-index c.directive-item.result inv.0 _ e c.loop-directive-test.true c.directive-item.is inv.2 (c.in_err-add.ensures inv.0 inv.1))

pub loop-directive-preserved : goal.loop-directive-preserved
loop-directive-preserved g c =
    let x = g.F.Formulas.inside c.args.formulas.now in
    let inv = c.loop-directive.invariant in
    let v = c.in_ok-add.ensures inv.0 inv.1 in
    (v.value, v.fits, state_turn view_directive (directives_in x) (directive_step x) (directives_step x) c.args.directives.now c.loop-directive.directive-index c.directive-item.result inv.0 v.value _ c.loop-directive-test.true c.directive-item.is v.is inv.2)

pub returns : goal.returns
returns g c =
    let x = g.F.Formulas.inside c.args.formulas.now in
    let inv = c.loop-directive.invariant in
    record {
      value = inv.0;
      is = state_end view_directive (directives_in x) (λ s. refl) c.args.directives.now c.loop-directive.directive-index inv.0 _ c.loop-directive-test.false inv.2;
      fits = inv.1;
    }
