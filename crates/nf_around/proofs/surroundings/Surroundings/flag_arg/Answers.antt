use Rattle.std.proofs.Common.{◌≡◌, Err, rules}
use Rattle.nf_ast.specs.View.{view}
use Rattle.nf_around.proofs.Judged.{flag_wrong, flag_right}
use Rattle.nf_around.proofs.surroundings.Surroundings.flag_arg.Goals as goal

pub returns-in_err-value : goal.returns-in_err-value
returns-in_err-value g c a s x h is =
    let err : c.from_residual.result ≡ Err c.in_err-value.field-0.0 = search rules in
    rw err (flag_wrong c.args.place (view c.args.expr.now) x is a s c.in_err-value.field-0.0 (c.in_err-value.ensures a s h))

pub returns : goal.returns
returns g c a s x h is = flag_right c.args.place (view c.args.expr.now) x is a s c.in_ok-value.value c.flag_in.result (c.in_ok-value.ensures a s h) (c.flag_in.ensures a s)
