use Rattle.std.proofs.Common.{◌≡◌, Err, rules}
use Rattle.nf_ast.specs.View.{view}
use Rattle.nf_taken.proofs.Options.{option_right, option_wrong}
use Rattle.nf_taken.proofs.body.Body.option.Goals as goal

pub returns-in_err-value : goal.returns-in_err-value
returns-in_err-value g c =
    let e = c.in_err-value.field-0.0 in
    let err : c.from_residual.result ≡ Err e = search rules in
    rw err (λ a s x here tree. option_wrong c.args.row c.args.place c.args.name.now x c.args.opts a s (view c.args.value.now) e (search rules) tree (c.in_err-value.ensures a s here))

pub returns : goal.returns
returns g c =
    λ a s x here tree.
    option_right c.args.row c.args.place c.args.name.now x c.args.opts a s (view c.args.value.now) c.in_ok-value.value c.with_option.result (search rules) tree (c.in_ok-value.ensures a s here) (c.with_option.ensures a s)
