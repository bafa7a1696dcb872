use Rattle.std.proofs.Common.{◌≡◌, Err, rules}
use Rattle.nf_taken.proofs.Sourcing.{must_fail, no_must}
use Rattle.nf_taken.proofs.body.Body.path_option.Goals as goal

pub returns-in_err-must : goal.returns-in_err-must
returns-in_err-must g c =
    let e = c.in_err-must.field-0.0 in
    let err : c.from_residual.result ≡ Err e = search rules in
    rw err (λ a s x here tree. must_fail c.args.place c.args.name.now x c.args.so_far a s (search rules) e (c.in_err-must.ensures a s x here tree))

pub returns : goal.returns
returns g c = λ a s x here tree. no_must c.args.place c.args.name.now x c.args.so_far a s (search rules)
