use Rattle.std.proofs.Common.{◌≡◌, Err, refl, rules}
use Rattle.nf_taken.proofs.Options.{option_fails, option_read}
use Rattle.nf_taken.proofs.body.Body.take_option.Goals as goal

pub returns-in_err-opts : goal.returns-in_err-opts
returns-in_err-opts g c =
    let e = c.in_err-opts.field-0.0 in
    let err : c.from_residual.result ≡ Err e = search rules in
    rw err (record {
      takes = λ x tree a s bags t here is. option_fails c.args.row (c.args.place, c.args.name.now) x a s bags c.args.taken t is e (c.in_err-opts.ensures a s x here tree);
      keeps = λ r. tt;
    })

pub returns : goal.returns
returns g c = record {
  takes = λ x tree a s bags t here is. option_read c.args.row (c.args.place, c.args.name.now) x a s bags c.args.taken t is c.in_ok-opts.opts (c.in_ok-opts.ensures a s x here tree);
  keeps = λ r. record { ports = refl; closing = λ k. k };
}
