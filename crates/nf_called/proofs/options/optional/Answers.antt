use Rattle.std.proofs.Common.{ap, refl}
use Rattle.nf_called.specs.Leaves.{leaf_optional, view_leaf}
use Rattle.nf_called.specs.Options.{options_of}
use Rattle.nf_called.proofs.options.optional.Goals as goal

pub returns : goal.returns
returns c = record {
  value = record (options_of c.args.so_far) { optional = c.in-Truth.optional };
  is = ap (λ l. leaf_optional c.args.place (view_leaf l) (options_of c.args.so_far)) c.in-Truth.is;
  fits = refl;
}
