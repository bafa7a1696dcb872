use Rattle.std.proofs.Common.{refl}
use Rattle.nf_taken.proofs.Things.{a_literal}
use Rattle.nf_taken.proofs.taken.Taken.and_literal.Goals as goal

pub returns : goal.returns
returns c = record {
  taken = λ n bags t is. a_literal n bags c.args.self t is c.args.value;
  keeps = λ r. record { ports = refl; closing = λ h. h };
}
