use Rattle.std.proofs.Common.{refl}
use Rattle.nf_value.specs.View.{plain_of}
use Rattle.nf_taken.proofs.Things.{a_start}
use Rattle.nf_taken.proofs.taken.Taken.and_start.Goals as goal

pub returns : goal.returns
returns c = record {
  taken = λ n bags t is. a_start n bags c.args.self t is c.args.value (plain_of c.args.value) refl;
  keeps = λ r. record { ports = refl; closing = λ h. h };
}
