use Rattle.std.proofs.Common.{arith}
use Rattle.std.proofs.lemmas.Int.{ints}
use Rattle.nf_codec.proofs.Numbers.{negative_found}
use Rattle.nf_codec.proofs.number.negative_at.Goals as goal

pub returns : goal.returns
returns c = (
  negative_found c.args.bytes.now c.in_ok-count.count c.in_ok-value.value _ c.in_ok-count.ensures.0 c.in_ok-value.ensures (omega arith) c.if-value.false (omega (arith, ints)),
  omega (arith, c.in_ok-count.ensures.2),
)
