use Rattle.std.proofs.Common.{arith}
use Rattle.nf_opclose.proofs.Reductions.{has_room}
use Rattle.nf_opclose.proofs.laws.room.Goals as goal

pub returns : goal.returns
returns c = record {
  count = λ p s after few. omega (arith, after.count);
  sum = λ p s after few. omega (arith, after.count);
  reduce = has_room;
}
