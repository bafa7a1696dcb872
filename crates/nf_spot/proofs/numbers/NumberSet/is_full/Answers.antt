use Rattle.std.proofs.Common.{◌≡◌, length, arith}
use Rattle.nf_spot.proofs.Order.{full_or_not}
use Rattle.nf_spot.proofs.numbers.NumberSet.is_full.Goals as goal

pub returns : goal.returns
returns c = let e : c.len.result ≡ length c.args.self.now.order.items = omega arith in rw e (full_or_not _ _ c.args.self.now.count c.args.self.now.ordered c.args.self.now.within)
