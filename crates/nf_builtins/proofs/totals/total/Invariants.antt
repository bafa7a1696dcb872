use Rattle.std.proofs.Common.{◌≡◌, ◌*◌, ◌^◌, map, drop, pos, neg_ℤ, ◌≤ℤ◌, ◌+ℤ◌, Ok}
use Rattle.nf_value.specs.View.{plain_of}
use Rattle.nf_texts.specs.Outcome.{◌>>=◌}
use Rattle.nf_builtins.specs.Lists.{total_of}
use Rattle.nf_builtins.proofs.totals.total.Given as goal

abbrev pub invariant-loop-item : goal.invariant-loop-item
invariant-loop-item l = record {
  low : neg_ℤ (pos (2 ^ 63 * l.item-index)) ≤ℤ l.total;
  high : l.total ≤ℤ pos (2 ^ 63 * l.item-index);
  same : total_of (map plain_of l.items) ≡ (total_of (map plain_of (drop l.item-index l.items)) >>= λ m. Ok (l.total +ℤ m));
}
