use Rattle.std.proofs.Common.{◌≡◌, map, drop, ◌++◌}
use Rattle.std.specs.Prelude.{filter}
use Rattle.nf_value.specs.View.{plain_of}
use Rattle.nf_builtins.specs.Lists.{firsts_of}
use Rattle.nf_builtins.proofs.Values.{is_new}
use Rattle.nf_builtins.proofs.items.firsts_in.Given as goal

abbrev pub invariant-loop-item : goal.invariant-loop-item
invariant-loop-item l = map plain_of l.kept.items ++ filter (is_new (map plain_of l.kept.items)) (firsts_of (map plain_of (drop l.item-index l.items))) ≡ firsts_of (map plain_of l.items)
