use Rattle.std.proofs.Common.{◌≡◌, map, drop}
use Rattle.std.specs.Prelude.{fold}
use Rattle.nf_value.specs.View.{plain_of}
use Rattle.nf_builtins.specs.Lists.{smaller_of}
use Rattle.nf_builtins.proofs.items.least_in.Given as goal

abbrev pub invariant-loop-item : goal.invariant-loop-item
invariant-loop-item l = fold smaller_of (plain_of l.most) (map plain_of (drop l.item-index l.others)) ≡ fold smaller_of (plain_of l.initial.most) (map plain_of l.others)
