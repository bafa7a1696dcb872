use Rattle.std.proofs.Common.{◌≡◌, map, drop}
use Rattle.std.specs.List.{position_from}
use Rattle.nf_value.specs.View.{plain_of}
use Rattle.nf_builtins.specs.Lists.{is_same}
use Rattle.nf_builtins.proofs.items.place_in.Given as goal

abbrev pub invariant-loop-i : goal.invariant-loop-i
invariant-loop-i l = position_from (λ w. is_same w (plain_of l.item)) 0 (map plain_of l.items) ≡ position_from (λ w. is_same w (plain_of l.item)) l.i (map plain_of (drop l.i l.items))
