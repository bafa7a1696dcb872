use Rattle.std.proofs.Common.{◌≡◌, ◌-◌, ◌≤◌}
use Rattle.nf_value.proofs.Rising.{rising_from}
use Rattle.nf_value.proofs.map.is_rising.Given as goal

abbrev pub invariant-loop-i : goal.invariant-loop-i
invariant-loop-i l = (rising_from l.items 0 ≡ rising_from l.items (l.i - 1)) × (1 ≤ l.i)
