use Rattle.std.proofs.Common.{◌≡◌}
use Rattle.nf_value.proofs.Loops.{rest, rest_p}
use Rattle.nf_value.proofs.order.+order.Given as goal

abbrev pub invariant-compare_all-loop-i : goal.invariant-compare_all-loop-i
invariant-compare_all-loop-i l =
    rest l.a-inside.items.items l.b-inside.items.items l.i ≡ rest l.a-inside.items.items l.b-inside.items.items 0

abbrev pub invariant-compare_pairs-loop-i : goal.invariant-compare_pairs-loop-i
invariant-compare_pairs-loop-i l =
    rest_p l.a-inside.items.items l.b-inside.items.items l.i ≡ rest_p l.a-inside.items.items l.b-inside.items.items 0
