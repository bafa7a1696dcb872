use Rattle.std.proofs.Common.{◌≡◌, ◌++◌, drop}
use Rattle.nf_kinds.specs.HalfBound.{names_left}
use Rattle.nf_kinds.proofs.half_bound.HalfBound.list.Given as goal

abbrev pub invariant-loop-name : goal.invariant-loop-name
invariant-loop-name l = l.out.items ++ names_left l.self-inside.left (drop l.name-index l.name-items) ≡ names_left l.self-inside.left l.name-items
