use Rattle.std.proofs.Common.{take}
use Rattle.nf_kinds.proofs.NamesLeft.{HasAll}
use Rattle.nf_kinds.proofs.half_bound.HalfBound.of.Given as goal

abbrev pub invariant-loop-name : goal.invariant-loop-name
invariant-loop-name l = HasAll l.left (take l.name-index l.name-items)
