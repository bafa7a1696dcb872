use Rattle.std.proofs.Common.{◌≡◌, map, drop}
use Rattle.nf_tasks.specs.Memory.{part_of, Program}
use Rattle.nf_tasks.specs.Emission.{left_after}
use Rattle.nf_tasks.proofs.emission.left_after.Given as goal

abbrev pub invariant-loop-part : goal.invariant-loop-part
invariant-loop-part l = (n : Program) → left_after (map (part_of n) (drop l.part-index l.parts)) l.left ≡ left_after (map (part_of n) l.parts) l.initial.left
