use Rattle.std.proofs.Common.{◌≡◌, map, drop}
use Rattle.nf_tasks.specs.Memory.{part_of, Program}
use Rattle.nf_tasks.specs.Emission.{all_there}
use Rattle.nf_tasks.proofs.emission.all_there.Given as goal

abbrev pub invariant-loop-part : goal.invariant-loop-part
invariant-loop-part l = (n : Program) → all_there (map (part_of n) (drop l.part-index l.parts)) l.left ≡ all_there (map (part_of n) l.parts) l.initial.left
