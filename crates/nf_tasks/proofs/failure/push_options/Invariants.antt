use Rattle.std.proofs.Common.{◌≡◌, ◌++◌, map, drop}
use Rattle.nf_tasks.specs.Meaning.{parts_options}
use Rattle.nf_tasks.specs.Memory.{part_of, Program}
use Rattle.nf_tasks.proofs.failure.push_options.Given as goal

abbrev pub invariant-loop-part : goal.invariant-loop-part
invariant-loop-part l = (n : Program) → l.options.items ++ parts_options l.output.optional (map (part_of n) (drop l.part-index l.part-items)) ≡ l.initial.options.items ++ parts_options l.output.optional (map (part_of n) l.part-items)
