use Rattle.std.proofs.Common.{◌≡◌, ◌++◌, map, drop}
use Rattle.nf_tasks.specs.Meaning.{options_in}
use Rattle.nf_tasks.specs.Memory.{output_of, Program}
use Rattle.nf_tasks.proofs.failure.options_in.Given as goal

abbrev pub invariant-loop-output : goal.invariant-loop-output
invariant-loop-output l = (n : Program) → l.options.items ++ options_in (map (output_of n) (drop l.output-index l.outputs)) ≡ options_in (map (output_of n) l.outputs)
