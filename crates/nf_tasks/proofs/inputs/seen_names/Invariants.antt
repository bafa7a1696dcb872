use Rattle.std.proofs.Common.{◌≡◌, ◌++◌, drop}
use Rattle.nf_tasks.specs.Inputs.{names_of}
use Rattle.nf_tasks.proofs.inputs.seen_names.Given as goal

abbrev pub invariant-loop-input : goal.invariant-loop-input
invariant-loop-input l = l.names.items ++ names_of (drop l.input-index l.inputs) ≡ names_of l.inputs
