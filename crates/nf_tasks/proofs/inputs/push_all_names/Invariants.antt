use Rattle.std.proofs.Common.{◌≡◌, ◌++◌, drop}
use Rattle.nf_tasks.specs.Inputs.{parts_names}
use Rattle.nf_tasks.proofs.inputs.push_all_names.Given as goal

abbrev pub invariant-loop-part : goal.invariant-loop-part
invariant-loop-part l = l.names.items ++ parts_names (drop l.part-index l.parts) ≡ l.initial.names.items ++ parts_names l.parts
