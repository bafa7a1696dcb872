use Rattle.std.proofs.Common.{◌≡◌, map, drop}
use Rattle.nf_value.specs.View.{plain_of}
use Rattle.nf_tasks.specs.Taking.{bound_in}
use Rattle.nf_tasks.specs.Inputs.{bound_by}
use Rattle.nf_tasks.proofs.Takings.{joined}
use Rattle.nf_tasks.proofs.inputs.bound_by.Given as goal

abbrev pub invariant-loop-i : goal.invariant-loop-i
invariant-loop-i l = joined (bound_in l.taking) (bound_by (drop l.i l.inputs) (map plain_of (drop l.i l.items))) ≡ bound_by l.inputs (map plain_of l.items)
