-- What inputs have taken so far, in memory.
use Rattle.std.specs.Prelude.{map}
use Rattle.nf_value.specs.View.{plain_of}
use Rattle.nf_tasks.specs.declared.inputs.Bound.{Bound}
use Rattle.nf_tasks.specs.declared.taking.Taking.{Taking}

abbrev pub bound_in : Taking → Bound
bound_in t = record { values = map plain_of t.values.items; stdin = t.stdin; staged = t.staged.items }
