use Rattle.std.proofs.Common.{◌≡◌, drop}
use Rattle.std.specs.List.{list_any}
use Rattle.nf_called.proofs.Labels.{has}
use Rattle.nf_called.proofs.options.is_emitted.Given as goal

abbrev pub invariant-loop-output : goal.invariant-loop-output
invariant-loop-output l = list_any (has l.name) (drop l.output-index l.outputs) ≡ list_any (has l.name) l.outputs
