use Rattle.std.proofs.Common.{◌≤◌}
use Rattle.nf_tops.proofs.Tops.{CountsAll}
use Rattle.nf_tops.proofs.entry.named_workflows.Given as goal

abbrev pub invariant-loop-top : goal.invariant-loop-top
invariant-loop-top l = record {
  counts : CountsAll l.tops l.top-index l.count;
  within : l.count ≤ l.top-index;
}
