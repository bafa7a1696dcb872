use Rattle.std.proofs.Common.{◌≡◌, ◌++◌, drop}
use Rattle.nf_opkinds.specs.Results.{outputs_from}
use Rattle.nf_opkinds.proofs.results.shape_of.Given as goal

abbrev pub invariant-loop-place : goal.invariant-loop-place
invariant-loop-place l = l.keyed.items ++ outputs_from l.place (drop l.place l.outputs) ≡ outputs_from 0 l.outputs
