use Rattle.std.proofs.Common.{◌≡◌, ◌++◌, drop}
use Rattle.nf_callees.specs.Found.{defined_in}
use Rattle.nf_library.specs.Stages.{defined_by}
use Rattle.nf_library.proofs.order.functions_in.Given as goal

abbrev pub invariant-loop-top : goal.invariant-loop-top
invariant-loop-top l = defined_by l.all.items ++ (defined_in (drop l.top-index l.tops)).functions ≡ (defined_in l.tops).functions
