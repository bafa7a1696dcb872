use Rattle.std.proofs.Common.{◌≡◌, drop}
use Rattle.nf_known.specs.Judged.{calls_in}
use Rattle.nf_known.proofs.judged.called_fault.Given as goal

abbrev pub invariant-loop-one : goal.invariant-loop-one
invariant-loop-one l = calls_in l.judged.entries l.uses ≡ calls_in l.judged.entries (drop l.one-index l.uses)
