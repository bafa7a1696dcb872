use Rattle.std.proofs.Common.{◌≡◌, drop}
use Rattle.nf_callees.specs.Found.{defined_in}
use Rattle.nf_known.specs.Judged.{is_ready}
use Rattle.nf_known.proofs.uses.TopNames.is_ready.Given as goal

abbrev pub invariant-loop-one : goal.invariant-loop-one
invariant-loop-one g l = is_ready (defined_in l.self.definitions) l.judged.entries l.uses ≡ is_ready (defined_in l.self.definitions) l.judged.entries (drop l.one-index l.uses)
