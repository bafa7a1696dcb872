use Rattle.std.proofs.Common.{◌≡◌, drop}
use Rattle.nf_slips.specs.Closures.{has_unknown}
use Rattle.nf_slips.proofs.closures.has_unknown.Given as goal

abbrev pub invariant-loop-one : goal.invariant-loop-one
invariant-loop-one l = has_unknown l.unknown (drop l.one-index l.uses) l.scope ≡ has_unknown l.unknown l.uses l.scope
