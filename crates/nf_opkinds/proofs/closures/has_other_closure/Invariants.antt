use Rattle.std.proofs.Common.{◌≡◌, drop}
use Rattle.nf_opkinds.specs.Closures.{has_other_closure}
use Rattle.nf_opkinds.proofs.closures.has_other_closure.Given as goal

abbrev pub invariant-loop-given : goal.invariant-loop-given
invariant-loop-given l = has_other_closure (drop l.given-index l.args) ≡ has_other_closure l.args
