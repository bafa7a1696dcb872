use Rattle.std.proofs.Common.{◌≡◌, drop}
use Rattle.nf_opkinds.specs.Closures.{first_closure}
use Rattle.nf_opkinds.proofs.closures.labels.Given as goal

abbrev pub invariant-loop-given : goal.invariant-loop-given
invariant-loop-given l = first_closure (drop l.given-index l.args) ≡ first_closure l.args
