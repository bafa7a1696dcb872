use Rattle.std.proofs.Common.{◌≡◌, drop}
use Rattle.nf_opkinds.specs.Closures.{has_option}
use Rattle.nf_opkinds.proofs.closures.has_option.Given as goal

abbrev pub invariant-loop-given : goal.invariant-loop-given
invariant-loop-given l = has_option l.name (drop l.given-index l.args) ≡ has_option l.name l.args
