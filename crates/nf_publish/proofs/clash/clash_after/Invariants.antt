use Rattle.std.proofs.Common.{◌≡◌, drop, map}
use Rattle.nf_value.specs.View.{plain_of}
use Rattle.nf_publish.specs.Clashes.{clash_after}
use Rattle.nf_publish.proofs.clash.clash_after.Given as goal

abbrev pub invariant-loop-value : goal.invariant-loop-value
invariant-loop-value l =
    clash_after l.before.name l.before.digest (map plain_of (drop l.value-index l.others)) ≡ clash_after l.first.name l.first.digest (map plain_of l.others)
