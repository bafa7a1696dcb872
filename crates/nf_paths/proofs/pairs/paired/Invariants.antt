use Rattle.std.proofs.Common.{◌≡◌, ◌++◌, map}
use Rattle.nf_value.specs.View.{plain_of}
use Rattle.nf_paths.specs.Groups.{pairs_in}
use Rattle.nf_paths.proofs.pairs.paired.Given as goal

abbrev pub invariant-loop-key : goal.invariant-loop-key
invariant-loop-key l = map plain_of l.pairs.items ++ pairs_in l.key-iterator ≡ pairs_in l.groups.entries
