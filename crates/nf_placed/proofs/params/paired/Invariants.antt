use Rattle.std.proofs.Common.{◌≡◌, ◌++◌, drop, map}
use Rattle.nf_value.specs.View.{plain_of, pair_of}
use Rattle.nf_ast.specs.View.{names}
use Rattle.nf_placed.specs.Body.{names_in, paired}
use Rattle.nf_placed.proofs.params.paired.Given as goal

abbrev pub invariant-loop-i : goal.invariant-loop-i
invariant-loop-i l = map pair_of l.pairs.items ++ paired (names_in (names (drop l.i l.names))) (map plain_of (drop l.i l.args)) ≡ paired (names_in (names l.names)) (map plain_of l.args)
