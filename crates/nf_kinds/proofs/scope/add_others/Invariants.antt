use Rattle.std.proofs.Common.{◌≡◌, ◌++◌, drop}
use Rattle.nf_kinds.specs.Scope.{others}
use Rattle.nf_kinds.proofs.scope.add_others.Given as goal

abbrev pub invariant-loop-name : goal.invariant-loop-name
invariant-loop-name l = l.out.items ++ others (drop l.name-index l.names) l.others ≡ l.initial.out.items ++ others l.names l.others
