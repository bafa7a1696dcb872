use Rattle.std.proofs.Common.{◌≡◌, drop, map}
use Rattle.nf_kinds.specs.Kinds.{alone}
use Rattle.nf_kinds.specs.Scope.{all_defined}
use Rattle.nf_kinds.proofs.scope.BodyScope.define_all.Given as goal

abbrev pub invariant-loop-name : goal.invariant-loop-name
invariant-loop-name l = all_defined (map (λ n. n.1) (drop l.name-index l.names)) (alone l.kinds) l.self ≡ all_defined (map (λ n. n.1) l.names) (alone l.kinds) l.initial.self
