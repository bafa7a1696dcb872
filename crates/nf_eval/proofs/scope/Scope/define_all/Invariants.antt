use Rattle.std.proofs.Common.{◌≡◌, ◌++◌, map}
use mathlib.Core.List.{reverse}
use Rattle.nf_value.specs.View.{pair_of}
use Rattle.nf_eval.specs.Latest.{names_of}
use Rattle.nf_eval.proofs.scope.Scope.define_all.Given as goal

abbrev pub invariant-loop-name : goal.invariant-loop-name
invariant-loop-name l = reverse (map pair_of l.name-iterator.rest.items) ++ names_of l.self ≡ reverse (map pair_of l.fn.names.items) ++ names_of l.initial.self
