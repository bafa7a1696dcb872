use Rattle.std.proofs.Common.{◌≡◌, ◌++◌, ◌-◌, string_bytes, codes, decimal}
use Rattle.std.specs.Prelude.{flat_map}
use Rattle.nf_gen.specs.Script.{items}
use Rattle.nf_gen.proofs.items.push_more.Given as goal

abbrev pub invariant-loop-done : goal.invariant-loop-done
invariant-loop-done l = string_bytes l.out ++ flat_map (λ i. codes ", " ++ decimal i) (items (l.n - l.done) l.last) ≡ string_bytes l.initial.out ++ flat_map (λ i. codes ", " ++ decimal i) (items l.n l.fn.number)
