-- The order of the pairs of a map: by key, then by value.
use Rattle.std.specs.Prelude.{ℕ, List}
use Rattle.std.specs.declared.cmp.Ordering.{Ordering}
use Rattle.std.specs.Ordering.{nat_cmp, ordering_then}
use Rattle.std.specs.Cmp.Lexicographic.{slice_cmp}
use Rattle.nf_value.specs.View.{plain_of}
use Rattle.nf_value.specs.Order.{value_cmp}
use Rattle.nf_value.specs.declared.value.Value.{Value}

abbrev pub pair_cmp : (List ℕ × Value) → (List ℕ × Value) → Ordering
pair_cmp a b = ordering_then (slice_cmp nat_cmp a.0 b.0) (value_cmp (plain_of a.1) (plain_of b.1))
