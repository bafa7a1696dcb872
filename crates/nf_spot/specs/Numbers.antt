-- What a set of numbers holds.
use Rattle.std.specs.Prelude.{ℕ, Bool, nat_lt, ◌&&◌, length, slice_index}
use Rattle.nf_spot.specs.declared.numbers.NumberSet.{NumberSet}

abbrev pub limit_of : NumberSet → ℕ
limit_of s = length s.order.items

-- whether the set has the number
abbrev pub has : NumberSet → ℕ → Bool
has s x = nat_lt x (limit_of s) && nat_lt (slice_index s.places.items x) s.count
