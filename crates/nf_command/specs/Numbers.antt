-- Numbers among words.
use Rattle.std.specs.Prelude.{ℕ, ℤ, pos, neg_ℤ, ◌^◌, ◌==◌, ◌&&◌, Bool, not, nat_lt, nat_le, length, drop, List, slice_index, Option, Some, None, if◌then◌else◌}
use Rattle.std.specs.Str.{all_ascii_digits}
use Rattle.std.specs.Str.Parse.{digits_value}

-- one digit or more, and nothing else; leading zeros are allowed
abbrev pub is_decimal : List ℕ → Bool
is_decimal ds = not (length ds == 0) && all_ascii_digits ds

-- the number that a decimal is, if it is from `low` to `high`
abbrev pub number_within : ℕ → ℕ → List ℕ → Option ℕ
number_within low high w = if is_decimal w && (nat_le low (digits_value 10 w) && nat_le (digits_value 10 w) high) then Some (digits_value 10 w) else None

-- the number of 64 signed bits that a word is: a decimal, or a decimal after `-`
abbrev pub integer_in : List ℕ → Option ℤ
integer_in w =
    if slice_index w 0 == 45 then
    (if is_decimal (drop 1 w) && nat_le (digits_value 10 (drop 1 w)) (2 ^ 63) then Some (neg_ℤ (pos (digits_value 10 (drop 1 w)))) else None)
    else
    (if is_decimal w && nat_lt (digits_value 10 w) (2 ^ 63) then Some (pos (digits_value 10 w)) else None)
