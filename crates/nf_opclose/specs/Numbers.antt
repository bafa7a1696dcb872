-- Totals of numbers.
use Rattle.std.specs.Prelude.{ℕ, ◌^◌, nat_lt, ℤ, pos, negsuc, ◌+ℤ◌, List, [], ◌∷◌, Bool, true, false, cond, Result, Ok, Err}
use Rattle.std.specs.List.{list_all}
use Rattle.nf_value.specs.Plain.{Plain, null, truth, int, text, file, list, table}
use Rattle.nf_opstream.specs.Push.{Push}
use Rattle.nf_opstream.specs.Fault.{Fault, not_a_number, overflow}
use Rattle.nf_opclose.specs.Closing.{single}

abbrev pub is_number : Plain → Bool
is_number (int i) = true
is_number null = false
is_number (truth b) = false
is_number (text t) = false
is_number (file n d l) = false
is_number (list vs) = false
is_number (table ps) = false

-- the number; 0 if the value is none
abbrev pub number_of : Plain → ℤ
number_of (int i) = i
number_of null = pos 0
number_of (truth b) = pos 0
number_of (text t) = pos 0
number_of (file n d l) = pos 0
number_of (list vs) = pos 0
number_of (table ps) = pos 0

abbrev pub total_of : List Plain → ℤ
total_of [] = pos 0
total_of (v ∷ vs) = total_of vs +ℤ number_of v

-- whether it fits 64 signed bits
abbrev pub fits : ℤ → Bool
fits (pos n) = nat_lt n (2 ^ 63)
fits (negsuc n) = nat_lt n (2 ^ 63)

-- an item that is no number is a fault
abbrev pub numeric : Push → Result (List (ℕ × Plain)) Fault
numeric x = cond (is_number x.item) (Ok []) (Err (not_a_number x.item))

-- the total, or a fault if it doesn't fit 64 signed bits
abbrev pub total_due : ℤ → Result (List (ℕ × Plain)) Fault
total_due t = cond (fits t) (single (int t)) (Err (overflow t))

-- what is due if all these are numbers; otherwise nothing, since the item that is none is the fault
abbrev pub of_numbers : List Plain → Result (List (ℕ × Plain)) Fault → Result (List (ℕ × Plain)) Fault
of_numbers vs due = cond (list_all is_number vs) due (Ok [])
