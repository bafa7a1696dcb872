-- The outcomes of the methods of numbers and of the functions of `Math`.
use Rattle.std.specs.Prelude.{ℕ, ℤ, pos, negsuc, neg_ℤ, int_le, int_lt, int_div, ◌^◌, ◌==◌, nat_lt, nat_le, Bool, ◌&&◌, not, length, drop, List, slice_index, if◌then◌else◌, Ok, Err, Option, Some, None, is_some}
use Rattle.std.specs.Str.{all_ascii_digits}
use Rattle.std.specs.Str.Parse.{digits_value}
use Rattle.nf_value.specs.Plain.{Plain, null, truth, int, text, file, list, table}
use Rattle.nf_value.specs.declared.fault.EvalKind.TheVariants.{Overflow, DivZero, NoMethod, NotNumber}
use Rattle.nf_texts.specs.Outcome.{Outcome, ◌>>=◌}
use Rattle.nf_texts.specs.Args.{int_or, no_args, int_arg, int_args, on_text}

-- the number, unless it leaves 64 signed bits
abbrev pub number : ℤ → Outcome
number n = if int_le (neg_ℤ (pos (2 ^ 63))) n && int_lt n (pos (2 ^ 63)) then Ok (int n) else Err Overflow

abbrev pub size_of : ℤ → ℤ
size_of (pos n) = pos n
size_of (negsuc n) = neg_ℤ (negsuc n)

abbrev pub greater : ℤ → ℤ → ℤ
greater a b = if int_lt a b then b else a

abbrev pub less : ℤ → ℤ → ℤ
less a b = if int_lt a b then a else b

-- the quotient toward zero
abbrev pub quotient : ℤ → ℤ → Outcome
quotient a b = if int_le b (pos 0) && int_le (pos 0) b then Err DivZero else number (int_div a b)

-- `Math.abs(x)`
abbrev pub math_abs : List Plain → Outcome
math_abs args = int_arg args >>= λ n. number (size_of n)

-- `Math.max(a, b)`
abbrev pub math_max : List Plain → Outcome
math_max args = int_args args >>= λ (a, b). Ok (int (greater a b))

-- `Math.min(a, b)`
abbrev pub math_min : List Plain → Outcome
math_min args = int_args args >>= λ (a, b). Ok (int (less a b))

-- `intdiv(n)`
abbrev pub intdiv : Plain → List Plain → Outcome
intdiv recv args = int_or NoMethod recv >>= λ a. int_arg args >>= λ b. quotient a b

-- at least one digit, and digits alone
abbrev pub are_digits : List ℕ → Bool
are_digits ds = not (length ds == 0) && all_ascii_digits ds

-- the number that a text is: digits after a minus sign or none, within 64 signed bits
abbrev pub integer_in : List ℕ → Option ℤ
integer_in t =
    if slice_index t 0 == 45 then
    (if are_digits (drop 1 t) && nat_le (digits_value 10 (drop 1 t)) (2 ^ 63) then Some (neg_ℤ (pos (digits_value 10 (drop 1 t)))) else None)
    else
    (if are_digits t && nat_lt (digits_value 10 t) (2 ^ 63) then Some (pos (digits_value 10 t)) else None)

-- `isInteger()`
abbrev pub is_integer : Plain → List Plain → Outcome
is_integer recv args = on_text recv >>= λ t. no_args args >>= λ _. Ok (truth (is_some (integer_in t)))

abbrev pub integer_or_fault : Option ℤ → Outcome
integer_or_fault (Some n) = Ok (int n)
integer_or_fault None = Err NotNumber

-- `toInteger()`
abbrev pub to_integer : Plain → List Plain → Outcome
to_integer (int n) args = no_args args >>= λ _. Ok (int n)
to_integer (text t) args = no_args args >>= λ _. integer_or_fault (integer_in t)
to_integer null args = Err NoMethod
to_integer (truth b) args = Err NoMethod
to_integer (file n d l) args = Err NoMethod
to_integer (list vs) args = Err NoMethod
to_integer (table ps) args = Err NoMethod
