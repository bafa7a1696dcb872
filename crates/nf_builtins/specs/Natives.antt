-- Functions that a program adds to a script's language.
use Rattle.std.specs.Prelude.{◌≡◌, ℕ, zero, suc, ℤ, pos, negsuc, int_lt, nat_le, ◌-◌, Bool, true, ◌&&◌, not, List, [], ◌∷◌, ◌++◌, length, map, replicate, codes, decimal, option_and_then, if◌then◌else◌, Result, Ok, Err, Option, Some, None}
use Rattle.std.specs.List.{list_any, list_all}
use Rattle.std.specs.Str.{bytes_eq}
use Rattle.nf_value.specs.Plain.{Plain, null, truth, int, text, file, list, table}
use Rattle.nf_value.specs.View.{plain_of}
use Rattle.nf_value.specs.declared.value.Value.{Value}
use Rattle.nf_value.specs.declared.fault.EvalKind.TheVariants.{Native}
use Rattle.nf_texts.specs.declared.fault.CallFault.{CallFault}
use Rattle.nf_texts.specs.declared.fault.CallFault.TheVariants as fault
use Rattle.nf_builtins.specs.Method.{method_name}
use Rattle.nf_builtins.specs.Call.{builtin_rows}

-- the value where there is one, and else the fault Native; want of memory is free
abbrev pub AnswersNative : Option Plain → Result Value CallFault → Type 0
AnswersNative o (Ok v) = o ≡ Some (plain_of v)
AnswersNative o (Err (fault.Kind k)) = (k ≡ Native) × (o ≡ None)
AnswersNative o (Err fault.Mem) = Unit {0}

abbrev pub keywords : List (List ℕ)
keywords = codes "def" ∷ codes "else" ∷ codes "false" ∷ codes "if" ∷ codes "in" ∷ codes "null" ∷ codes "return" ∷ codes "true" ∷ []

abbrev pub is_among : List ℕ → List (List ℕ) → Bool
is_among n names = list_any (λ m. bytes_eq m n) names

-- neither a keyword nor the name of a method
abbrev pub is_free_name : List ℕ → Bool
is_free_name n = not (is_among n keywords) && not (is_among n (map (λ b. method_name b.method) builtin_rows))

abbrev pub are_distinct : List (List ℕ) → Bool
are_distinct [] = true
are_distinct (n ∷ ns) = not (is_among n ns) && are_distinct ns

-- names that a program's functions may have
abbrev pub are_native_names : List (List ℕ) → Bool
are_native_names ns = are_distinct ns && list_all is_free_name ns

abbrev pub whole : Plain → Option ℤ
whole (int n) = Some n
whole null = None
whole (truth b) = None
whole (text t) = None
whole (file n d l) = None
whole (list vs) = None
whole (table ps) = None

-- the nearest number from lo to hi
abbrev pub clamped : ℤ → ℤ → ℤ → Option ℤ
clamped x lo hi = if int_lt hi lo then None else Some (if int_lt x lo then lo else if int_lt hi x then hi else x)

abbrev pub whole_three : Plain → Plain → Plain → Option ℤ
whole_three a b c = option_and_then (λ x. option_and_then (λ lo. option_and_then (λ hi. clamped x lo hi) (whole c)) (whole b)) (whole a)

-- `clamp(x, lo, hi)`
abbrev pub clamp_of : List Plain → Option ℤ
clamp_of [] = None
clamp_of (a ∷ []) = None
clamp_of (a ∷ b ∷ []) = None
clamp_of (a ∷ b ∷ c ∷ []) = whole_three a b c
clamp_of (a ∷ b ∷ c ∷ d ∷ more) = None

-- decimal digits, filled with zeros on the left
abbrev pub zero_padded : ℕ → ℕ → List ℕ
zero_padded n width = replicate (width - length (decimal n)) 48 ++ decimal n

-- a number that isn't negative, and a width from 0 to 64
abbrev pub pad_numbers : ℤ → ℤ → Option (ℕ × ℕ)
pad_numbers (pos n) (pos width) = if nat_le width 64 then Some (n, width) else None
pad_numbers (pos n) (negsuc w) = None
pad_numbers (negsuc n) (pos w) = None
pad_numbers (negsuc n) (negsuc w) = None

abbrev pub whole_two : Plain → Plain → Option (ℕ × ℕ)
whole_two a b = option_and_then (λ x. option_and_then (λ width. pad_numbers x width) (whole b)) (whole a)

-- the numbers of `zeroPad(x, width)`
abbrev pub pad_of : List Plain → Option (ℕ × ℕ)
pad_of [] = None
pad_of (a ∷ []) = None
pad_of (a ∷ b ∷ []) = whole_two a b
pad_of (a ∷ b ∷ c ∷ more) = None

abbrev pub clamp_answer : Option ℤ → Option Plain
clamp_answer None = None
clamp_answer (Some n) = Some (int n)

abbrev pub pad_answer : Option (ℕ × ℕ) → Option Plain
pad_answer None = None
pad_answer (Some p) = Some (text (zero_padded p.0 p.1))

-- the names of the program's own functions, and what each answers
abbrev pub program_names : List (List ℕ)
program_names = codes "clamp" ∷ codes "zeroPad" ∷ []

abbrev pub program_answer : ℕ → List Plain → Option Plain
program_answer zero args = clamp_answer (clamp_of args)
program_answer (suc zero) args = pad_answer (pad_of args)
program_answer (suc (suc n)) args = None
