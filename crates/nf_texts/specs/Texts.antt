-- What the methods of texts give. Places and counts are in characters.
use Rattle.std.specs.Prelude.{ℕ, zero, suc, ℤ, pos, negsuc, nat_eq, nat_le, ◌+◌, ◌-◌, ◌==◌, Bool, List, [], ◌∷◌, ◌++◌, length, take, drop, reverse, Result, Ok, Err, Option, Some, None, is_some, if◌then◌else◌}
use Rattle.std.specs.List.{starts_with, ends_with, list_any, slice_split, flat_map}
use Rattle.std.specs.Str.{chars, encode_utf8_all, str_to_ascii_lowercase, str_to_ascii_uppercase}
use Rattle.nf_value.specs.Plain.{Plain, truth, int, text, list, plains_of}
use Rattle.nf_value.specs.declared.fault.EvalKind.{EvalKind}
use Rattle.nf_value.specs.declared.fault.EvalKind.TheVariants.{WrongKind, Arity}
use Rattle.nf_texts.specs.Outcome.{Outcome, ◌>>=◌}
use Rattle.nf_texts.specs.Args.{on_text, no_args, text_arg, text_args, int_arg, int_or, text_or}

-- the text of these characters
abbrev pub text_of : List ℕ → Plain
text_of cs = text (encode_utf8_all cs)

-- a count isn't negative
abbrev pub count_of : ℤ → Result ℕ EvalKind
count_of (pos n) = Ok n
count_of (negsuc n) = Err WrongKind

-- an argument that is a count
abbrev pub count_or_fault : Plain → Result ℕ EvalKind
count_or_fault v = int_or WrongKind v >>= count_of

-- the only argument, a count
abbrev pub count_arg : List Plain → Result ℕ EvalKind
count_arg args = int_arg args >>= count_of

-- `take(n)` and `drop(n)`
abbrev pub text_take : List ℕ → List Plain → Outcome
text_take t args = count_arg args >>= λ n. Ok (text_of (take n (chars t)))

abbrev pub text_drop : List ℕ → List Plain → Outcome
text_drop t args = count_arg args >>= λ n. Ok (text_of (drop n (chars t)))

-- `startsWith(t)` and `endsWith(t)`, by bytes
abbrev pub text_starts_with : Plain → List Plain → Outcome
text_starts_with recv args = on_text recv >>= λ t. text_arg args >>= λ n. Ok (truth (starts_with nat_eq t n))

abbrev pub text_ends_with : Plain → List Plain → Outcome
text_ends_with recv args = on_text recv >>= λ t. text_arg args >>= λ n. Ok (truth (ends_with nat_eq t n))

-- `isEmpty()`
abbrev pub text_is_empty : List ℕ → List Plain → Outcome
text_is_empty t args = no_args args >>= λ _. Ok (truth (length t == 0))

-- `size()`, and `length()`
abbrev pub text_size : List ℕ → List Plain → Outcome
text_size t args = no_args args >>= λ _. Ok (int (pos (length (chars t))))

abbrev pub text_length : Plain → List Plain → Outcome
text_length recv args = on_text recv >>= λ t. text_size t args

-- `reverse()`
abbrev pub text_reverse : List ℕ → List Plain → Outcome
text_reverse t args = no_args args >>= λ _. Ok (text_of (reverse (chars t)))

-- `toLowerCase()` and `toUpperCase()`
abbrev pub to_lower_case : Plain → List Plain → Outcome
to_lower_case recv args = on_text recv >>= λ t. no_args args >>= λ _. Ok (text (str_to_ascii_lowercase t))

abbrev pub to_upper_case : Plain → List Plain → Outcome
to_upper_case recv args = on_text recv >>= λ t. no_args args >>= λ _. Ok (text (str_to_ascii_uppercase t))

-- the characters from the place i on, and those of them before the place j
abbrev pub part_from : List ℕ → ℕ → Outcome
part_from cs i = if nat_le i (length cs) then Ok (text_of (drop i cs)) else Err WrongKind

abbrev pub part_between : List ℕ → ℕ → ℕ → Outcome
part_between cs i j = if nat_le i j then (if nat_le j (length cs) then Ok (text_of (take (j - i) (drop i cs))) else Err WrongKind) else Err WrongKind

-- `substring(i)` and `substring(i, j)`
abbrev pub substring_of : List ℕ → List Plain → Outcome
substring_of cs [] = Err Arity
substring_of cs (i ∷ []) = count_or_fault i >>= part_from cs
substring_of cs (i ∷ j ∷ []) = count_or_fault i >>= λ m. count_or_fault j >>= λ n. part_between cs m n
substring_of cs (i ∷ j ∷ k ∷ more) = Err Arity

abbrev pub substring : Plain → List Plain → Outcome
substring recv args = on_text recv >>= λ t. substring_of (chars t) args

-- the first place at which the text n stands in these characters, of which the first has the place k
abbrev pub place_from : ℕ → List ℕ → List ℕ → Option ℕ
place_from k n [] = if starts_with nat_eq [] n then Some k else None
place_from k n (c ∷ cs) = if starts_with nat_eq (encode_utf8_all (c ∷ cs)) n then Some k else place_from (k + 1) n cs

abbrev pub place_of : List ℕ → List ℕ → Option ℕ
place_of n t = place_from 0 n (chars t)

-- a place as a number, -1 where there is none
abbrev pub place_number : Option ℕ → ℤ
place_number (Some k) = pos k
place_number None = negsuc 0

-- `contains(t)` and `indexOf(t)`
abbrev pub text_contains : List ℕ → List Plain → Outcome
text_contains t args = text_arg args >>= λ n. Ok (truth (is_some (place_of n t)))

abbrev pub text_index_of : List ℕ → List Plain → Outcome
text_index_of t args = text_arg args >>= λ n. Ok (int (place_number (place_of n t)))

-- each a replaced by b, from left to right. The first k bytes are passed over: they belong to an a that was replaced
abbrev pub replaced_after : List ℕ → List ℕ → ℕ → List ℕ → List ℕ
replaced_after a b k [] = []
replaced_after a b (suc k) (c ∷ cs) = replaced_after a b k cs
replaced_after a b zero (c ∷ cs) = if starts_with nat_eq (c ∷ cs) a then b ++ replaced_after a b (length a - 1) cs else c ∷ replaced_after a b zero cs

abbrev pub replaced : List ℕ → List ℕ → List ℕ → List ℕ
replaced a b t = replaced_after a b 0 t

abbrev pub replaced_or_fault : List ℕ → List ℕ → List ℕ → Outcome
replaced_or_fault t a b = if length a == 0 then Err WrongKind else Ok (text (replaced a b t))

-- `replace(a, b)`
abbrev pub replace : Plain → List Plain → Outcome
replace recv args = on_text recv >>= λ t. text_args args >>= λ (a, b). replaced_or_fault t a b

-- without characters up to U+0020 at the front
abbrev pub without_blanks : List ℕ → List ℕ
without_blanks [] = []
without_blanks (c ∷ cs) = if nat_le c 32 then without_blanks cs else c ∷ cs

-- and at the end
abbrev pub trimmed : List ℕ → List ℕ
trimmed cs = reverse (without_blanks (reverse (without_blanks cs)))

-- `trim()`
abbrev pub trim : Plain → List Plain → Outcome
trim recv args = on_text recv >>= λ t. no_args args >>= λ _. Ok (text_of (trimmed (chars t)))

-- whether c is one of these characters
abbrev pub is_one_of : List ℕ → ℕ → Bool
is_one_of cs c = list_any (λ d. d == c) cs

-- the separators, where none are given: blank, tab and line end
abbrev pub blanks : List ℕ
blanks = 32 ∷ 9 ∷ 10 ∷ []

-- a part as a text; an empty part gives none
abbrev pub token_of : List ℕ → List Plain
token_of part = if length part == 0 then [] else text_of part ∷ []

-- the parts between separators, without empty ones
abbrev pub token_texts : (ℕ → Bool) → List ℕ → List Plain
token_texts p cs = flat_map token_of (slice_split p cs)

abbrev pub tokens_by : List ℕ → List ℕ → Plain
tokens_by separators t = list (plains_of (token_texts (is_one_of (chars separators)) (chars t)))

-- `tokenize()` and `tokenize(t)`
abbrev pub tokenize_of : List ℕ → List Plain → Outcome
tokenize_of t [] = Ok (tokens_by blanks t)
tokenize_of t (a ∷ []) = text_or WrongKind a >>= λ separators. Ok (tokens_by separators t)
tokenize_of t (a ∷ b ∷ more) = Err Arity

abbrev pub tokenize : Plain → List Plain → Outcome
tokenize recv args = on_text recv >>= λ t. tokenize_of t args
