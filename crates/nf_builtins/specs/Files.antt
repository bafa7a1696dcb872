-- The outcomes of the methods of files, which are parts of their names.
use Rattle.std.specs.Prelude.{ℕ, ◌==◌, Bool, List, [], ◌∷◌, length, if◌then◌else◌, Ok, Option, Some, None}
use Rattle.std.specs.List.{before_first}
use Rattle.nf_value.specs.Plain.{Plain, text}
use Rattle.nf_texts.specs.Outcome.{Outcome, ◌>>=◌}
use Rattle.nf_texts.specs.Args.{on_file, no_args}

abbrev pub is_dot : ℕ → Bool
is_dot b = b == 46

-- what stands before the last dot, and what after it
abbrev pub after_one : ℕ → List ℕ → Option (List ℕ × List ℕ) → Option (List ℕ × List ℕ)
after_one c cs None = if is_dot c then Some ([], cs) else None
after_one c cs (Some parts) = Some (c ∷ parts.0, parts.1)

abbrev pub last_cut : List ℕ → Option (List ℕ × List ℕ)
last_cut [] = None
last_cut (c ∷ cs) = after_one c cs (last_cut cs)

-- a dot at the front begins no extension
abbrev pub cut_base : List ℕ → Option (List ℕ × List ℕ) → List ℕ
cut_base n None = n
cut_base n (Some parts) = if length parts.0 == 0 then n else parts.0

abbrev pub cut_end : Option (List ℕ × List ℕ) → List ℕ
cut_end None = []
cut_end (Some parts) = if length parts.0 == 0 then [] else parts.1

-- the name without its last extension, and that extension
abbrev pub base_name_of : List ℕ → List ℕ
base_name_of n = cut_base n (last_cut n)

abbrev pub extension_of : List ℕ → List ℕ
extension_of n = cut_end (last_cut n)

-- what stands before the first dot
abbrev pub simple_name_of : List ℕ → List ℕ
simple_name_of n = before_first is_dot n

-- `name` and `getName()`, `baseName` and `getBaseName()`, `extension` and `getExtension()`, `simpleName` and `getSimpleName()`
abbrev pub file_name : Plain → List Plain → Outcome
file_name recv args = on_file recv >>= λ n. no_args args >>= λ _. Ok (text n)

abbrev pub file_base_name : Plain → List Plain → Outcome
file_base_name recv args = on_file recv >>= λ n. no_args args >>= λ _. Ok (text (base_name_of n))

abbrev pub file_extension : Plain → List Plain → Outcome
file_extension recv args = on_file recv >>= λ n. no_args args >>= λ _. Ok (text (extension_of n))

abbrev pub file_simple_name : Plain → List Plain → Outcome
file_simple_name recv args = on_file recv >>= λ n. no_args args >>= λ _. Ok (text (simple_name_of n))
