-- Pairs of files by the key in their names. Patterns and names are lists of characters.
use Rattle.std.specs.Prelude.{ℕ, Bool, not, ◌&&◌, ◌==◌, nat_lt, List, [], ◌∷◌, ◌++◌, map, filter, length, reverse, option_map, bytes_eq, is_some, if◌then◌else◌, Option, Some, None}
use Rattle.std.specs.List.{flat_map}
use Rattle.std.specs.Str.{chars, encode_utf8_all}
use Rattle.nf_value.specs.declared.file.FileRef.{FileRef}
use Rattle.nf_value.specs.Plain.{Plain, text}
use Rattle.nf_job.specs.JobText.{file_plain}
use Rattle.nf_builtins.specs.Lists.{list_of}
use Rattle.nf_builtins.specs.Natives.{is_among}
use Rattle.nf_pattern.specs.Parting.{has}
use Rattle.nf_pattern.specs.Glob.{star, question, opening, closing, dot, pieces}
use Rattle.nf_pattern.specs.Literal.{is_literal_component}
use Rattle.nf_paths.specs.Paths.{name_at, is_source_path}

-- ---- the pattern: `FRONT*BETWEEN{FIRST,SECOND}BACK`

pub record PairPattern : Type 0 where
  pub front : List ℕ
  pub between : List ℕ
  pub first : List ℕ
  pub second : List ℕ
  pub back : List ℕ

-- what stands before and after the first such character
abbrev pub parted_at : ℕ → List ℕ → Option (List ℕ × List ℕ)
parted_at d [] = None
parted_at d (c ∷ cs) = if c == d then Some ([], cs) else option_map (λ x. (c ∷ x.0, x.1)) (parted_at d cs)

abbrev pub has_no_glob : List ℕ → Bool
has_no_glob cs = not (has star cs) && not (has question cs)

-- no other glob in it; a brace alone is none
abbrev pub is_pair_pattern : PairPattern → Bool
is_pair_pattern p =
    has_no_glob p.front && not (has opening p.front) && has_no_glob p.between && has_no_glob p.first && has_no_glob p.second
    && is_literal_component p.back

abbrev pub checked : PairPattern → Option PairPattern
checked p = if is_pair_pattern p then Some p else None

-- with two alternatives
abbrev pub with_pieces : List ℕ → List ℕ → List ℕ → List (List ℕ) → Option PairPattern
with_pieces front between back (a ∷ b ∷ []) = checked (record { front = front; between = between; first = a; second = b; back = back })
with_pieces front between back [] = None
with_pieces front between back (a ∷ []) = None
with_pieces front between back (a ∷ b ∷ c ∷ more) = None

abbrev pub with_inside : List ℕ → List ℕ → Option (List ℕ × List ℕ) → Option PairPattern
with_inside front between (Some x) = with_pieces front between x.1 (pieces x.0)
with_inside front between None = None

abbrev pub with_between : List ℕ → Option (List ℕ × List ℕ) → Option PairPattern
with_between front (Some x) = with_inside front x.0 (parted_at closing x.1)
with_between front None = None

abbrev pub with_front : Option (List ℕ × List ℕ) → Option PairPattern
with_front (Some x) = with_between x.0 (parted_at opening x.1)
with_front None = None

-- a component with one `*` and, after it, one `{a,b}`
abbrev pub pair_pattern : List ℕ → Option PairPattern
pair_pattern component = with_front (parted_at star component)

-- ---- the key of a file: what `*` matches in its name

-- what stands after this front, and before this end
abbrev pub stripped : List ℕ → List ℕ → Option (List ℕ)
stripped [] cs = Some cs
stripped (p ∷ ps) [] = None
stripped (p ∷ ps) (c ∷ cs) = if p == c then stripped ps cs else None

abbrev pub end_stripped : List ℕ → List ℕ → Option (List ℕ)
end_stripped end cs = option_map reverse (stripped (reverse end) (reverse cs))

-- `*` matches no dot at the start of a name
abbrev pub undotted : List ℕ → List ℕ → Option (List ℕ)
undotted [] (c ∷ cs) = if c == dot then None else Some (c ∷ cs)
undotted [] [] = Some []
undotted (p ∷ ps) key = Some key

abbrev pub and_then : {A B : Type 0} → Option A → (A → Option B) → Option B
and_then None f = None
and_then (Some x) f = f x

-- what is left between the front and, from the end, the back, the alternative and what stands between
abbrev pub key_with : PairPattern → List ℕ → List ℕ → Option (List ℕ)
key_with p alternative name =
    and_then (stripped p.front name) (λ a. and_then (end_stripped p.back a) (λ b. and_then (end_stripped alternative b)
    (λ c. and_then (end_stripped p.between c) (undotted p.front))))

abbrev pub longer : Option (List ℕ) → Option (List ℕ) → Option (List ℕ)
longer None k = k
longer (Some j) None = Some j
longer (Some j) (Some k) = if nat_lt (length j) (length k) then Some k else Some j

-- the longest key of a name
abbrev pub key_of : PairPattern → List ℕ → Option (List ℕ)
key_of p name = longer (key_with p p.first name) (key_with p p.second name)

-- ---- the pairs among files

-- a file and the key in its name, as bytes
pub record Keyed : Type 0 where
  pub key : List ℕ
  pub of : FileRef

abbrev pub with_key : FileRef → Option (List ℕ) → List Keyed
with_key f None = []
with_key f (Some key) = record { key = encode_utf8_all key; of = f } ∷ []

abbrev pub keyed : PairPattern → List FileRef → List Keyed
keyed p [] = []
keyed p (f ∷ fs) = with_key f (key_of p (chars f.name)) ++ keyed p fs

abbrev pub of_key : List ℕ → List Keyed → List FileRef
of_key key xs = map (λ x. x.of) (filter (λ x. bytes_eq x.key key) xs)

-- a key that hasn't exactly two files is dropped
abbrev pub pair_if_two : List ℕ → List FileRef → List Plain
pair_if_two key (f ∷ g ∷ []) = list_of (text key ∷ list_of (file_plain f ∷ file_plain g ∷ []) ∷ []) ∷ []
pair_if_two key [] = []
pair_if_two key (f ∷ []) = []
pair_if_two key (f ∷ g ∷ h ∷ more) = []

-- these keys, and then each other one once, in the order in which they come first
abbrev pub keys_from : List (List ℕ) → List Keyed → List (List ℕ)
keys_from before [] = before
keys_from before (x ∷ xs) = keys_from (if is_among x.key before then before else before ++ x.key ∷ []) xs

abbrev pub pairs_among : List Keyed → List Plain
pairs_among xs = flat_map (λ key. pair_if_two key (of_key key xs)) (keys_from [] xs)

abbrev pub pairs_by : Option PairPattern → List FileRef → List Plain
pairs_by None fs = []
pairs_by (Some p) fs = pairs_among (keyed p fs)

-- what a source of pairs gives of the files that match its path, which are in the order of their names
abbrev pub pairs_of : List ℕ → List FileRef → List Plain
pairs_of path fs = pairs_by (pair_pattern (name_at path)) fs

-- a path of a source of pairs
abbrev pub is_pair_path : List ℕ → Bool
is_pair_path path = is_source_path path && is_some (pair_pattern (name_at path))
