-- The outcome of each method.
use Rattle.std.specs.Prelude.{◌≡◌, ◌<◌, ℕ, List, Bool, true, false, Err, IfSome, slice_get}
use Rattle.nf_value.specs.Plain.{Plain, null, truth, int, text, file, list, table, PlainPairs}
use Rattle.nf_value.specs.declared.fault.EvalKind.TheVariants.{NoMethod}
use Rattle.nf_builtins.specs.declared.method.Method.{Method}
use Rattle.nf_builtins.specs.declared.method.Method.TheVariants as m
use Rattle.nf_builtins.specs.declared.rows.Builtin.{Builtin}
use Rattle.nf_builtins.specs.declared.rows.TheConstants.{ROWS}
use Rattle.nf_texts.specs.Outcome.{Outcome}
use Rattle.nf_builtins.specs.Rows.{is_closure}
use Rattle.nf_texts.specs.Args.{items_of}
use Rattle.nf_builtins.specs.Numbers.{math_abs, math_max, math_min, intdiv, is_integer, to_integer}
use Rattle.nf_texts.specs.Texts.{text_take, text_drop, text_starts_with, text_ends_with, text_is_empty, text_size, text_length, text_reverse, to_lower_case, to_upper_case, substring, text_contains, text_index_of, replace, trim, tokenize}
use Rattle.nf_builtins.specs.Lists.{list_contains, list_index_of, list_take, list_drop, list_is_empty, list_size, list_reverse, list_first, list_last, list_sort, list_unique, list_flatten, list_max, list_min, list_sum}
use Rattle.nf_texts.specs.Joined.{list_join, to_text}
use Rattle.nf_builtins.specs.Maps.{contains_key, key_set, map_values, map_is_empty, map_size}
use Rattle.nf_builtins.specs.Files.{file_name, file_base_name, file_extension, file_simple_name}

-- the rows of the table
abbrev pub builtin_rows : List Builtin
builtin_rows = ROWS.now

-- a row that takes no closure
abbrev pub IsPlainRow : ℕ → Type 0
IsPlainRow row = (row < 48) × IfSome (slice_get builtin_rows row) (λ b. is_closure b.form ≡ false)

-- what a row gives for texts, lists and maps, where it is read on these
abbrev pub by_kind : Plain → (List ℕ → Outcome) → (List Plain → Outcome) → (PlainPairs → Outcome) → Outcome
by_kind (text t) f g h = f t
by_kind (list vs) f g h = g (items_of vs)
by_kind (table ps) f g h = h ps
by_kind null f g h = Err NoMethod
by_kind (truth b) f g h = Err NoMethod
by_kind (int i) f g h = Err NoMethod
by_kind (file n d l) f g h = Err NoMethod

abbrev pub text_or_list : Plain → (List ℕ → Outcome) → (List Plain → Outcome) → Outcome
text_or_list v f g = by_kind v f g (λ _. Err NoMethod)

abbrev pub contains_row : Plain → List Plain → Outcome
contains_row recv args = text_or_list recv (λ t. text_contains t args) (λ vs. list_contains vs args)

abbrev pub drop_row : Plain → List Plain → Outcome
drop_row recv args = text_or_list recv (λ t. text_drop t args) (λ vs. list_drop vs args)

abbrev pub take_row : Plain → List Plain → Outcome
take_row recv args = text_or_list recv (λ t. text_take t args) (λ vs. list_take vs args)

abbrev pub index_of_row : Plain → List Plain → Outcome
index_of_row recv args = text_or_list recv (λ t. text_index_of t args) (λ vs. list_index_of vs args)

abbrev pub reverse_row : Plain → List Plain → Outcome
reverse_row recv args = text_or_list recv (λ t. text_reverse t args) (λ vs. list_reverse vs args)

abbrev pub is_empty_row : Plain → List Plain → Outcome
is_empty_row recv args = by_kind recv (λ t. text_is_empty t args) (λ vs. list_is_empty vs args) (λ ps. map_is_empty ps args)

abbrev pub size_row : Plain → List Plain → Outcome
size_row recv args = by_kind recv (λ t. text_size t args) (λ vs. list_size vs args) (λ ps. map_size ps args)

-- the methods that take a closure are the evaluator's
abbrev pub is_plain : Method → Bool
is_plain m.Any = false
is_plain m.Collect = false
is_plain m.Every = false
is_plain m.Find = false
is_plain m.FindAll = false
is_plain _ = true

-- what a method without a closure gives, before its value is limited
abbrev pub answer_of : Method → Plain → List Plain → Outcome
answer_of m.MathAbs recv args = math_abs args
answer_of m.MathMax recv args = math_max args
answer_of m.MathMin recv args = math_min args
answer_of m.BaseName recv args = file_base_name recv args
answer_of m.Contains recv args = contains_row recv args
answer_of m.ContainsKey recv args = contains_key recv args
answer_of m.Drop recv args = drop_row recv args
answer_of m.EndsWith recv args = text_ends_with recv args
answer_of m.Extension recv args = file_extension recv args
answer_of m.First recv args = list_first recv args
answer_of m.Flatten recv args = list_flatten recv args
answer_of m.GetBaseName recv args = file_base_name recv args
answer_of m.GetExtension recv args = file_extension recv args
answer_of m.GetName recv args = file_name recv args
answer_of m.GetSimpleName recv args = file_simple_name recv args
answer_of m.IndexOf recv args = index_of_row recv args
answer_of m.Intdiv recv args = intdiv recv args
answer_of m.IsEmpty recv args = is_empty_row recv args
answer_of m.IsInteger recv args = is_integer recv args
answer_of m.Join recv args = list_join recv args
answer_of m.KeySet recv args = key_set recv args
answer_of m.Last recv args = list_last recv args
answer_of m.Length recv args = text_length recv args
answer_of m.Max recv args = list_max recv args
answer_of m.Min recv args = list_min recv args
answer_of m.Name recv args = file_name recv args
answer_of m.Replace recv args = replace recv args
answer_of m.Reverse recv args = reverse_row recv args
answer_of m.SimpleName recv args = file_simple_name recv args
answer_of m.Size recv args = size_row recv args
answer_of m.Sort recv args = list_sort recv args
answer_of m.StartsWith recv args = text_starts_with recv args
answer_of m.Substring recv args = substring recv args
answer_of m.Sum recv args = list_sum recv args
answer_of m.Take recv args = take_row recv args
answer_of m.ToInteger recv args = to_integer recv args
answer_of m.ToLowerCase recv args = to_lower_case recv args
answer_of m.ToText recv args = to_text recv args
answer_of m.ToUpperCase recv args = to_upper_case recv args
answer_of m.Tokenize recv args = tokenize recv args
answer_of m.Trim recv args = trim recv args
answer_of m.Unique recv args = list_unique recv args
answer_of m.Values recv args = map_values recv args
answer_of m.Any recv args = Err NoMethod
answer_of m.Collect recv args = Err NoMethod
answer_of m.Every recv args = Err NoMethod
answer_of m.Find recv args = Err NoMethod
answer_of m.FindAll recv args = Err NoMethod
