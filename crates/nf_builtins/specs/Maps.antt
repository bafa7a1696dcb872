-- The outcomes of the methods of maps.
use Rattle.std.specs.Prelude.{ℕ, pos, nat_eq, ◌==◌, Bool, false, ◌||◌, List, Ok}
use Rattle.std.specs.Cmp.Lexicographic.{pointwise}
use Rattle.nf_value.specs.Plain.{Plain, text, int, truth, list, Plains, no_items, item, PlainPairs, no_pairs, pair}
use Rattle.nf_value.specs.Code.{count_pairs}
use Rattle.nf_texts.specs.Outcome.{Outcome, ◌>>=◌}
use Rattle.nf_texts.specs.Args.{on_table, no_args, text_arg}

abbrev pub has_key : List ℕ → PlainPairs → Bool
has_key k no_pairs = false
has_key k (pair l v ps) = pointwise nat_eq l k || has_key k ps

abbrev pub keys_of : PlainPairs → Plains
keys_of no_pairs = no_items
keys_of (pair k v ps) = item (text k) (keys_of ps)

abbrev pub values_of : PlainPairs → Plains
values_of no_pairs = no_items
values_of (pair k v ps) = item v (values_of ps)

-- `containsKey(k)`
abbrev pub contains_key : Plain → List Plain → Outcome
contains_key recv args = on_table recv >>= λ ps. text_arg args >>= λ k. Ok (truth (has_key k ps))

-- `keySet()` and `values()`
abbrev pub key_set : Plain → List Plain → Outcome
key_set recv args = on_table recv >>= λ ps. no_args args >>= λ _. Ok (list (keys_of ps))

abbrev pub map_values : Plain → List Plain → Outcome
map_values recv args = on_table recv >>= λ ps. no_args args >>= λ _. Ok (list (values_of ps))

-- `isEmpty()` and `size()`
abbrev pub map_is_empty : PlainPairs → List Plain → Outcome
map_is_empty ps args = no_args args >>= λ _. Ok (truth (count_pairs ps == 0))

abbrev pub map_size : PlainPairs → List Plain → Outcome
map_size ps args = no_args args >>= λ _. Ok (int (pos (count_pairs ps)))
