-- What is read of a value.
use Rattle.std.specs.Prelude.{ℕ, zero, suc, ℤ, pos, negsuc, nat_eq, List, reverse, slice_get, Option, Some, None, if◌then◌else◌, Ok, Err}
use Rattle.std.specs.Cmp.Lexicographic.{pointwise}
use Rattle.nf_value.specs.Plain.{Plain, null, truth, int, text, file, list, table, PlainPairs, no_pairs, pair}
use Rattle.nf_value.specs.declared.fault.EvalKind.TheVariants.{WrongKind}
use Rattle.nf_texts.specs.Outcome.{Outcome, ◌>>=◌}
use Rattle.nf_texts.specs.Args.{int_or, text_or, items_of}

abbrev pub or_null : Option Plain → Plain
or_null (Some v) = v
or_null None = null

-- the item at a place, where -1 is that of the last
abbrev pub item_at : List Plain → ℤ → Plain
item_at vs (pos n) = or_null (slice_get vs n)
item_at vs (negsuc zero) = or_null (slice_get (reverse vs) 0)
item_at vs (negsuc (suc n)) = null

-- the value of a key
abbrev pub value_at : List ℕ → PlainPairs → Plain
value_at k no_pairs = null
value_at k (pair l v ps) = if pointwise nat_eq l k then v else value_at k ps

abbrev pub list_index : List Plain → Plain → Outcome
list_index vs w = int_or WrongKind w >>= λ i. Ok (item_at vs i)

abbrev pub map_index : PlainPairs → Plain → Outcome
map_index ps w = text_or WrongKind w >>= λ k. Ok (value_at k ps)

-- `a[b]`
abbrev pub index : Plain → Plain → Outcome
index (list vs) w = list_index (items_of vs) w
index (table ps) w = map_index ps w
index null w = Err WrongKind
index (truth c) w = Err WrongKind
index (int i) w = Err WrongKind
index (text t) w = Err WrongKind
index (file n d l) w = Err WrongKind
