-- The text of a value.
use Rattle.std.specs.Prelude.{List, ℕ, [], ◌∷◌, ◌++◌, true, false, codes}
use Rattle.std.specs.List.{join_by}
use Rattle.std.specs.Fmt.{signed_decimal}
use Rattle.nf_value.specs.Plain.{Plain, null, truth, int, text, file, list, table, Plains, no_items, item, PlainPairs, no_pairs, pair}

-- texts with `, ` between each two
abbrev pub with_commas : List (List ℕ) → List ℕ
with_commas = join_by (λ t. t) (codes ", ")

-- what stands between the brackets of a map: a colon alone in an empty one
abbrev pub entries_text : List (List ℕ) → List ℕ
entries_text [] = codes ":"
entries_text (t ∷ ts) = with_commas (t ∷ ts)

abbrev pub bracketed : List ℕ → List ℕ
bracketed t = codes "[" ++ t ++ codes "]"

abbrev mutual
  pub value_text : Plain → List ℕ
  value_text null = codes "null"
  value_text (truth true) = codes "true"
  value_text (truth false) = codes "false"
  value_text (int i) = signed_decimal i
  value_text (text t) = t
  value_text (file n d l) = n
  value_text (list vs) = bracketed (with_commas (item_texts vs))
  value_text (table ps) = bracketed (entries_text (pair_texts ps))

  pub item_texts : Plains → List (List ℕ)
  item_texts no_items = []
  item_texts (item v vs) = value_text v ∷ item_texts vs

  pub pair_texts : PlainPairs → List (List ℕ)
  pair_texts no_pairs = []
  pair_texts (pair k v ps) = (k ++ codes ":" ++ value_text v) ∷ pair_texts ps
