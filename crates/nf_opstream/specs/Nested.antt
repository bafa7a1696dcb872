-- The members of lists and maps.
use Rattle.std.specs.Prelude.{ℕ, List, [], ◌∷◌, ◌++◌, codes}
use Rattle.nf_value.specs.Plain.{Plain, null, truth, int, text, file, list, table, Plains, no_items, item, PlainPairs, no_pairs, pair}

abbrev pub items_of : Plains → List Plain
items_of no_items = []
items_of (item v vs) = v ∷ items_of vs

-- a pair as a map
abbrev pub pair_map : List ℕ → Plain → Plain
pair_map k v = table (pair (codes "key") (text k) (pair (codes "value") v no_pairs))

abbrev pub maps_of : PlainPairs → List Plain
maps_of no_pairs = []
maps_of (pair k v ps) = pair_map k v ∷ maps_of ps

-- a list's items, a map's pairs, or the value itself
abbrev pub opened : Plain → List Plain
opened null = null ∷ []
opened (truth b) = truth b ∷ []
opened (int i) = int i ∷ []
opened (text t) = text t ∷ []
opened (file n d l) = file n d l ∷ []
opened (list vs) = items_of vs
opened (table ps) = maps_of ps

-- what a list and the lists in it hold, down to what is no list; or the value itself
abbrev mutual
  pub leaves : Plain → List Plain
  leaves null = null ∷ []
  leaves (truth b) = truth b ∷ []
  leaves (int i) = int i ∷ []
  leaves (text t) = text t ∷ []
  leaves (file n d l) = file n d l ∷ []
  leaves (list vs) = all_leaves vs
  leaves (table ps) = table ps ∷ []

  pub all_leaves : Plains → List Plain
  all_leaves no_items = []
  all_leaves (item v vs) = leaves v ++ all_leaves vs
