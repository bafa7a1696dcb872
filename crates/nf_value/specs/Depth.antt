-- How deep lists and maps stand in one another.
use Rattle.std.specs.Prelude.{ℕ, suc, max}
use Rattle.nf_value.specs.Plain.{Plain, null, truth, int, text, file, list, table, Plains, no_items, item, PlainPairs, no_pairs, pair}

-- a value that isn't a list or map has depth 0, an empty list or map 1
abbrev mutual
  pub depth_of : Plain → ℕ
  depth_of null = 0
  depth_of (truth b) = 0
  depth_of (int i) = 0
  depth_of (text t) = 0
  depth_of (file n d l) = 0
  depth_of (list vs) = suc (deepest vs)
  depth_of (table ps) = suc (deepest_pair ps)

  pub deepest : Plains → ℕ
  deepest no_items = 0
  deepest (item v vs) = max (depth_of v) (deepest vs)

  pub deepest_pair : PlainPairs → ℕ
  deepest_pair no_pairs = 0
  deepest_pair (pair k v ps) = max (depth_of v) (deepest_pair ps)
