-- Expressions that are just a name or a plain string.
use Rattle.std.specs.Prelude.{ℕ, Bool, true, false, List, [], ◌∷◌}
use Rattle.nf_value.specs.declared.place.Place.{Place}
use Rattle.nf_ast.specs.Tree as tree
use Rattle.nf_ast.specs.Tree.{Tree}
use Rattle.nf_names_used.specs.declared.leaves.Leaf.{Leaf}
use Rattle.nf_names_used.specs.declared.leaves.Leaf.TheVariants as l

pub data LeafTree : Type 0 where
  name : Place → List ℕ → LeafTree
  -- a plain string
  text : Place → List ℕ → LeafTree
  other : LeafTree

abbrev pub leaf_of : Tree → LeafTree
leaf_of (tree.name p n) = name p n
leaf_of (tree.text p k s) = text p s
leaf_of _ = other

abbrev pub view_leaf : Leaf → LeafTree
view_leaf (l.Name p n) = name p n.now
view_leaf (l.Text p s) = text p s.now
view_leaf l.Other = other

abbrev pub is_nil : {A : Type 0} → List A → Bool
is_nil [] = true
is_nil (x ∷ xs) = false
