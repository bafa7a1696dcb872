-- What options of a process may be: names, numbers, truths and words.
use Rattle.std.specs.Prelude.{◌≡◌, ℤ, pos, negsuc, ℕ, nat_le, Bool, true, false, List, if◌then◌else◌, Option, Some, None, Ok, Err}
use Rattle.nf_value.specs.declared.place.Place.{Place}
use Rattle.nf_builtins.specs.Natives.{is_among}
use Rattle.nf_ast.specs.Tree as tree
use Rattle.nf_ast.specs.Tree.{Tree, empty, cons}
use Rattle.nf_meaning.specs.declared.fault.LowerFault.TheVariants.{TwiceDefined, BadOption}
use Rattle.nf_meaning.specs.Lowered.{Lowered, unless, fault_if, wanted}
use Rattle.nf_meaning.specs.Processes.{OutputOptions, and_label}
use Rattle.nf_called.specs.declared.leaves.Leaf.{Leaf}
use Rattle.nf_called.specs.declared.leaves.Leaf.TheVariants as leaf

pub data LeafTree : Type 0 where
  name : Place → List ℕ → LeafTree
  number : ℤ → LeafTree
  truth : Bool → LeafTree
  -- a plain string, or a template without a hole
  word : List ℕ → LeafTree
  closure : LeafTree
  -- anything else
  other : LeafTree

abbrev pub piece_of : Tree → LeafTree
piece_of (cons (tree.piece p s) empty) = word s
piece_of _ = other

abbrev pub leaf_of : Tree → LeafTree
leaf_of (tree.name p n) = name p n
leaf_of (tree.number p z) = number z
leaf_of (tree.truth p b) = truth b
leaf_of (tree.text p k s) = word s
leaf_of (tree.template p k xs) = piece_of xs
leaf_of (tree.closure p ps b) = closure
leaf_of _ = other

abbrev pub view_leaf : Leaf → LeafTree
view_leaf (leaf.Name p n) = name p n.now
view_leaf (leaf.Number z) = number z
view_leaf (leaf.Truth b) = truth b
view_leaf (leaf.Word s) = word s.now
view_leaf leaf.Closure = closure
view_leaf leaf.Other = other

-- an expression, and no section, statement, label or argument with a name
abbrev pub is_alone : Tree → Bool
is_alone (tree.section p xs) = false
is_alone (tree.named n e) = false
is_alone (tree.tuple p xs) = false
is_alone (tree.val p e) = false
is_alone (tree.path p e) = false
is_alone _ = true

-- nothing is given, and the meaning has this expression
abbrev pub IsIt : Tree → Unit {0} → Tree → Type 0
IsIt e u t = t ≡ e

-- ---- what they say as options

abbrev pub leaf_word : LeafTree → Option (List ℕ)
leaf_word (word s) = Some s
leaf_word _ = None

abbrev pub is_closure : LeafTree → Bool
is_closure closure = true
is_closure _ = false

-- a number of times: at most 100
abbrev pub times_in : ℤ → Option ℕ
times_in (pos k) = if nat_le k 100 then Some k else None
times_in (negsuc k) = None

abbrev pub leaf_count : Place → LeafTree → Lowered ℕ
leaf_count p (number z) = wanted (times_in z) (BadOption p)
leaf_count p _ = Err (BadOption p)

abbrev pub leaf_emit : List (List ℕ) → Place → LeafTree → OutputOptions → Lowered OutputOptions
leaf_emit before p (name q n) o =
    unless (fault_if (is_among n (and_label o.label before)) (TwiceDefined q)) (Ok (record o { label = Some n }))
leaf_emit before p _ o = Err (BadOption p)

abbrev pub leaf_optional : Place → LeafTree → OutputOptions → Lowered OutputOptions
leaf_optional p (truth b) o = Ok (record o { optional = b })
leaf_optional p _ o = Err (BadOption p)
