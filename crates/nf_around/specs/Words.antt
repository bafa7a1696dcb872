-- Closures that are just a name.
use Rattle.std.specs.Prelude.{◌≡◌, ℕ, List, Option, Some, None}
use Rattle.std.specs.Borrow.{Bor}
use Rattle.nf_ast.specs.Tree as tree
use Rattle.nf_ast.specs.Tree.{Tree, empty, cons}

abbrev pub name_alone : Tree → Option (List ℕ)
name_alone (tree.name p n) = Some n
name_alone _ = None

-- the name that is all that stands in a body
abbrev pub word_in : Tree → Option (List ℕ)
word_in (cons e empty) = name_alone e
word_in _ = None

-- the same, where there is no arrow
abbrev pub word_after : Tree → Tree → Option (List ℕ)
word_after empty b = word_in b
word_after _ b = None

abbrev pub IsWord : Bor (List ℕ) → List ℕ → Type 0
IsWord n m = n.now ≡ m
