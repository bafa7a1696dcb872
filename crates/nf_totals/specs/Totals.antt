-- Totals over two names.
use Rattle.std.specs.Prelude.{ℕ, Bool, not, ◌&&◌, ◌||◌, List, bytes_eq, Option, None}
use Rattle.nf_bag.specs.declared.options.Total.{Total}
use Rattle.nf_ast.specs.Tree.{Tree, empty, cons}
use Rattle.nf_meaning.specs.Totals.{folding_in, total_over}

-- the first two differ, and the last two are these in either order
abbrev pub are_both : List ℕ → List ℕ → List ℕ → List ℕ → Bool
are_both m n l r = not (bytes_eq m n) && ((bytes_eq l m && bytes_eq r n) || (bytes_eq l n && bytes_eq r m))

-- what the one expression of a body is
abbrev pub total_alone : List ℕ → List ℕ → Tree → Option Total
total_alone m n (cons e empty) = total_over m n (folding_in e)
total_alone m n _ = None
