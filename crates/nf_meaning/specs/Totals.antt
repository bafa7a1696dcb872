-- Which total the closure of `reduce` stands for.
use Rattle.std.specs.Prelude.{ℕ, ◌&&◌, ◌||◌, not, Bool, false, List, codes, bytes_eq, if◌then◌else◌, Option, Some, None}
use Rattle.nf_ast.specs.declared.operators.InfixOperator.{InfixOperator}
use Rattle.nf_ast.specs.declared.operators.InfixOperator.TheVariants as infix_operator
use Rattle.nf_ast.specs.Tree as tree
use Rattle.nf_ast.specs.Tree.{Tree, empty, cons}
use Rattle.nf_bag.specs.declared.options.Total.{Total}
use Rattle.nf_bag.specs.declared.options.Total.TheVariants.{Sum, Least, Greatest, All, Any}
use Rattle.nf_names_used.specs.Body.{name_in, is_math}

-- ---- a function of two operands

pub record Folding : Type 0 where
  pub total : Total
  pub left : Tree
  pub right : Tree

abbrev pub folding : Total → Tree → Tree → Option Folding
folding t a b = Some (record { total = t; left = a; right = b })

abbrev pub by_mark : InfixOperator → Tree → Tree → Option Folding
by_mark infix_operator.Plus a b = folding Sum a b
by_mark infix_operator.And a b = folding All a b
by_mark infix_operator.Or a b = folding Any a b
by_mark _ a b = None

abbrev pub by_word : List ℕ → Tree → Tree → Option Folding
by_word n a b =
    if bytes_eq n (codes "min") then folding Least a b
    else if bytes_eq n (codes "max") then folding Greatest a b
    else None

abbrev pub by_math : Tree → List ℕ → Tree → Tree → Option Folding
by_math e n a b = if is_math e then by_word n a b else None

abbrev pub by_args : Tree → List ℕ → Tree → Option Folding
by_args e n (cons a (cons b empty)) = by_math e n a b
by_args e n _ = None

-- `a + b`, `a && b`, `a || b`, `Math.min(a, b)` or `Math.max(a, b)`
abbrev pub folding_in : Tree → Option Folding
folding_in (tree.binary p k a b) = by_mark k a b
folding_in (tree.call p (tree.property e n) xs) = by_args e (name_in n) xs
folding_in _ = None

-- ---- over two parameters

abbrev pub is_name : List ℕ → Tree → Bool
is_name n (tree.name p m) = bytes_eq m n
is_name n _ = false

-- two different names, in either order
abbrev pub are_both : List ℕ → List ℕ → Tree → Tree → Bool
are_both m n a b = not (bytes_eq m n) && ((is_name m a && is_name n b) || (is_name n a && is_name m b))

abbrev pub total_over : List ℕ → List ℕ → Option Folding → Option Total
total_over m n (Some f) = if are_both m n f.left f.right then Some f.total else None
total_over m n None = None

-- the parameters and the one expression
abbrev pub total_in : Tree → Tree → Option Total
total_in (tree.params (cons a (cons b empty))) (cons e empty) = total_over (name_in a) (name_in b) (folding_in e)
total_in _ _ = None

abbrev pub total_of : Tree → Option Total
total_of (tree.closure p ps b) = total_in ps b
total_of _ = None
