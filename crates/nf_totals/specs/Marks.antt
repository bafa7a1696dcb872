-- The total that stands between two names.
use Rattle.std.specs.Prelude.{◌≡◌, ℕ, Bool, true, false, List, codes, bytes_eq, if◌then◌else◌, Option, Some, None}
use Rattle.nf_value.specs.declared.place.Place.{Place}
use Rattle.nf_bag.specs.declared.options.Total.{Total}
use Rattle.nf_bag.specs.declared.options.Total.TheVariants.{Sum, Least, Greatest, All, Any}
use Rattle.nf_ast.specs.declared.operators.InfixOperator.{InfixOperator}
use Rattle.nf_ast.specs.declared.operators.InfixOperator.TheVariants as infix_operator
use Rattle.nf_ast.specs.Tree as tree
use Rattle.nf_ast.specs.Tree.{Tree}
use Rattle.nf_ast.specs.View.{trees}
use Rattle.nf_placed.specs.Body.{name_in}
use Rattle.nf_meaning.specs.Totals.{folding_in, total_over}
use Rattle.nf_slips.specs.Forms as form
use Rattle.nf_slips.specs.Forms.{form_of}
use Rattle.nf_totals.specs.Totals.{are_both}

-- by the mark of an operator
abbrev pub sign_total : InfixOperator → Option Total
sign_total infix_operator.Plus = Some Sum
sign_total infix_operator.And = Some All
sign_total infix_operator.Or = Some Any
sign_total _ = None

-- by the name of a function of `Math`
abbrev pub name_total : List ℕ → Option Total
name_total n =
    if bytes_eq n (codes "min") then Some Least else if bytes_eq n (codes "max") then Some Greatest else None

abbrev pub maybe_named : Option (List ℕ) → Option Total
maybe_named None = None
maybe_named (Some n) = name_total n

-- the name after the last dot
abbrev pub property_in : Tree → Option (List ℕ)
property_in (tree.property e n) = Some (name_in n)
property_in _ = None

abbrev pub callee_total : Tree → Option Total
callee_total t = maybe_named (property_in t)

abbrev pub is_call : Tree → Bool
is_call (tree.call p f xs) = true
is_call _ = false

-- a call of this
pub record IsCallOf (t f : Tree) : Type 0 where
  pub place : Place
  pub args : List Tree
  pub is : t ≡ tree.call place f (trees args)

-- where the tree is an operator between two operands, this is the operator's total
abbrev pub IsSignOf : Tree → Option Total → Type 0
IsSignOf t k = (p : Place) (o : InfixOperator) (a b : Tree) → t ≡ tree.binary p o a b → k ≡ sign_total o

-- the total of two names, if they are these in either order
abbrev pub if_both : List ℕ → List ℕ → List ℕ → List ℕ → Option Total → Option Total
if_both m n l r k = if are_both m n l r then k else None

-- where the tree is a total of two names, this is which one
abbrev pub IsMarkOf : Tree → Option Total → Type 0
IsMarkOf t k =
    (m n l r : List ℕ) → form_of t ≡ form.total l r → total_over m n (folding_in t) ≡ if_both m n l r k
