-- The arms of a conditional expression, in the row of its operands.
use Rattle.std.specs.Prelude.{◌≡◌, ℕ, zero, suc, List, [], ◌∷◌, ◌++◌, Option, Some, None}
use Rattle.nf_ast.specs.declared.operators.BranchOperator.{BranchOperator}
use Rattle.nf_ast.specs.declared.operators.BranchOperator.TheVariants as branch
use Rattle.nf_ast.specs.View.{BranchTree}

-- how many conditions wait after an operator where so many wait before it; none, where a `:` finds none that waits
abbrev pub closed_one : ℕ → Option ℕ
closed_one zero = None
closed_one (suc k) = Some k

abbrev pub waiting : BranchOperator → ℕ → Option ℕ
waiting branch.Then k = Some (suc k)
waiting branch.Elvis k = Some k
waiting branch.Else k = closed_one k

abbrev pub waiting_or_none : Option ℕ → (ℕ → Option ℕ) → Option ℕ
waiting_or_none None f = None
waiting_or_none (Some k) f = f k

-- the same after operands in a row
abbrev pub waiting_after : ℕ → List BranchTree → Option ℕ
waiting_after k [] = Some k
waiting_after k (x ∷ xs) = waiting_or_none (waiting x.operator k) (λ m. waiting_after m xs)

-- nothing is left, or a `:` with what follows, where no condition waits
abbrev pub IsOther : Option ℕ → List BranchTree → Type 0
IsOther (Some k) [] = Unit {0}
IsOther (Some zero) (x ∷ xs) = x.operator ≡ branch.Else
IsOther (Some (suc k)) (x ∷ xs) = ⊥
IsOther None xs = ⊥

-- an arm, in which each `:` has its condition, and the rest
pub record AreArms (all arm other : List BranchTree) : Type 0 where
  pub all_are : all ≡ arm ++ other
  pub ends : IsOther (waiting_after 0 arm) other
