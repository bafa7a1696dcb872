-- What a closure is to an operator.
use Rattle.std.specs.Prelude.{ℕ, Bool, List, Option}

pub record Facts : Type 0 where
  -- its labels
  pub labels : List (List ℕ)
  -- the name that it is, where it is just a name
  pub name : Option (List ℕ)
  -- whether it is one of the five that `reduce` takes
  pub is_total : Bool
