-- What it is to take the longest mark.
use Rattle.std.specs.Prelude.{◌≡◌, ℕ, ◌≤◌, List, ◌++◌, length, Option, Some}
use Rattle.std.specs.List.{Contains}
use Rattle.nf_token.specs.declared.token.Mark.{Mark}

-- what was found is a mark of the list with which the bytes begin, and it is no shorter than x
pub record IsLongest (ms : List (List ℕ × Mark)) (found : Option (Mark × ℕ)) (bs : List ℕ) (x : List ℕ × Mark) : Type 0 where
  pub row : List ℕ × Mark
  pub rest : List ℕ
  pub listed : Contains ms row
  pub stands : bs ≡ row.0 ++ rest
  pub taken : found ≡ Some (row.1, length row.0)
  pub longest : length x.0 ≤ length row.0
