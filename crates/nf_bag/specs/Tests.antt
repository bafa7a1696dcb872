-- Lists up to order, compared by tests, over any type.
use Rattle.std.specs.Prelude.{◌≡◌, ℕ, ◌≤◌, List, Bool, count_by}

-- no test holds of more items of a than of b
pub record IsSubByTests {A : Type 0} (a b : List A) : Type 0 where
  pub at : (test : A → Bool) → count_by test a ≤ count_by test b

-- each test holds of as many items of a as of b
pub record IsSameByTests {A : Type 0} (a b : List A) : Type 0 where
  pub at : (test : A → Bool) → count_by test a ≡ count_by test b
